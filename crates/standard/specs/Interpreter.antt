-- The interpreter: what a statement does, and how the processes run, a bit time at a time. Assumes nothing.
use Rattle.std.specs.Prelude.{ℕ, zero, suc, ◌+◌, ◌*◌, ◌/◌, ◌%◌, ◌^◌, Bool, List, [], ◌∷◌, eqb, get_or, set, Option, None, Some}
use Rattle.octets.specs.Base.{pick}
use Rattle.octets.specs.Bits.{digit}
use Rattle.station_symbols.specs.declared.Emission.{Emission}
use Rattle.station_spec.specs.declared.TransmitEvent.{TransmitEvent}
use Rattle.station_spec.specs.declared.ReceiveEvent.{ReceiveEvent}
use Rattle.station_spec.specs.declared.Stored.{Stored}
use Rattle.standard.specs.Language.{Store, store, Moment, offer, look, bit, over, Statement, ◌≔◌, ◌≔#◌, emit}
use Rattle.standard.specs.Language.{report, hand, keep, row, skip, ◌⨾◌, test, while, repeat, cycle, call, await}
use Rattle.standard.specs.Language.{put_flag, put_number}

-- ---- statements that write no variable

-- "low bit first": the octets of a frame with bit k, and none after it in its octet
abbrev pub kept_in : List ℕ → Option Stored → List ℕ
kept_in l None = l
kept_in l (Some b) =
    set l (b.bit / 8) (get_or l (b.bit / 8) 0 % 2 ^ (b.bit % 8) + digit b.one * 2 ^ (b.bit % 8))

abbrev pub with_emission : Emission → Store → Store
with_emission e s =
    store s.deference
    (record { variables = s.transmission.variables; emission = e; sent = s.transmission.sent })
    s.reception
    s.signals

abbrev pub with_report : TransmitEvent → Store → Store
with_report v s =
    store s.deference
    (record { variables = s.transmission.variables; emission = s.transmission.emission; sent = Some v })
    s.reception
    s.signals

abbrev pub with_reception : List Bool → List ℕ → Option ReceiveEvent → Option Stored → Store → Store
with_reception w l g b s =
    store s.deference s.transmission
    (record { variables = s.reception.variables; row = w; incoming = l; got = g; stored = b })
    s.signals

abbrev pub with_handed : ReceiveEvent → Store → Store
with_handed g s = with_reception s.reception.row s.reception.incoming (Some g) s.reception.stored s

abbrev pub with_row : List Bool → Store → Store
with_row w s = with_reception w s.reception.incoming s.reception.got s.reception.stored s

abbrev pub with_kept : Option Stored → Store → Store
with_kept b s = with_reception s.reception.row (kept_in s.reception.incoming b) s.reception.got b s

-- ---- a process

-- where a process stands: it waits for a moment, with what it then has to do; or it has stopped for good
pub data Place : Type 0 where
  waiting : Moment → List Statement → Place
  stopped : Place

pub record Ran : Type 0 where
  pub place : Place
  pub result : Store

abbrev pub ran : Place → Store → Ran
ran p s = record { place = p; result = s }

-- a process does its statements one by one until it comes to an `await`; n bounds their number
unfoldable pub execute : ℕ → List Statement → Store → Ran
execute zero k s = ran stopped s
execute (suc n) [] s = ran stopped s
execute (suc n) (x ≔ e ∷ k) s = execute n k (put_flag x (e s) s)
execute (suc n) (x ≔# e ∷ k) s = execute n k (put_number x (e s) s)
execute (suc n) (emit e ∷ k) s = execute n k (with_emission (e s) s)
execute (suc n) (report e ∷ k) s = execute n k (with_report (e s) s)
execute (suc n) (hand e ∷ k) s = execute n k (with_handed (e s) s)
execute (suc n) (keep e ∷ k) s = execute n k (with_kept (e s) s)
execute (suc n) (row e ∷ k) s = execute n k (with_row (e s) s)
execute (suc n) (skip ∷ k) s = execute n k s
execute (suc n) ((a ⨾ b) ∷ k) s = execute n (a ∷ b ∷ k) s
execute (suc n) (test c a b ∷ k) s = execute n (pick (c s) a b ∷ k) s
execute (suc n) (while c b ∷ k) s = execute n (pick (c s) (b ∷ while c b ∷ k) k) s
execute (suc n) (repeat b c ∷ k) s = execute n (b ∷ test c skip (repeat b c) ∷ k) s
execute (suc n) (cycle b ∷ k) s = execute n (b ∷ cycle b ∷ []) s
execute (suc n) (call b ∷ k) s = execute n (b ∷ k) s
execute (suc n) (await m ∷ k) s = ran (waiting m k) s

-- more statements than any process does between two awaits
abbrev pub enough : ℕ
enough = 64

abbrev pub moment_place : Moment → ℕ
moment_place offer = 0
moment_place look = 1
moment_place bit = 2
moment_place over = 3

-- a process has its turn at a moment: it goes on if that is the moment that it waits for
unfoldable pub turn : Moment → Place → Store → Ran
turn m (waiting w k) s = pick (eqb (moment_place m) (moment_place w)) (execute enough k s) (ran (waiting w k) s)
turn m stopped s = ran stopped s
