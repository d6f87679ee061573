-- On a sheet that fits no frame is lost, over every list of calls from a fresh start: a corollary of demand 3. Which
-- frames are lost is said in the specs' Lost. Assumes nothing.
use Rattle.std.specs.Prelude.{ℕ, ◌≡◌, List, [], ◌∷◌, Some}
use Rattle.std.proofs.Common.{arith}
use Rattle.octets.specs.Base.{accepted}
use Rattle.octets.specs.NumberLaws.{Octets}
use Rattle.sheet_layout.specs.declared.Layout.{Layout}
use Rattle.sheet_layout.specs.Fit.{fit_of}
use Rattle.sheet_read.specs.Sheet.{read_sheet}
use Rattle.bus_start.specs.Start.{started}
use Rattle.station_spec.specs.declared.ReceiveEvent.TheVariants.{GotOk}
use Rattle.delivery.specs.Calls.{Call, AllFair, Moment, log, end, begin, got_at}
use Rattle.delivery.specs.Demand3.{Sender, Demand3}
use Rattle.delivery.proofs.Theorem.{demand_3}
use Rattle.delivery.specs.Lost.{due_at, Due, Lost}

module _ (y : Layout) (T : List Moment) (m : Moment) (holds : Demand3 y T m) (t i j : ℕ) (g : Due y T t i j) where
  from_sender : Sender y T (due_at y t i j) j
  from_sender =
      record {
        from = i;
        at = t;
        attempts = g.attempts;
        station = g.sender;
        other = g.other;
        delay = omega arith;
        sent = g.sent;
        for = g.for;
      }

  -- a frame that is due was got, and in that step no other station's
  pub always_got : ((k : ℕ) × (got_at T (due_at y t i j) j ≡ Some (GotOk k)))
      × ((s : Sender y T (due_at y t i j) j) → s.from ≡ i)
  unfolding from_sender
  always_got = (
    holds.delivered (due_at y t i j) j (omega (arith, g.made)) g.addressee from_sender,
    (λ s. holds.one (due_at y t i j) j (omega (arith, g.made)) g.addressee s from_sender),
  )

pub none_lost : (y : Layout) (T : List Moment) (m : Moment) → Demand3 y T m → (t i j : ℕ) → Lost y T t i j → ⊥
none_lost y T m holds t i j l =
    let q = (always_got y T m holds t i j l.due).0 in l.missed q.0 q.1

-- "On a sheet that fits, whatever is drawn and offered, over every list of calls from a fresh start": no frame is lost.
pub never_lost : (s : List ℕ) → Octets s → (n : ℕ) → (read_sheet s).answer ≡ accepted (n ∷ []) → (a : List ℕ) (d : ℕ)
    (ds : List (List ℕ)) → (started a (read_sheet s).layout d ds).answer ≡ accepted [] → (cs : List Call) → AllFair cs
    → fit_of (read_sheet s).layout ≡ accepted (1 ∷ []) → (t i j : ℕ)
    → Lost (read_sheet s).layout (log cs (begin (started a (read_sheet s).layout d ds).octets)) t i j → ⊥
never_lost s octets n sheet a d ds start cs fair fits =
    none_lost (read_sheet s).layout (log cs (begin (started a (read_sheet s).layout d ds).octets))
    (end cs (begin (started a (read_sheet s).layout d ds).octets))
    (demand_3 s octets n sheet a d ds start cs fair fits)
