-- Demand 3, word by word (document 01). The theorem that it holds is in proofs/Theorem; nothing here is proved, and
-- nothing else need be read to judge it but Calls and the definitions that the calls' promises cite. Assumes nothing.
use Rattle.std.specs.Prelude.{ℕ, suc, ◌+◌, ◌≤◌, ◌<◌, ◌≡◌, Bool, true, List, [], ◌∷◌, ltb, length, get_or, replicate, None, Some}
use Rattle.std.proofs.lemmas.List.Edits.{sets}
use Rattle.octets.specs.Base.{pick, refused, accepted, Outcome, outcome}
use Rattle.octets.specs.Bits.{digit}
use Rattle.sheet_layout.specs.declared.Layout.{Layout}
use Rattle.sheet_layout.specs.Layout.{position_at, address_at}
use Rattle.station_spec.specs.declared.TransmitEvent.TheVariants.{Late, Sent, LateEnded}
use Rattle.station_spec.specs.declared.ReceiveEvent.TheVariants.{GotOk}
use Rattle.station_spec.specs.Receive.{addressed}
use Rattle.station_spec.specs.Count as counter
use Rattle.area.specs.Area.{distance, clock_at, station_at, counters_at}
use Rattle.area_check.specs.Valid.{area_refusal}
use Rattle.bus_spec.specs.BitTime.{act_at, events_at}
use Rattle.bus_offer.specs.Offer.{holds, offered}
use Rattle.bus_step.specs.Step.{stepped_once}
use Rattle.bus_spec.specs.Run.{tallied, ran}
use Rattle.bus_read.specs.Read.{frame_read}
use Rattle.delivery.specs.Calls.{Call, offer, step, run, read, Moment, made, leaves, log, end, begin, moment_at}
use Rattle.delivery.specs.Calls.{sent_at, got_at, Ends, QuietSince}
use Rattle.station_tally.specs.Words.{word_count}

-- what a call leaves in the area, by its promise
abbrev pub called : Call → List ℕ → List ℕ
called (offer i d v x) a = (offered a i d v x).octets
called step a = (stepped_once a).octets
called (run n) a = (ran a n).octets
called (read i out) a = a

-- the events of the steps T, word by word, on top of ws
abbrev pub counted : List Moment → List ℕ → List ℕ
counted [] ws = ws
counted (m ∷ T) ws = counted T (tallied (events_at m.area) 16 ws)

-- |p(i)−p(j)|
abbrev pub apart : Layout → (i j : ℕ) → ℕ
apart y i j = distance (position_at y i) (position_at y j)

-- "some i reported sent, in step u − 1 − |p(i)−p(j)|, a frame addressed to j": of the steps T on the layout y
pub record Sender (y : Layout) (T : List Moment) (u j : ℕ) : Type 0 where
  pub from : ℕ
  pub at : ℕ
  pub attempts : ℕ
  pub station : from < y.count
  pub other : from ≡ j → ⊥
  pub delay : u ≡ suc (at + apart y from j)
  pub sent : sent_at T at from ≡ Some (Sent attempts)
  -- "A frame of station i is addressed to every j≠i whose address, or broadcast, is its destination."
  pub for : addressed (address_at y j) ((moment_at T at).frame from) ≡ true

-- what it sent: the frame of its last accepted offer, and which of its offers that is
abbrev pub frame_sent : {y : Layout} {u j : ℕ} (T : List Moment) → Sender y T u j → List ℕ
frame_sent T s = (moment_at T s.at).frame s.from

abbrev pub offer_sent : {y : Layout} {u j : ℕ} (T : List Moment) → Sender y T u j → ℕ
offer_sent T s = (moment_at T s.at).offers s.from

-- a reading that gives the frame F, "or is refused under 15 alone"
abbrev pub read_as : (F out : List ℕ) → Outcome
read_as F out =
    pick (ltb (length out) (length F)) (outcome (refused 15) out) (outcome (accepted (length F ∷ [])) (sets out 0 F))

-- What a reading at station j gave: the frame of one sender, reported intact in step `at`, since which j heard no
-- other.
pub record ReadFrom (y : Layout) (T : List Moment) (m : Moment) (j : ℕ) (out : List ℕ) : Type 0 where
  pub station : j < y.count
  pub at : ℕ
  pub step : at < length T
  pub size : ℕ
  pub got : got_at T at j ≡ Some (GotOk size)
  pub quiet : QuietSince T at j
  pub sender : Sender y T at j
  pub gives : frame_read m.area j out ≡ outcome (accepted (length (frame_sent T sender) ∷ []))
      (sets out 0 (frame_sent T sender))

-- From a fresh start on the layout y the steps T were made, each written down with the moment before it, and m is the
-- moment now.
pub record Demand3 (y : Layout) (T : List Moment) (m : Moment) : Type 0 where
  -- "Each call gets the area as the call before left it, .. so none of them is refused under 1 or 2."
  pub areas : (c : Call) → (leaves c m).area ≡ called c m.area
  pub passes : area_refusal m.area ≡ 0
  -- "Step t is the one made at clock t." A step that is not refused answers the events of its moment.
  pub clocks : (u : ℕ) → u < length T → clock_at (moment_at T u).area ≡ u
  pub steps : (stepped_once m.area).answer ≡ accepted []
      → (made step m ≡ m ∷ []) × ((stepped_once m.area).events ≡ events_at m.area)
  -- "A run stands for the steps it makes, and its answer counts their events." None ends early.
  pub runs : (n : ℕ) → ((ran m.area n).steps ≡ length (made (run n) m))
      × ((ran m.area n).words ≡ counted (made (run n) m) (replicate word_count 0))
  pub ends : (n : ℕ) → ((ran m.area n).ended ≡ None)
      × ((ran m.area n).answer ≡ accepted [] → (ran m.area n).steps ≡ n)
  -- "no late collision"
  pub never_late : (u i k : ℕ) (closes : Bool) → u < length T → i < y.count → sent_at T u i ≡ Some (Late k closes) → ⊥
  -- N1: so no frame ends after one
  pub never_ended : (u i n : ℕ) → u < length T → i < y.count → sent_at T u i ≡ Some (LateEnded n) → ⊥
  -- "no frame attempted more often than the limit": at every moment, and where it ends. "A frame's attempts are the
  -- steps in which it starts; the event that ends it carries their number."
  pub tries : (i : ℕ) → i < y.count → m.starts i ≤ y.figures.limit
  pub tried : (u i : ℕ) → u < length T → i < y.count → (moment_at T u).starts i ≤ y.figures.limit
  pub attempts : (u i n : ℕ) → u < length T → i < y.count → Ends (sent_at T u i) n
      → (n ≤ y.figures.limit) × (n ≡ (moment_at T u).starts i + pick (act_at (moment_at T u).area i).outcome.start 1 0)
  -- "A transmit event concerns the frame of its station's last accepted offer before it": one that ends a frame has an
  -- offer before it, and two of one station have different ones.
  pub offered : (u i n : ℕ) → u < length T → i < y.count → Ends (sent_at T u i) n → 0 < (moment_at T u).offers i
  pub apiece : (u v i n k : ℕ) → u < v → v < length T → i < y.count → Ends (sent_at T u i) n → Ends (sent_at T v i) k
      → (moment_at T u).offers i < (moment_at T v).offers i
  -- "j reports receiveOK in u exactly when some i reported sent, in step u − 1 − |p(i)−p(j)|, a frame addressed to j."
  pub received : (u j k : ℕ) → u < length T → j < y.count → got_at T u j ≡ Some (GotOk k) → Sender y T u j
  pub delivered : (u j : ℕ) → u < length T → j < y.count → Sender y T u j → (k : ℕ) × (got_at T u j ≡ Some (GotOk k))
  -- "There is then one such i"
  pub one : (u j : ℕ) → u < length T → j < y.count → (s r : Sender y T u j) → s.from ≡ r.from
  -- "no other step reports it there": of one offer, at one station, at most one step reports receiveOK
  pub once : (u v j k l : ℕ) → u < length T → v < length T → j < y.count → got_at T u j ≡ Some (GotOk k)
      → got_at T v j ≡ Some (GotOk l)
      → (s : Sender y T u j) (r : Sender y T v j) → s.from ≡ r.from → offer_sent T s ≡ offer_sent T r → u ≡ v
  -- "a reading at j after u and before j next hears another gives that frame octet for octet, or is refused under 15
  -- alone"
  pub reading : (u j k : ℕ) → u < length T → j < y.count → got_at T u j ≡ Some (GotOk k) → QuietSince T u j
      → (s : Sender y T u j) (out : List ℕ) → frame_read m.area j out ≡ read_as (frame_sent T s) out
  -- "what is read is, octet for octet, what was built": every reading that is accepted
  pub readings : (j : ℕ) (out vs : List ℕ) → (frame_read m.area j out).answer ≡ accepted vs → ReadFrom y T m j out
  -- N1: "offered equals sent plus excessive plus late-ended plus held"
  pub balance : (i : ℕ) → i < y.count
      → get_or (counters_at m.area i) counter.offered 0
      ≡ get_or (counters_at m.area i) counter.sent 0 + get_or (counters_at m.area i) counter.excessive 0
      + get_or (counters_at m.area i) counter.late_ended 0 + digit (holds (station_at m.area i).transmitter)

-- and that over a list of calls, from the area b that a fresh start on y left
abbrev pub Demand3For : Layout → List ℕ → List Call → Type 0
Demand3For y b cs = Demand3 y (log cs (begin b)) (end cs (begin b))
