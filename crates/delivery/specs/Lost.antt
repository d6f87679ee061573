-- Lost frames. A frame reported sent is due at each addressee one bit time and the distance after that step; it is lost
-- where the step was made and the addressee did not report it intact. That on a sheet that fits none is lost is in
-- proofs/Lost. Assumes nothing.
use Rattle.std.specs.Prelude.{ℕ, suc, ◌+◌, ◌<◌, ◌≡◌, true, List, length, Some}
use Rattle.sheet_layout.specs.declared.Layout.{Layout}
use Rattle.sheet_layout.specs.Layout.{address_at}
use Rattle.station_spec.specs.declared.TransmitEvent.TheVariants.{Sent}
use Rattle.station_spec.specs.declared.ReceiveEvent.TheVariants.{GotOk}
use Rattle.station_spec.specs.Receive.{addressed}
use Rattle.delivery.specs.Calls.{Moment, moment_at, sent_at, got_at}
use Rattle.delivery.specs.Demand3.{apart}

-- the step in which station j has to report what station i reported sent in step t
abbrev pub due_at : Layout → (t i j : ℕ) → ℕ
due_at y t i j = suc (t + apart y i j)

-- Of the steps T on the layout y: in step t station i reported sent a frame that is addressed to station j, and the
-- step in which it is due there was made.
pub record Due (y : Layout) (T : List Moment) (t i j : ℕ) : Type 0 where
  pub attempts : ℕ
  pub sender : i < y.count
  pub addressee : j < y.count
  pub other : i ≡ j → ⊥
  pub sent : sent_at T t i ≡ Some (Sent attempts)
  pub for : addressed (address_at y j) ((moment_at T t).frame i) ≡ true
  pub made : due_at y t i j < length T

-- and j did not report it intact
pub record Lost (y : Layout) (T : List Moment) (t i j : ℕ) : Type 0 where
  pub due : Due y T t i j
  pub missed : (k : ℕ) → got_at T (due_at y t i j) j ≡ Some (GotOk k) → ⊥
