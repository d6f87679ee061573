-- A collision, late or not. That none is late is in proofs/Late. Assumes nothing.
use Rattle.std.specs.Prelude.{ℕ, ◌≡◌, Bool, ◌⊎◌, Option, Some}
use Rattle.station_spec.specs.declared.TransmitEvent.{TransmitEvent}
use Rattle.station_spec.specs.declared.TransmitEvent.TheVariants.{Collision, Late}

-- The event v is a collision at bit k, late or not.
abbrev pub Struck : Option TransmitEvent → ℕ → Bool → Type 0
Struck v k closes = (v ≡ Some (Collision k)) ⊎ (v ≡ Some (Late k closes))
