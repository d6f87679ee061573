-- A packet that a station has collected whole. That a whole packet is collected so is in proofs/Reception. Assumes
-- nothing.
use Rattle.std.specs.Prelude.{ℕ, ◌*◌, ◌≡◌, List, length, take}
use Rattle.std.proofs.Math.Bool.{false}
use Rattle.station_symbols.specs.declared.Heard.TheVariants.{Nothing}
use Rattle.station_state.specs.declared.Receiver.TheVariants.{Collecting}
use Rattle.bus_meeting.specs.Net.{Net}
use Rattle.trace.specs.World.{Offer}
use Rattle.trace.specs.Run.{state, buffer_in, sees}

-- ---- a reception of clean symbols

-- Station j has collected the frame F, and nothing else, when it hears nothing in step u.
pub record Complete (P : Net) (inp : ℕ → List (Offer P)) (j u : ℕ) (F : List ℕ) : Type 0 where
  pub receiver : (state P inp u j).receiver ≡ Collecting (8 * length F) false false
  pub buffer : take (length F) (buffer_in P inp j u) ≡ F
  pub silence : sees P inp j u ≡ Nothing
