-- What a readable frame is: the one last got, octet for octet. That it stays so from the step after until the station
-- hears another is in proofs/Readable. Assumes nothing.
use Rattle.std.specs.Prelude.{ℕ, ◌≤◌, ◌<◌, true, List, length, take, Some}
use Rattle.std.proofs.Math.Path.{◌≡◌}
use Rattle.station_symbols.specs.declared.Heard.TheVariants.{Nothing}
use Rattle.station_spec.specs.declared.ReceiveEvent.TheVariants.{GotOk}
use Rattle.station_state.specs.declared.Receiver.TheVariants.{Readable}
use Rattle.station_spec.specs.Receive.{addressed}
use Rattle.bus_meeting.specs.Net.{Net}
use Rattle.trace.specs.World.{Offer}
use Rattle.trace.specs.Run.{state, buffer_in, out_at, sees}
use Rattle.trace.specs.Received.{Came}

-- The frame F can be read from station j before step t.
pub record Reads (P : Net) (inp : ℕ → List (Offer P)) (j t : ℕ) (F : List ℕ) : Type 0 where
  pub receiver : (state P inp t j).receiver ≡ Readable (length F)
  pub octets : take (length F) (buffer_in P inp j t) ≡ F

-- The n octets that can be read from station j before step t: it got them as a frame in step `at`, and heard nothing
-- since.
pub record Read (P : Net) (inp : ℕ → List (Offer P)) (j t n : ℕ) : Type 0 where
  pub at : ℕ
  pub size : ℕ
  pub past : at < t
  pub got : (out_at P inp j at).got ≡ Some (GotOk size)
  pub came : Came P inp j at
  pub for : addressed (P.address j) came.whole.frame ≡ true
  pub octets : n ≡ length came.whole.frame
  pub buffer : take n (buffer_in P inp j t) ≡ came.whole.frame
  pub quiet : (s : ℕ) → at ≤ s → s < t → sees P inp j s ≡ Nothing
