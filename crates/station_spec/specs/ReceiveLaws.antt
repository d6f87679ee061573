-- A frame can be read until the next reception begins, and the client data of a receiveOK fit in what was collected.
-- Assumes nothing.
use Rattle.std.specs.Prelude.{ℕ, ◌/◌, ◌%◌, ◌≤◌, ◌<◌, ◌≡◌, Bool, true, false, List, ltb, length, get_or, take, Option, Some, None, Result, Ok, Err}
use Rattle.std.proofs.Math.Path.{refl, ap}
use Rattle.std.proofs.Common.{sym, ◌∙◌, length-take-le}
use native.Mathlib.Omega.{arith}
use borrow.Author.Tests.{ltb-false}
use Rattle.octets.specs.Base.{pick, Answer, values_of}
use Rattle.frame_open.specs.declared.ReceiveStatus.{ReceiveStatus}
use Rattle.octets.specs.declared.Refusal.{Refusal}
use Rattle.frame_open.specs.declared.ReceiveStatus.TheVariants.{Fragment, FrameTooLong, FrameCheckError}
use Rattle.frame_open.specs.declared.ReceiveStatus.TheVariants.{AlignmentError, LengthError, ReceiveOk}
use Rattle.frame_open.specs.Open.{frame_too_long, status_answer, receive_ok, opened}
use Rattle.frame_open.specs.OpenLaws.{fair}
use Rattle.station_state.specs.declared.Receiver.TheVariants.{Listening, Readable}
use Rattle.station_spec.specs.declared.ReceiveEvent.{ReceiveEvent}
use Rattle.station_spec.specs.declared.ReceiveEvent.TheVariants.{GotOk, GotTooLong, GotAlignment, GotCheck, GotLength}
use Rattle.station_spec.specs.Receive.{open_answer, got_event, readable_after, deciding, opening, hear}
use Rattle.frame_build.specs.Limits.{buffer_octets}

-- "until that station's next reception begins": what is heard then leads to the same as with no frame to be read
pub readable_until : (n : ℕ) (clean b emits : Bool) → hear (Readable n) clean b emits ≡ hear Listening clean b emits
unfolding hear
readable_until n clean b emits = refl

-- what is reported of a status that is no receiveOK
abbrev pub got_error : ReceiveStatus → ℕ → Option ReceiveEvent
got_error Fragment n = None
got_error FrameTooLong n = Some (GotTooLong n)
got_error FrameCheckError n = Some (GotCheck n)
got_error AlignmentError n = Some (GotAlignment n)
got_error LengthError n = Some (GotLength n)
got_error (ReceiveOk k) n = None

module _ (buffer : List ℕ) (n : ℕ) (sp : Bool) where
  pub opening_ok : (s : ReceiveStatus) (k : ℕ) → status_answer (Ok s) ≡ open_answer buffer n sp → s ≡ ReceiveOk k
      → deciding (Readable (n / 8)) (Some (GotOk k)) ≡ opening buffer n sp
  unfolding opening readable_after got_event
  opening_ok s k p q = rw (← p, q)

  -- a refusal to open
  pub opening_refused : (e : Refusal) → status_answer (Err e) ≡ open_answer buffer n sp
      → deciding Listening None ≡ opening buffer n sp
  unfolding opening readable_after got_event
  opening_refused e p = rw (← p)

  -- any other status
  error_event : (s : ReceiveStatus) → ((k : ℕ) → s ≡ ReceiveOk k → ⊥)
      → deciding Listening (got_error s (n / 8)) ≡ deciding (readable_after (status_answer (Ok s)) (n / 8))
      (got_event (status_answer (Ok s)) (n / 8))
  unfolding readable_after got_event
  error_event Fragment h = refl
  error_event FrameTooLong h = refl
  error_event FrameCheckError h = refl
  error_event AlignmentError h = refl
  error_event LengthError h = refl
  error_event (ReceiveOk k) h = absurd (h k refl)

  pub opening_error : (s : ReceiveStatus) (v : Option ReceiveEvent) → status_answer (Ok s) ≡ open_answer buffer n sp
      → v ≡ got_error s (n / 8) → ((k : ℕ) → s ≡ ReceiveOk k → ⊥)
      → deciding Listening v ≡ opening buffer n sp
  unfolding opening
  opening_error s v p q h = ap (deciding Listening) q ∙ error_event s h ∙ rw p

ok_within : (buffer : List ℕ) (n k : ℕ) (sp : Bool) → buffer_octets ≤ length buffer
    → open_answer buffer n sp ≡ receive_ok k → k ≤ buffer_octets
unfolding open_answer
ok_within buffer n k sp h = go (ltb buffer_octets (n / 8)) refl
  where
    go : (t : Bool) → ltb buffer_octets (n / 8) ≡ t
        → pick t frame_too_long (opened sp (take (n / 8) buffer) (n % 8)).status ≡ receive_ok k → k ≤ buffer_octets
    go true p q = let z : ◌≡◌ {A = ℕ} 1 5 = ap (λ (r : Answer). get_or (values_of r) 0 0) q in omega arith
    go false p q =
        let w = ((fair sp (take (n / 8) buffer) (n % 8)).handed k q).room in
        omega (
          arith,
          length-take-le (n / 8) buffer
              (omega (arith, ltb-false buffer_octets (n / 8) p)),
          ltb-false buffer_octets (n / 8) p,
        )

pub ok_small : (buffer : List ℕ) (n k : ℕ) (sp : Bool) (r : Result ReceiveStatus Refusal) (s : ReceiveStatus)
    → status_answer r ≡ open_answer buffer n sp → r ≡ Ok s → s ≡ ReceiveOk k → buffer_octets ≤ length buffer
    → k < 4294967296
ok_small buffer n k sp r s p e q h =
    let w : k ≤ buffer_octets = ok_within buffer n k sp h (sym p ∙ rw (e, q)) in omega arith
