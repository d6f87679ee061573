-- A law for each way through the code that writes events. Assumes nothing.
use Rattle.std.specs.Prelude.{ℕ, suc, ◌+◌, ◌≡◌, refl, List, ◌++◌, get_or, Some}
use Rattle.std.proofs.Common.{sym, ap, add-one, arith}
use Rattle.bus_spec.specs.declared.Events.{Events}
use Rattle.bus_spec.specs.BitTime.{no_events}
use Rattle.report_text.specs.Text.{written, puts, line}
use Rattle.report_text.specs.TextLaws.{join}
use Rattle.station_tally.specs.declared.Word.{Word}
use Rattle.station_tally.specs.declared.Word.TheVariants as word
use Rattle.station_tally.specs.Words.{word_number, transmit_word, transmit_value, receive_word, receive_value}
use Rattle.report_lines.specs.Events.{word_text, event_line, station_lines}
use Rattle.report_lines.specs.Events.{step_lines}

-- ---- an event

module _ (l : List ℕ) (at t i v : ℕ) where
  pub event_none : written at l ≡ puts l at (event_line t i 0 v)
  unfolding event_line
  event_none = ap (λ (k : ℕ). written k l) (omega arith)

  pub event_some : (w : Word) → event_line t i (word_number (Some w)) v ≡ line t i (word_text (word_number (Some w))) v
  unfolding event_line
  event_some word.Collision = refl
  event_some word.Late = refl
  event_some word.Sent = refl
  event_some word.GivenUp = refl
  event_some word.LateEnd = refl
  event_some word.GotOk = refl
  event_some word.GotTooLong = refl
  event_some word.GotAlignment = refl
  event_some word.GotCheck = refl
  event_some word.GotLength = refl

-- ---- a station

pub station_is : (l x y : List ℕ) (at m r t i w v k n : ℕ) (e : Events) → written r y ≡ puts x m (event_line t i k n)
    → written m x ≡ puts l at (event_line t i w v) → w ≡ transmit_word e.sent → v ≡ transmit_value e.sent
    → k ≡ receive_word e.got → n ≡ receive_value e.got
    → written r y ≡ puts l at (station_lines t i e)
unfolding station_lines
station_is l x y at m r t i w v k n e p f ew ev ek en =
    rw (← ew, ← ev, ← ek, ← en) (join l x at m (event_line t i w v) f y r (event_line t i k n) p)

-- ---- a step

pub lines_none : (t : ℕ) (es : List Events) (l : List ℕ) → written 0 l ≡ puts l 0 (step_lines t es 0)
unfolding step_lines
lines_none t es l = refl

lines_next : (t : ℕ) (es : List Events) (i : ℕ) (e : Events) → e ≡ get_or es i no_events
    → step_lines t es i ++ station_lines t i e ≡ step_lines t es (suc i)
unfolding step_lines
lines_next t es i e g = ap (λ (z : Events). step_lines t es i ++ station_lines t i z) g

pub lines_more : (t : ℕ) (es : List Events) (i at r : ℕ) (e : Events) (l x y : List ℕ)
    → written r y ≡ puts x at (station_lines t i e) → e ≡ get_or es i no_events
    → written at x ≡ puts l 0 (step_lines t es i) → written r y ≡ puts l 0 (step_lines t es (i + 1))
lines_more t es i at r e l x y p g h =
    rw (add-one i, sym (lines_next t es i e g)) (join l x 0 at (step_lines t es i) h y r (station_lines t i e) p)
