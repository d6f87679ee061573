-- How long a line can be. Assumes nothing.
use Rattle.std.specs.Prelude.{ℕ, zero, suc, ◌+◌, ◌*◌, ◌≤◌, ◌-◌, Bool, true, false, List, [], ◌∷◌, ◌++◌, eqb, length, get_or}
use Rattle.std.proofs.Common.{arith, length-append}
use Rattle.octets.specs.Base.{pick}
use Rattle.octets.specs.BaseLaws.{by_test}
use Rattle.bus_spec.specs.declared.Events.{Events}
use Rattle.bus_spec.specs.BitTime.{no_events}
use Rattle.report_text.specs.Text.{digits, lean, decimal, space, newline, numbered, counted, placed, line, stations_word}
use Rattle.report_text.specs.Text.{first_line, refused_word, refused_line, refused_offer, end_word, end_line}
use Rattle.report_text.specs.TextLaws.{length_digits}
use Rattle.station_tally.specs.Words.{transmit_word, transmit_value, receive_word, receive_value}
use Rattle.report_lines.specs.Events.{collision_text, late_text, sent_text, given_up_text, late_end_text, ok_text}
use Rattle.report_lines.specs.Events.{too_long_text}
use Rattle.report_lines.specs.Events.{alignment_text, check_text, length_text, word_text, event_line, station_lines}
use Rattle.report_lines.specs.Events.{step_lines}

length_lean : (l : List ℕ) → length (lean l) ≤ length l
unfolding lean
length_lean [] = omega arith
length_lean (d ∷ []) = omega arith
length_lean (d ∷ e ∷ ds) = go (eqb d 48) (length_lean (e ∷ ds))
  where
    go : (b : Bool) → length (lean (e ∷ ds)) ≤ length (e ∷ ds)
        → length (pick b (lean (e ∷ ds)) (d ∷ e ∷ ds)) ≤ length (d ∷ e ∷ ds)
    go true h = omega arith
    go false h = omega arith

length_decimal : (n : ℕ) → length (decimal n) ≤ 10
unfolding decimal
length_decimal n = omega (arith, length_lean (digits 10 n), length_digits 10 n)

length_numbered : (n x : ℕ) → length (numbered n x) ≤ 11
unfolding numbered
length_numbered n x = omega (arith, length-append (decimal n) (x ∷ []), length_decimal n)

length_counted : (w : List ℕ) (n x : ℕ) → length (counted w n x) ≤ length w + 12
unfolding counted
length_counted w n x =
    omega (arith, length-append (w ++ (space ∷ [])) (numbered n x), length-append w (space ∷ []), length_numbered n x)

length_placed : (t i : ℕ) → length (placed t i) ≤ 22
unfolding placed
length_placed t i =
    omega (arith, length-append (numbered t space) (numbered i space), length_numbered t space, length_numbered i space)

length_line : (t i : ℕ) (w : List ℕ) (n : ℕ) → length (line t i w n) ≤ length w + 34
unfolding line
length_line t i w n =
    omega (arith, length-append (placed t i) (counted w n newline), length_placed t i, length_counted w n newline)

pub first_size : (n : ℕ) (f : List ℕ) → length (first_line n f) ≤ 20 + length f
unfolding first_line
first_size n f = omega (arith, length-append (counted stations_word n space) f, length_counted stations_word n space)

pub refused_size : (n : ℕ) → length (refused_line n) ≤ 19
unfolding refused_line
refused_size n = length_counted refused_word n newline

pub refused_offer_size : (t i n : ℕ) → length (refused_offer t i n) ≤ 41
unfolding refused_offer
refused_offer_size t i n = length_line t i refused_word n

pub end_size : (t : ℕ) → length (end_line t) ≤ 15
unfolding end_line
end_size t = length_counted end_word t newline

text_size : (w : ℕ) → length (word_text w) ≤ 14
unfolding word_text
text_size w = each (w - 1)
  where
    each : (k : ℕ) → length (get_or (collision_text ∷ late_text ∷ sent_text ∷ given_up_text ∷ late_end_text ∷ ok_text
        ∷ too_long_text
        ∷ alignment_text ∷ check_text ∷ length_text ∷ []) k []) ≤ 14
    each zero = omega arith
    each (suc zero) = omega arith
    each (suc (suc zero)) = omega arith
    each (suc (suc (suc zero))) = omega arith
    each (suc (suc (suc (suc zero)))) = omega arith
    each (suc (suc (suc (suc (suc zero))))) = omega arith
    each (suc (suc (suc (suc (suc (suc zero)))))) = omega arith
    each (suc (suc (suc (suc (suc (suc (suc zero))))))) = omega arith
    each (suc (suc (suc (suc (suc (suc (suc (suc zero)))))))) = omega arith
    each (suc (suc (suc (suc (suc (suc (suc (suc (suc zero))))))))) = omega arith
    each (suc (suc (suc (suc (suc (suc (suc (suc (suc (suc k)))))))))) = omega arith

length_event : (t i w v : ℕ) → length (event_line t i w v) ≤ 48
unfolding event_line
length_event t i w v =
    by_test (eqb w 0) (λ e. rw e (omega arith)) (λ e. rw e (omega (arith, length_line t i (word_text w) v, text_size w)))

length_station : (t i : ℕ) (e : Events) → length (station_lines t i e) ≤ 96
unfolding station_lines
length_station t i e =
    let a = event_line t i (transmit_word e.sent) (transmit_value e.sent) in
    let b = event_line t i (receive_word e.got) (receive_value e.got) in
    omega (
      arith,
      length-append a b,
      length_event t i (transmit_word e.sent) (transmit_value e.sent),
      length_event t i
          (receive_word e.got) (receive_value e.got),
    )

pub step_size : (t : ℕ) (es : List Events) (n : ℕ) → length (step_lines t es n) ≤ 96 * n
unfolding step_lines
step_size t es zero = omega arith
step_size t es (suc n) =
    omega (
      arith,
      length-append (step_lines t es n)
          (station_lines t n (get_or es n no_events)),
      step_size t es n,
      length_station t n (get_or es n no_events),
    )
