-- What a caller of the run program's calls may rely on: a reply with bit 31 is a refusal, and what was lent is then as
-- it was. Assumes nothing.
use Rattle.std.specs.Prelude.{ℕ, ◌≤◌, ◌≡◌, refl, List, ◌++◌, ltb, eqb, length, take, drop}
use Rattle.std.proofs.Common.{◌∙◌, ap, arith, eq-eqb, ne_eqb, ltb-false, length-take, take-append-drop}
use Rattle.octets.specs.Base.{pick, number_of}
use Rattle.octets.specs.BaseLaws.{by_test, by_eq}
use Rattle.octets.specs.Words.{put_words}
use Rattle.report_spec.specs.declared.Progress.{Progress}
use Rattle.report_spec.specs.Printed.{printed}
use Rattle.report_spec.specs.Pieces.{Hand, move_refusal, advanced_on, advanced, begun}
use Rattle.report_whole.specs.Print.{printed_into}
use Rattle.c_words.specs.Answers.{refusal_bit, value_of}
use Rattle.c_calls.specs.CallTheorems.{BothKept}
use Rattle.c_text.specs.TextCalls.{progress_words, progress_in, progress_put, Lent, hand_lent, begun_lent}
use Rattle.c_text.specs.TextCalls.{advanced_lent, print_front, print_left}
use Rattle.c_text.specs.TextCallLaws.{Small, begun_small, advanced_small}
use Rattle.area.specs.Offsets.{area_size}

-- a call that was lent an area, a place and an output: where its reply has bit 31, all are as they were
abbrev pub AllKept : (area progress out : List ℕ) → Lent → Type 0
AllKept a p o x = refusal_bit ≤ x.result → (x.area ≡ a) × (x.progress ≡ p) × (x.out ≡ o)

abbrev Same : (a o : List ℕ) → Hand → Type 0
Same a o y = (number_of y.answer ≡ 0 → ⊥) → (y.octets ≡ a) × (y.out ≡ o)

hand_kept : (a p o : List ℕ) (y : Hand) → Small y.answer → Same a o y → AllKept a p o (hand_lent y p)
unfolding progress_put
hand_kept a p o y s k h =
    by_eq (number_of y.answer) 0
    (λ e. let z : refusal_bit ≤ value_of y.answer = rw (eq-eqb (number_of y.answer) 0 e) at h
    in absurd (omega (arith, s)))
    (λ e. let w = k e in
    let q : pick (eqb (number_of y.answer) 0) (put_words 4 p 0 (progress_words y.progress)) p
    ≡ p = rw (ne_eqb (number_of y.answer) 0 e) in
    (w.0, q, w.1))

begun_same : (l a o : List ℕ) → Same a o (begun l a o)
unfolding begun
begun_same l a o =
    by_test (ltb (length a) area_size) (λ p. rw p (λ h. (refl, refl)))
    (λ p. by_test (ltb (length o) 2048) (λ q. rw (p, q) (λ h. (refl, refl))) (λ q. rw (p, q) (λ h. absurd (h refl))))

on_same : (l a o : List ℕ) (g : Progress) → Same a o (advanced_on l a o g)
unfolding advanced_on
on_same l a o g =
    by_test (eqb (move_refusal l a (length o) g) 0) (λ p. rw p (λ h. absurd (h refl))) (λ p. rw p (λ h. (refl, refl)))

advanced_same : (l a o : List ℕ) (g : Progress) → Same a o (advanced l a o g)
unfolding advanced
advanced_same l a o g =
    by_test (ltb (length a) area_size) (λ p. rw p (λ h. (refl, refl)))
    (λ p. rw p (λ h. let w = on_same l (take area_size a) o g h in
    (ap (λ (x : List ℕ). x ++ drop area_size a) w.0 ∙ take-append-drop area_size a, w.1)))

pub begin_keeps : (l a p o : List ℕ) → AllKept a p o (begun_lent l a p o)
unfolding begun_lent
begin_keeps l a p o =
    by_test (ltb (length p) 16) (λ q. rw q (λ h. (refl, refl, refl)))
    (λ q. rw q (hand_kept a p o (begun l a o) (begun_small l a o) (begun_same l a o)))

pub advance_keeps : (l a p o : List ℕ) → AllKept a p o (advanced_lent l a p o)
unfolding advanced_lent
advance_keeps l a p o =
    by_test (ltb (length p) 16) (λ q. rw q (λ h. (refl, refl, refl)))
    (λ q. rw q (hand_kept a p o (advanced (take 16384 l) a o (progress_in p))
    (advanced_small (take 16384 l) a o (progress_in p)) (advanced_same (take 16384 l) a o (progress_in p))))

front_keeps : (l a x o : List ℕ) → length x ≤ 2147483647 → x ++ drop 2147483647 o ≡ o
    → BothKept a o (print_front o (printed_into l a x))
unfolding printed_into
front_keeps l a x o m e =
    by_test (ltb (length a) area_size) (λ p. rw p (λ h. (refl, e)))
    (λ p. by_test (ltb (length x) (length (printed l))) (λ q. rw (p, q) (λ h. (refl, e)))
    (λ q. rw (p, q) (λ h. let z = ltb-false (length x) (length (printed l)) q in absurd (omega arith))))

pub print_keeps : (l a o : List ℕ) → BothKept a o (print_left l a o)
unfolding print_left
print_keeps l a o =
    front_keeps l a (take 2147483647 o) o (omega (arith, length-take 2147483647 o)) (take-append-drop 2147483647 o)
