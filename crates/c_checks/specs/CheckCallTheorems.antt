-- What a caller may rely on: a reply with bit 31 is a refusal, and the lent output is then as it was. Assumes nothing.
use Rattle.std.specs.Prelude.{List, ℕ, ◌≤◌, ◌≡◌, refl, ltb, eqb, length, Result, Ok, Err}
use Rattle.std.proofs.Common.{ap, arith, eqb-true}
use Rattle.octets.specs.Base.{Outcome, outcome, size_answer, number_of}
use Rattle.octets.specs.declared.Refusal.{Refusal}
use Rattle.octets.specs.BaseLaws.{by_test}
use Rattle.octets.specs.Words.{put_words}
use Rattle.sheet_layout.specs.declared.Layout.{Layout}
use Rattle.sheet_layout.specs.Check.{refusal_of}
use Rattle.sheet_read.specs.declared.Sheet.{Sheet}
use Rattle.sheet_read.specs.Sheet.{Reading, read_sheet, sheet_reading}
use Rattle.sheet_write.specs.Write.{written, sheet_written}
use Rattle.sheet_write.specs.WriteTheorems.{Formed, written_most, always_formed}
use Rattle.plan_read.specs.Plan.{plan_as_read}
use Rattle.c_words.specs.Answers.{Below, value_of, layout_put, plan_out, sheet_out}
use Rattle.c_calls.specs.Calls.{short}
use Rattle.c_calls.specs.CallTheorems.{Keeps, checks, answers, coded}
use Rattle.c_checks.specs.CheckCalls.{plan_words, plan_given, write_given}

pub plan_keeps : (l out : List ℕ) → Keeps out (plan_given l out)
unfolding plan_given
plan_keeps l out =
    checks (number_of (plan_as_read l).answer) out _
    (checks (short plan_out out) out _ (answers 0 out
    (put_words 5 (layout_put (plan_as_read l).layout out) sheet_out (plan_words (plan_as_read l))) (omega arith)))

write_same : (y : Layout) (out : List ℕ) → (number_of (sheet_written y out).answer ≡ 0 → ⊥)
    → (sheet_written y out).octets ≡ out
unfolding sheet_written
write_same y out =
    by_test (eqb (refusal_of y) 0)
    (λ p. by_test (ltb (length out) (length (written y))) (λ q. rw (p, q) (λ h. refl))
    (λ q. rw (p, q) (λ h. absurd (h refl))))
    (λ p. rw p (λ h. refl))

write_small : (y : Layout) (out : List ℕ) → Formed y → value_of (sheet_written y out).answer ≤ 128
unfolding sheet_written
write_small y out f =
    by_test (eqb (refusal_of y) 0)
    (λ p. by_test (ltb (length out) (length (written y))) (λ q. rw (p, q) (omega arith))
    (λ q. rw (p, q) (written_most y (record { passes = eqb-true (refusal_of y) 0 p; formed = f }))))
    (λ p. rw p (omega arith))

-- so what is answered is below the bit
pub write_below : (l out x : List ℕ) (s : Sheet) (r : Result ℕ Refusal) → sheet_reading (Ok s) ≡ read_sheet l
    → outcome (size_answer r) x ≡ sheet_written s.layout out → Below r
write_below l out x s (Err e) p q = tt
write_below l out x s (Ok n) p q =
    let e : s.layout ≡ (read_sheet l).layout = ap (λ (z : Reading). z.layout) p in
    let u : n ≡ value_of (sheet_written s.layout out).answer = ap (λ (z : Outcome). value_of z.answer) q in
    let w : value_of (sheet_written s.layout out).answer ≤ 128 =
    rw e (write_small (read_sheet l).layout out (always_formed l)) in omega arith

pub write_keeps : (l out : List ℕ) → Keeps out (write_given l out)
unfolding write_given
write_keeps l out =
    checks (number_of (read_sheet l).answer) out _
    (coded out (sheet_written (read_sheet l).layout out) (
      omega (arith, write_small (read_sheet l).layout out (always_formed l)),
      write_same (read_sheet l).layout out,
    ))
