-- What a caller may rely on: a reply with bit 31 is a refusal, and the store, or the area of a return, is then as it
-- was. Assumes nothing.
use Rattle.std.specs.Prelude.{ℕ, refl, List, ltb, eqb, length}
use Rattle.std.proofs.Common.{arith}
use Rattle.octets.specs.BaseLaws.{by_test}
use Rattle.octets.specs.Number.{spelled}
use Rattle.area.specs.Offsets.{area_size}
use Rattle.area_check.specs.Valid.{area_wrong, area_refusal}
use Rattle.marks.specs.Marks.{mark_count, name_size, store_size, copy_at, found, place_for, marked, returned, dropped}
use Rattle.c_calls.specs.CallTheorems.{Keeps, Told, coded}
use Rattle.c_marks.specs.MarkCalls.{mark_given, return_given, drop_given}

mark_told : (a s name : List ℕ) → Told s (marked a s name)
unfolding marked
mark_told a s name =
    by_test (eqb (area_refusal a) 0)
    (λ p. by_test (ltb (length s) store_size) (λ q. rw (p, q) (omega arith, λ h. refl))
    (λ q. by_test (eqb (place_for s name) mark_count) (λ r. rw (p, q, r) (omega arith, λ h. refl))
    (λ r. rw (p, q, r) (omega arith, λ h. absurd (h refl)))))
    (λ p. rw p (omega arith, λ h. refl))

return_told : (a s name : List ℕ) → Told a (returned a s name)
unfolding returned
return_told a s name =
    by_test (ltb (length a) area_size) (λ p. rw p (omega arith, λ h. refl))
    (λ p. by_test (ltb (length s) store_size) (λ q. rw (p, q) (omega arith, λ h. refl))
    (λ q. by_test (eqb (found s name) mark_count) (λ r. rw (p, q, r) (omega arith, λ h. refl))
    (λ r. by_test (area_wrong (copy_at s (found s name))) (λ t. rw (p, q, r, t) (omega arith, λ h. refl))
    (λ t. rw (p, q, r, t) (omega arith, λ h. absurd (h refl))))))

drop_told : (s name : List ℕ) → Told s (dropped s name)
unfolding dropped
drop_told s name =
    by_test (ltb (length s) store_size) (λ p. rw p (omega arith, λ h. refl))
    (λ p. by_test (eqb (found s name) mark_count) (λ q. rw (p, q) (omega arith, λ h. refl))
    (λ q. rw (p, q) (omega arith, λ h. absurd (h refl))))

pub mark_keeps : (a s : List ℕ) (n : ℕ) → Keeps s (mark_given a s n)
unfolding mark_given
mark_keeps a s n = coded s (marked a s (spelled name_size n)) (mark_told a s (spelled name_size n))

pub return_keeps : (a s : List ℕ) (n : ℕ) → Keeps a (return_given a s n)
unfolding return_given
return_keeps a s n = coded a (returned a s (spelled name_size n)) (return_told a s (spelled name_size n))

pub drop_keeps : (s : List ℕ) (n : ℕ) → Keeps s (drop_given s n)
unfolding drop_given
drop_keeps s n = coded s (dropped s (spelled name_size n)) (drop_told s (spelled name_size n))
