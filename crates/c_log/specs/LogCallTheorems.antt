-- What a caller may rely on: a reply with bit 31 is a refusal, and the lent output is then as it was. Assumes nothing.
use Rattle.std.specs.Prelude.{ℕ, ◌/◌, refl, List, eqb, length}
use Rattle.std.proofs.Common.{arith}
use Rattle.octets.specs.Base.{some}
use Rattle.octets.specs.BaseLaws.{by_test}
use Rattle.log_entry.specs.Log.{answered}
use Rattle.log_lookup.specs.Lookup.{looked_up}
use Rattle.log_octets.specs.Octets.{unknown_at, octets_looked_up}
use Rattle.c_calls.specs.CallTheorems.{Keeps, Told, coded}
use Rattle.c_log.specs.LogCalls.{windows_given}

answered_told : (x : ℕ) (counts out : List ℕ) → Told out (answered x counts out)
unfolding answered
answered_told x counts out =
    by_test (eqb x 0) (λ p. rw p (omega arith, λ h. absurd (h refl))) (λ p. rw p (omega arith, λ h. refl))

octets_told : (n : ℕ) (ws l out : List ℕ) → Told out (octets_looked_up n ws l out)
unfolding octets_looked_up looked_up
octets_told n ws l out =
    by_test (some (unknown_at l) (length l / 6)) (λ p. rw p (omega arith, λ h. refl))
    (λ p. rw p (answered_told _ _ out))

pub windows_keeps : (l : List ℕ) (n : ℕ) (ws out : List ℕ) → Keeps out (windows_given l n ws out)
unfolding windows_given
windows_keeps l n ws out = coded out (octets_looked_up n ws l out) (octets_told n ws l out)
