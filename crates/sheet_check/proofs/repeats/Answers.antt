-- `sheet_check::repeats` meets its contract. Assumes nothing.
use borrow.Author.Tests.{tests}
use Rattle.std.proofs.Common.{rules, refl, ◌≡◌, true, false, ℕ, arith}
use Rattle.std.proofs.lemmas.Iterator.{cases_from_any, YieldsList-from_range}
use Rattle.sheet_check.specs.Any.{some_below}
use Rattle.sheet_check.specs.Plain.{same_at}
use Rattle.sheet_check.proofs.repeats.Goals as goal

pub returns : goal.returns
returns c =
    some_below (same_at c.args.addresses.now c.args.i) c.args.i _
    (cases_from_any _ _ _ (λ (i : ℕ). same_at c.args.addresses.now c.args.i i ≡ true)
    (λ (i : ℕ). same_at c.args.addresses.now c.args.i i ≡ false) c.any.ensures.ran
    (YieldsList-from_range 0 c.args.i c.args.i refl (omega arith)) (λ x q k. search (rules, tests))
    (λ x q k. search (rules, tests)))
