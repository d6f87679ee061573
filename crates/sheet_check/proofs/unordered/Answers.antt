-- `sheet_check::unordered` meets its contract. Assumes nothing.
use borrow.Author.Tests.{tests}
use Rattle.std.proofs.Common.{rules, refl, ◌≡◌, true, false, ℕ, arith}
use Rattle.std.proofs.lemmas.Iterator.{cases_from_any, YieldsList-from_range}
use Rattle.sheet_check.specs.Any.{some_below}
use Rattle.sheet_check.specs.Plain.{drops_at}
use Rattle.sheet_check.proofs.unordered.Goals as goal

pub returns : goal.returns
returns c =
    some_below (drops_at c.args.positions.now) c.args.n _
    (cases_from_any _ _ _ (λ (i : ℕ). drops_at c.args.positions.now i ≡ true)
    (λ (i : ℕ). drops_at c.args.positions.now i ≡ false) c.any.ensures.ran
    (YieldsList-from_range 0 c.args.n c.args.n refl (omega arith)) (λ x q k. search (rules, tests))
    (λ x q k. search (rules, tests)))
