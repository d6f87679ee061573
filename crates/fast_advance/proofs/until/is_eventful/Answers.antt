-- `fast_advance::until::is_eventful` meets its contract. Assumes nothing.
use Rattle.std.specs.Prelude.{◌≡◌, true, false}
use Rattle.std.proofs.Common.{rules}
use Rattle.std.proofs.lemmas.Iterator.{YieldsList-from_slice, cases_from_any}
use borrow.Author.Tests.{tests}
use Rattle.bus_spec.specs.Until.{has_event}
use Rattle.fast_advance.specs.OnwardLaws.{any_eventful}
use Rattle.fast_advance.proofs.until.is_eventful.Goals as goal

pub returns : goal.returns
returns c =
    any_eventful _ _ (search rules)
    (cases_from_any _ _ _ (λ e. has_event e ≡ true) (λ e. has_event e ≡ false) c.any.ensures.ran
    (YieldsList-from_slice c.args.events cc) (λ x q k. search (rules, tests)) (λ x q k. search (rules, tests)))
