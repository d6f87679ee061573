-- A law for each way through the code of a step and of the counters. Assumes nothing.
use Rattle.std.specs.Prelude.{ℕ, ◌≡◌, List}
use Rattle.std.proofs.Common.{sym}
use Rattle.octets.specs.BaseLaws.{refusal_numbered}
use Rattle.octets.specs.NumberLaws.{Octets}
use Rattle.std.proofs.lemmas.Bool.Decides.{nat_tests}
use Rattle.std.proofs.lemmas.Result.{err_from_is_err_and}
use Rattle.area_check.specs.AreaCheckLaws.{passes_long, passes_count}
use Rattle.area_check.specs.Valid.{area_refusal}
use Rattle.bus_spec.specs.Ready.{Ready}
use Rattle.bus_spec.specs.Passes.{passes_ready}

module _ (a : List ℕ) where
  pub step_ready : 0 ≡ area_refusal a → Octets a → Ready a
  unfolding Ready
  step_ready p o = (passes_ready a o (sym p)).ready

pub ruleset stepping = (nat_tests, err_from_is_err_and, refusal_numbered, passes_long, passes_count, step_ready)
