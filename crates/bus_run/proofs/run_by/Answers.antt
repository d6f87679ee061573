-- `bus_run::run_by` meets its contract. Assumes nothing.
use native.Mathlib.Omega.{arith}
use Rattle.std.proofs.lemmas.Result.{err_from_is_err_and}
use Rattle.area_check.specs.AreaCheckLaws.{passes_long}
use Rattle.bus_spec.specs.RunLaws.{ran_area, ran_over, ran_made, run_allowed, clock_within}
use Rattle.station_tally.specs.TallyLaws.{zeros_bounded}
use Rattle.bus_run.proofs.run_by.Goals as goal

pub returns-in_err-check : goal.returns-in_err-check
returns-in_err-check g c =
    let p = err_from_is_err_and c.from_residual.result c.from_residual.ensures.1 in
    rw (p.1, p.2) (search (ran_area, c.in_err-check.ensures))

pub read_clock-t-requires : goal.read_clock-t-requires
read_clock-t-requires g c = search (passes_long, c.in_ok-check.ensures)

pub overflow_sub-t : goal.overflow_sub-t
overflow_sub-t g c =
    omega (arith, clock_within _ _ c.in_ok-check.ensures.value c.in_ok-check.ensures.octets c.read_clock-t.ensures)

pub returns-then-t-n : goal.returns-then-t-n
returns-then-t-n g c = search (ran_over, c.in_ok-check.ensures)

pub run_steps-course-requires-clause-runnable : goal.run_steps-course-requires-clause-runnable
run_steps-course-requires-clause-runnable g c =
    (search (run_allowed, c.in_ok-check.ensures), search (passes_long, c.in_ok-check.ensures), omega arith)

pub run_steps-course-requires-clause-words_len : goal.run_steps-course-requires-clause-words_len
run_steps-course-requires-clause-words_len g c = (omega arith, search zeros_bounded)

pub returns : goal.returns
returns g c =
    ran_made _ _ _ _ c.run_steps-course.ensures c.in_ok-check.ensures.value c.read_clock-t.ensures
    (clock_within _ _ c.in_ok-check.ensures.value c.in_ok-check.ensures.octets c.read_clock-t.ensures) (omega arith)
