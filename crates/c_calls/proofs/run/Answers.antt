-- `c_calls::run` meets its contract. Assumes nothing.
use native.Mathlib.Omega.{arith}
use Rattle.c_words.specs.AnswersLaws.{below_refused}
use Rattle.c_calls.specs.Calls.{run_left}
use Rattle.c_calls.specs.CallLaws.{runs, run_refused}
use Rattle.c_calls.specs.CallTheorems.{run_told}
use Rattle.c_calls.proofs.run.Goals as goal

pub returns-in_err-answer-clause-number : goal.returns-in_err-answer-clause-number
returns-in_err-answer-clause-number g c = search (run_refused, c.in_err-answer.was, c.requires.runs)

pub returns-in_err-answer-clause-told : goal.returns-in_err-answer-clause-told
returns-in_err-answer-clause-told g c = search below_refused

pub returns-clause-number : goal.returns-clause-number
unfolding run_left
returns-clause-number g c = let h = c.requires.runs _ _ _ c.engine.ensures in grind (arith, runs, c.in_ok-answer.was)

pub returns-clause-told : goal.returns-clause-told
returns-clause-told g c = run_told _ _ _ _ _ c.in_ok-answer.was (c.requires.runs _ _ _ c.engine.ensures)
