-- `fast_heard::line_ahead` meets its contract. Assumes nothing.
use Rattle.fast_heard.specs.HearingLaws.{ahead_none, ahead_clear, ahead_run}
use Rattle.fast_heard.proofs.line_ahead.Goals as goal

pub returns-then-s-ge-RING-clause-run : goal.returns-then-s-ge-RING-clause-run
returns-then-s-ge-RING-clause-run c = search ahead_none

pub returns-then-is_clear-clause-run : goal.returns-then-is_clear-clause-run
returns-then-is_clear-clause-run c = search ahead_clear

pub returns-clause-run : goal.returns-clause-run
returns-clause-run c = search ahead_run
