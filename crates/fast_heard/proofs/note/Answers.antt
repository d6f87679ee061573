-- `fast_heard::note` meets its contract. Assumes nothing.
use Rattle.fast_heard.specs.NearLaws.{note_own, note_more}
use Rattle.fast_heard.proofs.note.Goals as goal

pub returns-then-i-j : goal.returns-then-i-j
returns-then-i-j c = search note_own

pub returns : goal.returns
returns c = search note_more
