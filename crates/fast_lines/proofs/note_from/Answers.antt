use Rattle.fast_line.specs.LineLaws.{below_same}
use Rattle.fast_lines.specs.LinesLaws.{note_silent, note_sends, note_jams, note_frame, note_enough}
use native.Mathlib.Omega.{arith}
use Rattle.fast_lines.proofs.note_from.Goals as goal

pub returns-in-Silent-clause-coded : goal.returns-in-Silent-clause-coded
returns-in-Silent-clause-coded c = search note_silent

pub returns-in-Silent-clause-kept : goal.returns-in-Silent-clause-kept
returns-in-Silent-clause-kept c = search below_same

pub note_bits-requires : goal.note_bits-requires
note_bits-requires c = (omega arith, search note_frame, omega arith, omega arith, search note_enough)

pub returns-in-Sender-clause-coded : goal.returns-in-Sender-clause-coded
returns-in-Sender-clause-coded c = search note_sends

pub returns-in-Jammer-clause-coded : goal.returns-in-Jammer-clause-coded
returns-in-Jammer-clause-coded c = search note_jams
