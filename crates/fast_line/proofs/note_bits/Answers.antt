-- `fast_line::note_bits` meets its contract. Assumes nothing.
use Rattle.fast_line.specs.LineLaws.{noted_none, below_same, note_room, bits_noted, below_more, bits_coded}
use Rattle.fast_line.proofs.note_bits.Goals as goal

pub loop-put-init : goal.loop-put-init
loop-put-init c = (search noted_none, search below_same)

pub bit_code-requires : goal.bit_code-requires
bit_code-requires c = search note_room

pub loop-put-preserved : goal.loop-put-preserved
loop-put-preserved c = (search bits_noted, search below_more)

pub returns-clause-coded : goal.returns-clause-coded
returns-clause-coded c = search bits_coded
