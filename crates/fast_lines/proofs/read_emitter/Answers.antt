-- `fast_lines::read_emitter` meets its contract. Assumes nothing.
use Rattle.fast_lines.specs.LinesLaws.{emitter_silent, emitter_jams, emitter_sends}
use native.Mathlib.Omega.{arith}
use Rattle.fast_lines.proofs.read_emitter.Goals as goal

pub returns-then-phase-lt3 : goal.returns-then-phase-lt3
returns-then-phase-lt3 c = search emitter_silent

pub returns-then-phase-gt4 : goal.returns-then-phase-gt4
returns-then-phase-gt4 c = emitter_jams _ _ _ c.read_word-phase.ensures (omega arith)

pub returns : goal.returns
returns c =
    emitter_sends _ _ _ _ _ c.read_word-octets.ensures c.read_word-bit.ensures
    c.read_word-phase.ensures (omega arith) (omega arith)
