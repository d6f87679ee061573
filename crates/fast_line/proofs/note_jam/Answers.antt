-- `fast_line::note_jam` meets its contract. Assumes nothing.
use mathlib.Core.Path.{refl}
use native.Mathlib.Omega.{arith}
use Rattle.fast_line.specs.LineLaws.{jam_coded, jam_below}
use Rattle.fast_line.proofs.note_jam.Goals as goal

pub returns-clause-coded : goal.returns-clause-coded
returns-clause-coded c =
    jam_coded _ _ _ _ _ _ _ c.capped-m.ensures refl c.requires (omega arith) (c.fill.ensures.after (λ y e. e))

pub returns-clause-kept : goal.returns-clause-kept
returns-clause-kept c =
    jam_below _ _ _ _ _ _ c.args.steps c.capped-m.ensures refl c.requires (omega arith) (c.fill.ensures.after (λ y e. e))
