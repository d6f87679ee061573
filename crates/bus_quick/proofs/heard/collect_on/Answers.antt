-- `bus_quick::heard::collect_on` meets its contract. Assumes nothing.
use Rattle.bus_quick.specs.Quick.{collected_is}
use mathlib.Core.Path.{refl}
use Rattle.bus_quick.proofs.heard.collect_on.Goals as goal

pub returns : goal.returns
returns c =
    collected_is _ _ _ _ _ _ _ _ c.keep_one.ensures
    c.spoil.ensures
    c.write_word.ensures refl
    c.read_word-k.ensures
