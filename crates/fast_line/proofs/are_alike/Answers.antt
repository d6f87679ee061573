-- `fast_line::are_alike` meets its contract. Assumes nothing.
use mathlib.Core.Path.{◌≡◌, refl}
use denote.Enum.Declared.{tag_of}
use Rattle.fast_line.specs.declared.LineKind.{LineKind}
use Rattle.fast_line.specs.declared.LineKind.TheVariants.{Empty, Bits, Noise}
use Rattle.fast_line.specs.contracts.LineKind.{the_type}
use Rattle.fast_line.specs.Line.{kind_number}
use Rattle.fast_line.specs.LineLaws.{differ_none, differ_more, differ_end}
use Rattle.fast_line.proofs.are_alike.Goals as goal

number_is : (k : LineKind) → tag_of the_type k ≡ kind_number k
number_is Empty = refl
number_is Bits = refl
number_is Noise = refl

pub loop-i-init : goal.loop-i-init
loop-i-init c = search differ_none

pub loop-i-preserved : goal.loop-i-preserved
loop-i-preserved c = differ_more _ _ _ _ _ _ _ _ _ (number_is _) c.code_at-code.ensures refl c.loop-i.invariant

pub returns : goal.returns
returns c = search differ_end
