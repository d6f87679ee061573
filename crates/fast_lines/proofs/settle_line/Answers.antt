use Rattle.fast_lines.specs.LinesLaws.{line_codes, line_asks, line_coded, line_made}
use native.Mathlib.Omega.{arith}
use Rattle.fast_lines.proofs.settle_line.Goals as goal

-- src/lib.rt:163:5
pub clear_line-requires : goal.clear_line-requires
clear_line-requires c = (omega arith, omega arith, omega arith, search line_codes)

-- src/lib.rt:164:5
pub push_all-requires : goal.push_all-requires
push_all-requires c = (omega arith, search line_asks, omega arith, search line_coded)

-- src/lib.rt:151:1
pub returns : goal.returns
returns c = search line_made
