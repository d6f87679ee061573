use Rattle.fast_lines.specs.LinesLaws.{push_own, push_silent, push_coded, push_near, push_close}
use native.Mathlib.Omega.{arith}
use Rattle.fast_lines.proofs.push_from.Goals as goal

pub returns-then-i-j : goal.returns-then-i-j
returns-then-i-j c = search push_own

pub returns-in-Silent : goal.returns-in-Silent
returns-in-Silent c = search push_silent

pub push_codes-requires : goal.push_codes-requires
push_codes-requires c = (omega arith, omega arith, search push_near, search push_close, omega arith)

pub returns : goal.returns
returns c = search push_coded
