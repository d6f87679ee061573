-- `frame_build::builder::write_header` meets its contract. Assumes nothing.
use native.Mathlib.Omega.{arith}
use Rattle.frame_build.specs.BuildLaws.{header_is}
use borrow.Author.Rules.{rules}
use Rattle.frame_build.proofs.builder.write_header.Goals as goal

pub returns : goal.returns
returns c =
    header_is _ _ _ _ _ _ _ c.put16.ensures
    c.store-2.ensures
    c.store.ensures
    (search rules) (omega arith)
