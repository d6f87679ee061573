-- `frame_build::builder::write_data` meets its contract. Assumes nothing.
use native.Mathlib.Omega.{arith}
use mathlib.Core.Path.{refl}
use Rattle.frame_build.specs.BuildLaws.{data_is}
use Rattle.frame_build.proofs.builder.write_data.Goals as goal

pub returns : goal.returns
returns c = data_is _ _ _ _ _ _ c.store.ensures c.pad_size.ensures (omega arith) (c.fill.ensures.after (λ y e. e)) refl
