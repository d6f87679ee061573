use Rattle.fast_window.specs.WindowLaws.{window_made}
use Rattle.fast_window.proofs.Start.make.Goals as goal

-- src/lib.rt:134:1
pub returns : goal.returns
returns c = search window_made
