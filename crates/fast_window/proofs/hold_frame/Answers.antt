use Rattle.fast_window.specs.MovedLaws.{frame_room_lem}
use Rattle.fast_window.specs.MovedLaws.{held_frame}
use Rattle.fast_window.proofs.hold_frame.Goals as goal

-- src/lib.rt:79:5
pub store-requires : goal.store-requires
store-requires c = search frame_room_lem

-- src/lib.rt:74:1
pub returns : goal.returns
returns c = search held_frame
