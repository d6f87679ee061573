-- `bus_read::copy_frame` meets its contract. Assumes nothing.
use Rattle.std.proofs.Common.{sym, length-take-le}
use Rattle.bus_read.specs.ReadLaws.{copied_is, buffer_room}
use Rattle.bus_read.proofs.copy_frame.Goals as goal

pub slice_bounds-store-end : goal.slice_bounds-store-end
slice_bounds-store-end c = sym (length-take-le _ _ (search buffer_room))

pub returns : goal.returns
returns c = search copied_is
