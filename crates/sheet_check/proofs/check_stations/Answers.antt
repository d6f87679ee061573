-- `sheet_check::check_stations` meets its contract. Assumes nothing.
use Prim.Native.Nat.{◌-◌}
use Rattle.sheet_check.specs.PlainLaws.{count_above, count_below, count_most, plain_position, plain_count}
use Rattle.sheet_check.specs.PlainLaws.{plain_order, plain_address, plain_none}
use Rattle.sheet_check.proofs.check_stations.Goals as goal

pub returns-then-positions_out : goal.returns-then-positions_out
returns-then-positions_out c = search plain_position

pub returns-then-out_of : goal.returns-then-out_of
returns-then-out_of c = search plain_count

pub overflow_sub-n : goal.overflow_sub-n
overflow_sub-n c = search count_above

pub unordered-requires : goal.unordered-requires
unordered-requires c = search count_below

pub returns-then-unordered : goal.returns-then-unordered
returns-then-unordered c = search plain_order

pub addresses_wrong-requires : goal.addresses_wrong-requires
addresses_wrong-requires c = search count_most

pub returns-then-addresses_wrong : goal.returns-then-addresses_wrong
returns-then-addresses_wrong c = search plain_address

pub returns : goal.returns
returns c = search plain_none
