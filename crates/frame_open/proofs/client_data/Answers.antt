-- `frame_open::client_data` meets its contract. Assumes nothing.
use Prim.Native.Nat.{◌+◌, ◌≤◌}
use lib.ListN.{length}
use native.Mathlib.Omega.{arith}
use Rattle.frame_open.specs.OpenLaws.{client_room, client_ok, client_refused, client_none}
use Rattle.frame_open.proofs.client_data.Goals as goal

pub returns-in_default : goal.returns-in_default
returns-in_default c = search client_refused

pub overflow_add-result : goal.overflow_add-result
overflow_add-result c =
    let h : 14 + c.in-ReceiveOk.n ≤ length c.args.frame.now = search client_room in omega arith

pub slice_bounds-result-end-in-ReceiveOk : goal.slice_bounds-result-end-in-ReceiveOk
slice_bounds-result-end-in-ReceiveOk c = search client_room

pub returns-in-ReceiveOk : goal.returns-in-ReceiveOk
returns-in-ReceiveOk c = search client_ok

pub returns-in_default-s : goal.returns-in_default-s
returns-in_default-s c = search (client_none, c.in_default-s.not-ReceiveOk)
