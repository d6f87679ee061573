-- `station_end::open_reception` meets its contract. Assumes nothing.
use Rattle.std.specs.Prelude.{◌<◌}
use Rattle.std.proofs.Common.{◌∙◌}
use native.Mathlib.Omega.{arith}
use Rattle.station_spec.specs.ReceiveLaws.{opening_ok, opening_refused, opening_error, ok_small}
use Rattle.station_end.proofs.open_reception.Goals as goal

pub returns-in_default : goal.returns-in_default
returns-in_default c = c.left.ensures ∙ opening_refused _ _ _ _ c.in_default.ensures

pub returns-in_default-status : goal.returns-in_default-status
returns-in_default-status c =
    c.left-in_default-status.ensures
    ∙ opening_error _ _ _ _ _ c.in-Ok.ensures c.got_error.ensures c.in_default-status.not-ReceiveOk

pub overflow_cast-size : goal.overflow_cast-size
overflow_cast-size c =
    let h : c.in-ReceiveOk.size < 4294967296 =
    ok_small _ _ _ _ _ _ c.open_buffer.ensures c.in-Ok.is c.in-ReceiveOk.is c.requires in omega arith

pub returns : goal.returns
returns c = c.deciding.ensures ∙ opening_ok _ _ _ _ _ c.in-Ok.ensures c.in-ReceiveOk.is
