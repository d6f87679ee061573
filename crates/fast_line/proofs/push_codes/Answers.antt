-- `fast_line::push_codes` meets its contract. Assumes nothing.
use mathlib.Core.Path.{refl}
use Prim.Native.Nat.{◌+◌, ◌-◌}
use Rattle.area.specs.Offsets.{ring}
use native.Mathlib.Omega.{arith}
use Rattle.fast_line.specs.LineLaws.{row_room, row_put, codes_rows}
use Rattle.fast_line.proofs.push_codes.Goals as goal

pub put_row-requires : goal.put_row-requires
put_row-requires c =
    let k = c.args.at + (ring - c.capped-m.result) in
    let n = c.capped-n.result in
    let u = c.args.t + (c.args.steps - c.capped-m.result + c.args.d) in
    (omega arith, omega arith, row_room u n k (k + n - k) c.args.codes.now (omega arith) (omega arith) (omega arith))

pub put_row-requires-2 : goal.put_row-requires-2
put_row-requires-2 c =
    let k = c.args.at + (ring - c.capped-m.result) in
    let n = c.capped-n.result in
    let u = c.args.t + (c.args.steps - c.capped-m.result + c.args.d) in (
      omega arith,
      omega arith,
      row_room (u + n) (c.capped-m.result - n) (k + n) (k + c.capped-m.result - (k + n)) c.args.codes.now
          (omega arith) (omega arith)
          (omega arith),
    )

pub returns : goal.returns
returns c =
    codes_rows _ _ _ _ _ _ _ _ _ _ _ _ _
    c.capped-m.ensures refl refl
    c.capped-n.ensures
    (row_put _ _ _ _ c.capped-n.result _ (omega arith) _ _ (omega arith) c.put_row.ensures)
    (row_put _ _ _ _ _ _ (omega arith) _ _ (omega arith) c.put_row-2.ensures)
