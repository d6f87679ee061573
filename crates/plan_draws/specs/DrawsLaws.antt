-- That the row of a station's draws lies within the octets of all draws. Assumes nothing.
use Rattle.std.specs.Prelude.{ℕ, suc, ◌+◌, ◌*◌, ◌≤◌, ◌<◌, ◌≡◌, List, length}
use Rattle.std.proofs.Common.{suc-mul, mul-le-mul_right, arith}

pub row_room : (l : List ℕ) (at d i n p : ℕ) → p ≡ at + 2 * (i * d) → i < n → at + 2 * (n * d) ≤ length l
    → p + 2 * d ≤ length l
row_room l at d i n p e h g =
    let m : suc i * d ≤ n * d = mul-le-mul_right d h in
    omega (arith, suc-mul i d)
