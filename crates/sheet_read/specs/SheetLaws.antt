-- Where the fields of a sheet are. Assumes nothing.
use Rattle.std.specs.Prelude.{ℕ, zero, suc, ◌+◌, ◌-◌, ◌≤◌, ◌<◌, ◌≡◌, true}
use Rattle.std.proofs.Math.Path.{subst}
use Rattle.std.proofs.Common.{add-one, arith}
use Rattle.octets.specs.Base.{pick}
use Rattle.sheet_read.specs.Sheet.{stands, field_count, width, field_at}

pub width_most : (k : ℕ) → width k ≤ 2
width_most zero = omega arith
width_most (suc zero) = omega arith
width_most (suc (suc zero)) = omega arith
width_most (suc (suc (suc zero))) = omega arith
width_most (suc (suc (suc (suc zero)))) = omega arith
width_most (suc (suc (suc (suc (suc zero))))) = omega arith
width_most (suc (suc (suc (suc (suc (suc zero)))))) = omega arith
width_most (suc (suc (suc (suc (suc (suc (suc k))))))) = omega arith

pub place_more : (m k at w : ℕ) → w ≡ pick (stands m k) (width k) 0 → at ≡ field_at m k → at + w ≡ field_at m (k + 1)
unfolding field_at
place_more m k at w p q = rw (add-one k, p, q)

-- the fields follow one another
pub fields_rise : (m j d : ℕ) → field_at m j ≤ field_at m (d + j)
unfolding field_at
fields_rise m j zero = let e : 0 + j ≡ j = omega arith in rw e (omega arith)
fields_rise m j (suc d) = let e : suc d + j ≡ suc (d + j) = omega arith in rw e (omega (arith, fields_rise m j d))

-- where the field of bit k stands, it ends before the next
pub field_ends : (m k : ℕ) → stands m k ≡ true → field_at m k + width k ≤ field_at m (suc k)
unfolding field_at
field_ends m k p = rw p (omega arith)

-- there is an octet for the map
pub place_low : (m k : ℕ) → 1 ≤ field_at m k
unfolding field_at
place_low m k = let e : k + 0 ≡ k = omega arith in subst (λ (j : ℕ). 1 ≤ field_at m j) e (fields_rise m 0 k)

-- a field that stands ends where the octet N stands, or before
pub field_within : (m k : ℕ) → k < field_count → stands m k ≡ true → field_at m k + width k ≤ field_at m field_count
field_within m k h t =
    let e : (field_count - suc k) + suc k ≡ field_count = omega arith in
    let r : field_at m (suc k) ≤ field_at m field_count =
    subst (λ (j : ℕ). field_at m (suc k) ≤ field_at m j) e (fields_rise m (suc k) (field_count - suc k)) in
    omega (arith, field_ends m k t)
