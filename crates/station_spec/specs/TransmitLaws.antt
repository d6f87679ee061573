-- What is known of the range of a draw, of a backoff, and of the octets that a step looks at. Assumes nothing.
use Rattle.std.specs.Prelude.{ℕ, ◌*◌, ◌%◌, ◌^◌, ◌≤◌, ◌<◌, min, ◌≡◌, refl, Bool}
use Rattle.std.proofs.Common.{◌∙◌, ap, mod-lt, lt_of_le_of_lt, mul-le-mul_left, mul-lt-mul_of_pos_right, arith, pow_pos}
use Rattle.std.proofs.Math.Pow.{pow-lt}
use Rattle.sheet_layout.specs.declared.Figures.{Figures}
use Rattle.station_state.specs.declared.Transmitter.{Transmitter}
use Rattle.station_state.specs.declared.Transmitter.TheVariants.{NoFrame, Waiting, BackingOff, Sending, Heading}
use Rattle.station_state.specs.declared.Transmitter.TheVariants.{Jamming}
use Rattle.station_spec.specs.Transmit.{backoff_range, octets_held, transmit}

pub range_is : (n b i r : ℕ) → i ≡ min n b → r ≡ 2 ^ i → r ≡ backoff_range n b
unfolding backoff_range
range_is n b i r p q = q ∙ ap (λ (k : ℕ). 2 ^ k) p

-- ---- bounds for the code's sums and products

pub range_low : (b i r : ℕ) → i ≤ b → b < 16 → r ≡ 2 ^ i → 0 < r
range_low b i r p h q = omega (arith, pow_pos i)

pub range_high : (b i r : ℕ) → i ≤ b → b < 16 → r ≡ 2 ^ i → r < 65536
range_high b i r p h q = let l : 2 ^ i < 2 ^ 16 = pow-lt {j = 16} (omega arith) in omega arith

pub wait_fits : (s d g : ℕ) → s < 65536 → 0 < g → g < 65536 → s * (d % g) < 4294967296
wait_fits s d g h p q =
    let r : d % g < g = mod-lt d p in
    let w : d % g ≤ 65536 = omega arith in
    lt_of_le_of_lt (mul-le-mul_left s w) (mul-lt-mul_of_pos_right h (omega arith))

-- a step looks at the octets of a frame only where one is held
pub held_transmits : (f : Figures) (t : Transmitter) (z n draw : ℕ) (start hears : Bool)
    → transmit f t (octets_held t z) n draw start hears ≡ transmit f t z n draw start hears
unfolding transmit
held_transmits f NoFrame z n draw start hears = refl
held_transmits f Waiting z n draw start hears = refl
held_transmits f (BackingOff w) z n draw start hears = refl
held_transmits f (Sending k) z n draw start hears = refl
held_transmits f (Heading k) z n draw start hears = refl
held_transmits f (Jamming left ends) z n draw start hears = refl
