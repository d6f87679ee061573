-- What counting a sent frame comes to, from what each of its counts is. Assumes nothing.
use Rattle.std.specs.Prelude.{ℕ, ◌-◌, ◌≡◌, Bool, ◌&&◌, List, leb, eqb}
use Rattle.std.proofs.Common.{◌∙◌}
use Rattle.station_spec.specs.Count.{added, added_if, count_sent}

pub sent_is : (cs a b c d e : List ℕ) (n z x : ℕ) (w v : Bool) → e ≡ added_if v d 8 → v ≡ (w && eqb n 1)
    → d ≡ added_if (leb 3 n) c 6
    → c ≡ added_if (eqb n 2) b 5
    → b ≡ added a 7 x → x ≡ z - 18 → a ≡ added cs 4 1 → e ≡ count_sent cs n z w
unfolding count_sent
sent_is cs a b c d e n z x w v p₁ q p₂ p₃ p₄ p₅ p₆ = p₁ ∙ rw (q, p₂, p₃, p₄, p₅, p₆)
