-- The sizes that are handed out fit a word. Assumes nothing.
use Rattle.std.specs.Prelude.{ℕ, zero, suc, ◌+◌, ◌-◌, ◌*◌, ◌≤◌, ◌<◌, ◌≡◌, Bool, false, List, ltb, leb, eqb, length, get_or, drop}
use Rattle.std.proofs.Common.{arith, ltb-false, leb-true, eqb-true, length-take, length-drop}
use Rattle.octets.specs.Base.{values_of}
use Rattle.octets.specs.BaseLaws.{by_test}
use Rattle.octets.specs.NumberLaws.{length_spelled}
use Rattle.octets.specs.Number.{spelled}
use Rattle.sheet_layout.specs.Check.{refusal_of}
use Rattle.sheet_layout.specs.CheckLaws.{sound}
use Rattle.sheet_read.specs.Sheet.{map_of, stands, field_at, count_in, layout_in, sheet_size, read_sheet}
use Rattle.sheet_read.specs.Sheet.{field_count}
use Rattle.sheet_read.specs.SheetLaws.{width_most}
use Rattle.frame_build.specs.Limits.{max_frame, refuses_data, buffer_octets}
use Rattle.frame_build.specs.Build.{frame_of, built}
use Rattle.frame_open.specs.Open.{value_of as lengthType, data_field, check_wrong, check_error, length_wrong, client_size}
use Rattle.frame_open.specs.Open.{unpadded, opened}
use Rattle.frame_build.specs.BuildLaws.{frame_size, frame_most, data_within}
use Rattle.c_words.specs.Answers.{value_of}
use Rattle.sheet_layout.specs.Limits.{max_stations}

-- ---- sheets

-- a layout that is handed on has at most 16 stations
pub sheet_few : (l : List ℕ) → (read_sheet l).layout.count ≤ max_stations
unfolding read_sheet
sheet_few l =
    by_test (ltb (length l) (sheet_size l)) (λ p. rw p (omega arith))
    (λ p. by_test (stands (map_of l) 7) (λ q. rw (p, q) (omega arith))
    (λ q. by_test (eqb (refusal_of (layout_in l)) 0)
    (λ r. rw (p, q, r) (sound (layout_in l) (eqb-true (refusal_of (layout_in l)) 0 r)).count.1)
    (λ r. rw (p, q, r) (omega arith))))

fields_small : (m k : ℕ) → field_at m k ≤ 1 + 2 * k
unfolding field_at
fields_small m zero = omega arith
fields_small m (suc k) =
    by_test (stands m k) (λ p. rw p (omega (arith, fields_small m k, width_most k)))
    (λ p. rw p (omega (arith, fields_small m k)))

size_small : (l : List ℕ) → count_in l ≤ max_stations → sheet_size l < 256
unfolding sheet_size
size_small l h = omega (arith, fields_small (map_of l) field_count)

size_within : (l : List ℕ) → (layout_in l).count ≤ max_stations → sheet_size l < 256
unfolding layout_in
size_within l h = size_small l h

-- the octets that a sheet uses
pub sheet_small : (l : List ℕ) → value_of (read_sheet l).answer < 256
unfolding read_sheet
sheet_small l =
    by_test (ltb (length l) (sheet_size l)) (λ p. rw p (omega arith))
    (λ p. by_test (stands (map_of l) 7) (λ q. rw (p, q) (omega arith))
    (λ q. by_test (eqb (refusal_of (layout_in l)) 0)
    (λ r. rw (p, q, r) (size_within l (sound (layout_in l) (eqb-true (refusal_of (layout_in l)) 0 r)).count.1))
    (λ r. rw (p, q, r) (omega arith))))

-- ---- frames

-- the octets of client data
check_small : (e : ℕ) → get_or (values_of (check_error e)) 1 0 < 4294967296
unfolding check_error
check_small e = by_test (eqb e 0) (λ p. rw p (omega arith)) (λ p. rw p (omega arith))

client_small : (v n : ℕ) → n ≤ buffer_octets → client_size v n < 4294967296
unfolding client_size
client_small v n h = by_test (leb v 1500) (λ p. rw p (omega (arith, leb-true v 1500 p))) (λ p. rw p (omega arith))

rules_small : (v : ℕ) (l : List ℕ) → length l ≤ buffer_octets → get_or (values_of (unpadded v l).status) 1 0 < 4294967296
unfolding unpadded
rules_small v l h =
    by_test (length_wrong v (length l)) (λ p. rw p (omega arith)) (λ p. rw p (client_small v (length l) h))

field_small : (f : List ℕ) → length f ≤ buffer_octets → length (data_field f) ≤ buffer_octets
unfolding data_field
field_small f h = omega (arith, length-take (length f - 18) (drop 14 f), length-drop 14 f)

frame_small : (v n : ℕ) → ltb (max_frame v) n ≡ false → n ≤ buffer_octets
frame_small v n p = omega (arith, ltb-false (max_frame v) n p, frame_most v)

pub open_small : (s : Bool) (f : List ℕ) (e : ℕ) → get_or (values_of (opened s f e).status) 1 0 < 4294967296
unfolding opened
open_small b f e =
    by_test (ltb 7 e) (λ p. rw p (omega arith))
    (λ p. by_test (ltb (length f) 64) (λ q. rw (p, q) (omega arith))
    (λ q. by_test (ltb (max_frame (lengthType f)) (length f)) (λ r. rw (p, q, r) (omega arith))
    (λ r. by_test (check_wrong b f) (λ s. rw (p, q, r, s) (check_small e))
    (λ s. rw (p, q, r, s) (rules_small (lengthType f) (data_field f)
    (field_small f (frame_small (lengthType f) (length f) r)))))))

pub build_size : (l d s : List ℕ) (v : ℕ) (x : List ℕ) → length d ≡ 6 → length s ≡ 6
    → value_of (built l d s v x).answer ≤ buffer_octets
unfolding built
build_size l d s v x hd hs =
    by_test (refuses_data v (length x)) (λ p. rw p (omega arith))
    (λ p. by_test (ltb (length l) (length (frame_of d s v x))) (λ q. rw (p, q) (omega arith))
    (λ q. rw (p, q) (omega (arith, frame_size d s v x hd hs, data_within v (length x) p))))

pub build_small : (l : List ℕ) (d s v : ℕ) (x : List ℕ)
    → value_of (built l (spelled 6 d) (spelled 6 s) v x).answer < 4294967296
build_small l d s v x =
    omega (arith, build_size l (spelled 6 d) (spelled 6 s) v x (length_spelled 6 d) (length_spelled 6 s))
