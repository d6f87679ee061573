-- The sizes of a frame and its parts, and a law for each way through the builder. Assumes nothing.
use Rattle.std.specs.Prelude.{ℕ, ◌+◌, ◌-◌, ◌≤◌, ◌<◌, max, ◌≡◌, refl, Bool, true, false, List, [], ◌∷◌, ◌++◌, ltb, eqb, take, drop, replicate}
use Rattle.std.proofs.Common.{◌∙◌, ap, true≢false}
use native.Mathlib.Omega.{arith}
use borrow.Author.Tests.{lt-ltb, le-ltb, ltb-false, ne_eqb}
use Rattle.std.proofs.Math.ListN.{length, length-append}
use Rattle.std.proofs.lemmas.List.{length-replicate}
use Rattle.std.proofs.Math.Seq.{sets, length-sets}
use borrow.Rule.Slice.PartMut.{put_mid}
use Rattle.octets.specs.Lent.{put_fill}
use Rattle.octets.specs.Base.{pick, refused, accepted, outcome}
use Rattle.octets.specs.BaseLaws.{by_test}
use Rattle.octets.specs.Number.{spelled, put}
use Rattle.octets.specs.NumberLaws.{length_spelled}
use Rattle.octets.specs.Store.{sets_append, take_sets}
use Rattle.frame_crc.specs.Crc.{check_sequence}
use Rattle.frame_crc.specs.Division.{length_sequence}
use Rattle.frame_build.specs.Limits.{tag_value, max_data, max_frame, buffer_octets, refuses_value, refuses_data}
use Rattle.frame_build.specs.Build.{header, padded, covered, frame_of, built}

-- ---- sizes

pub length_header : (d s : List ℕ) (v : ℕ) → length d ≡ 6 → length s ≡ 6 → length (header d s v) ≡ 14
unfolding header
length_header d s v p q =
    length-append (d ++ s) (spelled 2 v) ∙ omega (arith, length-append d s, length_spelled 2 v)

pub length_padded : (x : List ℕ) → length (padded x) ≡ length x + (46 - length x)
unfolding padded
length_padded x =
    length-append x (replicate (46 - length x) 0) ∙ omega (arith, length-replicate {A = ℕ} (46 - length x) 0)

-- ---- the stores

-- destination, source, length/type
pub header_is : (l a b c d s : List ℕ) (v : ℕ) → c ≡ put 2 b 12 v → b ≡ sets a 6 s → a ≡ sets l 0 d → length d ≡ 6
    → length s ≡ 6
    → c ≡ sets l 0 (header d s v)
unfolding header put
header_is l a b c d s v p q r m n =
    let two : b ≡ sets l 0 (d ++ s) = q ∙ rw r (sets_append d s l 0 6 (omega arith)) in
    p ∙ rw two (sets_append (d ++ s) (spelled 2 v) l 0 12 (omega (arith, length-append d s)))

-- data and padding
pub data_is : (l a z x : List ℕ) (p k : ℕ) → a ≡ sets l 14 x → p ≡ 46 - length x → 14 + (length x + p) ≤ length l
    → z ≡ replicate (length (take k (drop (14 + length x) a))) 0 → k ≡ 14 + length x + p - (14 + length x)
    → put_mid (14 + length x) k a z ≡ sets l 14 (padded x)
unfolding padded
data_is l a z x p k r e h f g =
    let w : k ≡ 46 - length x = omega arith in
    let n : length a ≡ length l = ap length r ∙ length-sets l 14 x in
    put_fill a z (14 + length x) k 0 f (omega arith)
    ∙ rw (w, r) (sets_append x (replicate (46 - length x) 0) l 14 (14 + length x) refl)

covered_is : (l a b d s : List ℕ) (v : ℕ) (x : List ℕ) → b ≡ sets a 14 (padded x) → a ≡ sets l 0 (header d s v)
    → length d ≡ 6 → length s ≡ 6
    → b ≡ sets l 0 (covered d s v x)
unfolding covered
covered_is l a b d s v x p q m n =
    p ∙ rw q (sets_append (header d s v) (padded x) l 0 14 (omega (arith, length_header d s v m n)))

-- the check sequence of the first `end` octets stored after them
unfoldable pub sealed : List ℕ → ℕ → List ℕ
sealed l end = sets l end (check_sequence (take end l))

pub seal_is : (l a c : List ℕ) (end : ℕ) → a ≡ sets l end c → c ≡ check_sequence (take end l) → a ≡ sealed l end
unfolding sealed
seal_is l a c end p q = rw (p, q)

-- ---- the whole frame

module _ (l d s : List ℕ) (v : ℕ) (x : List ℕ) where
  pub length_covered : length d ≡ 6 → length s ≡ 6 → length (covered d s v x) ≡ 14 + (length x + (46 - length x))
  unfolding covered
  length_covered m n = length-append (header d s v) (padded x) ∙ omega (arith, length_header d s v m n, length_padded x)

  pub length_frame : length d ≡ 6 → length s ≡ 6 → length (frame_of d s v x) ≡ 14 + (length x + (46 - length x)) + 4
  unfolding frame_of
  length_frame m n =
      length-append (covered d s v x) (check_sequence (covered d s v x))
      ∙ omega (arith, length_covered m n, length_sequence (covered d s v x))

  pub built_refused : (b : Bool) → b ≡ refuses_data v (length x) → b ≡ true → outcome (refused 11) l ≡ built l d s v x
  unfolding built
  built_refused b p q = rw (← p, q)

  pub built_short : (b : Bool) (p : ℕ) → b ≡ refuses_data v (length x) → b ≡ false → p ≡ 46 - length x
      → length l < 14 + (length x + p) + 4 → length d ≡ 6 → length s ≡ 6
      → outcome (refused 15) l ≡ built l d s v x
  unfolding built
  built_short b p q f w g m n =
      rw (← q, f, lt-ltb (length l) (length (frame_of d s v x)) (omega (arith, length_frame m n)))

  -- the two stores of the builder make the frame
  frame_is : (a c : List ℕ) (e : ℕ) → c ≡ sealed a e → a ≡ sets l 0 (covered d s v x) → e ≡ length (covered d s v x)
      → e ≤ length l
      → c ≡ sets l 0 (frame_of d s v x)
  unfolding sealed frame_of
  frame_is a c e p q n h =
      p ∙ rw (q, take_sets (covered d s v x) l e n (omega arith))
      (sets_append (covered d s v x) (check_sequence (covered d s v x)) l 0 e (omega arith))

  pub built_made : (h a c : List ℕ) (b : Bool) (p : ℕ) → c ≡ sealed a (14 + (length x + p))
      → a ≡ sets h 14 (padded x) → h ≡ sets l 0 (header d s v)
      → b ≡ refuses_data v (length x) → b ≡ false
      → p ≡ 46 - length x → 14 + (length x + p) + 4 ≤ length l → length d ≡ 6 → length s ≡ 6
      → outcome (accepted ((14 + (length x + p) + 4) ∷ [])) c ≡ built l d s v x
  unfolding built
  built_made h a c b p r t u q f w g m n =
      let size : 14 + (length x + p) + 4 ≡ length (frame_of d s v x) = omega (arith, length_frame m n) in
      let octets : c ≡ sets l 0 (frame_of d s v x) =
      frame_is a c (14 + (length x + p)) r (covered_is l h a d s v x t u m n) (omega (arith, length_covered m n)) (omega arith) in
      rw (← q, f, le-ltb (length l) (length (frame_of d s v x)) (omega arith), size, octets)

-- ---- sizes

pub within : (v n : ℕ) → refuses_data v n ≡ false → n ≤ max_data v
unfolding refuses_data
within v n h = go (ltb (max_data v) n) refl h
  where
    go : (t : Bool) → ltb (max_data v) n ≡ t → pick t true (refuses_value v n) ≡ false → n ≤ max_data v
    go true p q = absurd (true≢false q)
    go false p q = ltb-false (max_data v) n p

-- the largest frame and the largest data
module _ (v : ℕ) where
  pub frame_plain : (v ≡ tag_value → ⊥) → 1518 ≡ max_frame v
  unfolding max_frame
  frame_plain h = rw (ne_eqb v tag_value h)

  -- the largest data make the largest frame; every value allows 1518 octets and none more than the buffer holds
  pub frame_room_lem : max_frame v ≡ max_data v + 18
  unfolding max_data max_frame
  frame_room_lem = by_test (eqb v tag_value) (λ c. rw c) (λ c. rw c)

  pub frame_most : (1518 ≤ max_frame v) × (max_frame v ≤ buffer_octets)
  unfolding max_frame
  frame_most = by_test (eqb v tag_value) (λ c. rw c (omega arith, omega arith)) (λ c. rw c (omega arith, omega arith))

pub data_within : (v n : ℕ) → refuses_data v n ≡ false → n + 18 ≤ buffer_octets
data_within v n h = omega (arith, within v n h, frame_room_lem v, frame_most v)

pub length_padded_max : (x : List ℕ) → length (padded x) ≡ max 46 (length x)
length_padded_max x = omega (arith, length_padded x)

-- a frame is the data with their padding and eighteen octets more
pub frame_size : (d s : List ℕ) (v : ℕ) (x : List ℕ) → length d ≡ 6 → length s ≡ 6
    → length (frame_of d s v x) ≡ max 46 (length x) + 18
frame_size d s v x hd hs = omega (arith, length_frame [] d s v x hd hs, length_padded x)

-- the frame of data that are not refused is no longer than its value allows
pub frame_within : (d s : List ℕ) (v : ℕ) (x : List ℕ) → length d ≡ 6 → length s ≡ 6 → refuses_data v (length x) ≡ false
    → length (frame_of d s v x) ≤ max_frame v
frame_within d s v x hd hs h =
    omega (arith, frame_size d s v x hd hs, within v (length x) h, frame_room_lem v, frame_most v)

-- ---- refusal 11, by its two parts

module _ (l d s : List ℕ) (v : ℕ) (x : List ℕ) where
  -- "Data over 1500 octets", 1504 under the tag
  pub built_over : (k : ℕ) → k ≡ max_data v → k < length x → outcome (refused 11) l ≡ built l d s v x
  unfolding built refuses_data
  built_over k p h = rw (← p, lt-ltb k (length x) h)

  -- "a value up to 1500 other than the data's size, or a value 1501..1535"
  pub built_value : (k : ℕ) (b : Bool) → k ≡ max_data v → length x ≤ k → b ≡ refuses_value v (length x) → b ≡ true
      → outcome (refused 11) l ≡ built l d s v x
  unfolding built refuses_data
  built_value k b p h q t = rw (← p, le-ltb k (length x) h, ← q, t)
