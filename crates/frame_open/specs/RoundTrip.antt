-- Opening what the builder made gives back its fields. Assumes nothing.
use Rattle.std.specs.Prelude.{ℕ, ◌+◌, ◌-◌, ◌≤◌, ◌<◌, max, ◌≡◌, refl, Bool, true, false, ltb, leb, eqb, get_or, take, replicate}
use Rattle.std.proofs.Common.{sym, ◌∙◌, le-ltb, eq-eqb, ltb-false, eqb-true}
use Rattle.std.proofs.Math.Path.{ap, subst⁻¹}
use mathlib.Core.List.{List, [], ◌∷◌, ◌++◌, append_assoc}
use native.Mathlib.Omega.{arith}
use Rattle.std.proofs.lemmas.Bool.{not-false}
use Rattle.std.proofs.Math.ListN.{length, length-append}
use Rattle.std.proofs.Math.Seq.{take_at, drop_at, take-append_seam, take-length}
use Rattle.std.proofs.lemmas.List.Edits.{sets}
use Rattle.octets.specs.BaseLaws.{refused_none, by_eq}
use Rattle.octets.specs.Base.{pick, Answer, refused, accepted, Outcome, outcome, values_of}
use Rattle.octets.specs.EqualLaws.{equal_refl}
use Rattle.octets.specs.Number.{get, spelled}
use Rattle.octets.specs.NumberLaws.{length_spelled, get_spelled, get_front, get_after}
use Rattle.octets.specs.Store.{take_sets}
use Rattle.frame_crc.specs.Crc.{check_sequence}
use Rattle.frame_crc.specs.Division.{length_sequence}
use Rattle.frame_build.specs.Limits.{max_length, min_type, tag_value, max_data, max_frame, refuses_value, refuses_data}
use Rattle.frame_build.specs.Build.{header, padded, covered, frame_of, built}
use Rattle.frame_build.specs.BuildLaws.{length_header, length_padded, length_frame, length_padded_max}
use Rattle.frame_build.specs.BuildLaws.{frame_size, frame_within, frame_most, frame_plain}
use Rattle.frame_open.specs.Open.{destination_of, source_of, value_of, data_field, receive_ok, Opening, check_wrong}
use Rattle.frame_open.specs.Open.{length_wrong, client_size, unpadded, opened}

-- what a receiver is handed back of the data x: under a length the data, under a type the data with their padding
unfoldable pub handed_back : (v : ℕ) (x : List ℕ) → List ℕ
handed_back v x = pick (leb v max_length) x (padded x)

-- what opening gives with receiveOK
abbrev pub received : List ℕ → Opening
received y = record { status = receive_ok (length y); client_data = y }

-- the frame f opens with receiveOK and has these fields
pub record Opens (f : List ℕ) (e : ℕ) (d s : List ℕ) (v : ℕ) (x : List ℕ) : Type 0 where
  pub opens : opened false f e ≡ received x
  pub destination : destination_of f ≡ d
  pub source : source_of f ≡ s
  pub value : value_of f ≡ v

-- ---- what an accepted offer of data is

value_taken : (v n : ℕ) → refuses_data v n ≡ false → refuses_value v n ≡ false
unfolding refuses_data
value_taken v n h = go (ltb (max_data v) n) h
  where
    go : (t : Bool) → pick t true (refuses_value v n) ≡ false → refuses_value v n ≡ false
    go true q = cc
    go false q = q

a_length : (v n : ℕ) → refuses_value v n ≡ false → leb v max_length ≡ true → v ≡ n
unfolding refuses_value
a_length v n h p = eqb-true v n (not-false (eqb v n) (rw p at h))

a_type : (v n : ℕ) → refuses_value v n ≡ false → leb v max_length ≡ false → ltb v min_type ≡ false
unfolding refuses_value
a_type v n h p = rw p at h

-- ---- the fields of a built frame

module _ (d s : List ℕ) (v : ℕ) (x : List ℕ) (hd : length d ≡ 6) (hs : length s ≡ 6) where
  check : List ℕ
  check = check_sequence (covered d s v x)

  -- the frame, split after its header, after its source and after its destination
  after_header : frame_of d s v x ≡ header d s v ++ (padded x ++ check)
  unfolding frame_of covered check
  after_header = append_assoc (header d s v) (padded x) check

  after_source : frame_of d s v x ≡ (d ++ s) ++ (spelled 2 v ++ (padded x ++ check))
  unfolding header
  after_source = after_header ∙ append_assoc (d ++ s) (spelled 2 v) (padded x ++ check)

  after_destination : frame_of d s v x ≡ d ++ (s ++ (spelled 2 v ++ (padded x ++ check)))
  after_destination = after_source ∙ append_assoc d s (spelled 2 v ++ (padded x ++ check))

  size : length (frame_of d s v x) ≡ length (padded x) + 18
  size = omega (arith, length_frame [] d s v x hd hs, length_padded x)

  built_destination : destination_of (frame_of d s v x) ≡ d
  unfolding destination_of
  built_destination = rw after_destination (take_at d (s ++ (spelled 2 v ++ (padded x ++ check))) 6 hd)

  built_source : source_of (frame_of d s v x) ≡ s
  unfolding source_of
  built_source =
      rw (after_destination, drop_at d (s ++ (spelled 2 v ++ (padded x ++ check))) 6 hd)
      (take_at s (spelled 2 v ++ (padded x ++ check)) 6 hs)

  built_value : v < 65536 → value_of (frame_of d s v x) ≡ v
  unfolding value_of
  built_value h =
      ap (λ (f : List ℕ). get 2 f 12) after_source
      ∙ get_after 2 (d ++ s) (spelled 2 v ++ (padded x ++ check)) 12 (omega (arith, length-append d s))
      ∙ get_front 2 (spelled 2 v) (padded x ++ check) 0 (omega (arith, length_spelled 2 v))
      ∙ get_spelled 2 v h

  built_field : data_field (frame_of d s v x) ≡ padded x
  unfolding data_field
  built_field =
      rw (size, after_header, drop_at (header d s v) (padded x ++ check) 14 (length_header d s v hd hs))
      (take_at (padded x) check (length (padded x) + 18 - 18) (omega arith))

  built_check : check_wrong false (frame_of d s v x) ≡ false
  unfolding check_wrong frame_of
  built_check =
      let n : length (covered d s v x) ≡ length (covered d s v x ++ check_sequence (covered d s v x)) - 4 =
      omega (
        arith,
        length-append (covered d s v x) (check_sequence (covered d s v x)),
        length_sequence
            (covered d s v x),
      ) in
      rw (
        take_at (covered d s v x) (check_sequence (covered d s v x)) _ n,
        drop_at (covered d s v x) (check_sequence (covered d s v x)) _ n,
        equal_refl (check_sequence (covered d s v x)),
      )

-- ---- the length and padding rules on a padded field

take_padded : (x : List ℕ) → take (length x) (padded x) ≡ x
unfolding padded
take_padded x = take-append_seam x (replicate (46 - length x) 0)

padded_length : (v : ℕ) (x : List ℕ) → leb v max_length ≡ true → v ≡ length x → unpadded v (padded x) ≡ received x
unfolding unpadded length_wrong client_size
padded_length v x p q =
    let e : length (padded x) ≡ max 46 v = length_padded_max x ∙ ap (max 46) (sym q) in
    rw (p, eq-eqb (length (padded x)) (max 46 v) e, q, take_padded x)

padded_type : (v : ℕ) (x : List ℕ) → leb v max_length ≡ false → ltb v min_type ≡ false
    → unpadded v (padded x) ≡ received (padded x)
unfolding unpadded length_wrong client_size
padded_type v x p q = rw (p, q, take-length (padded x))

unpad_padded : (v : ℕ) (x : List ℕ) → refuses_value v (length x) ≡ false
    → unpadded v (padded x) ≡ received (handed_back v x)
unfolding handed_back
unpad_padded v x h = go (leb v max_length) refl
  where
    go : (t : Bool) → leb v max_length ≡ t → unpadded v (padded x) ≡ received (pick t x (padded x))
    go true p = padded_length v x p (a_length v (length x) h p)
    go false p = padded_type v x p (a_type v (length x) h p)

-- ---- the theorems

-- Opening what the builder makes is receiveOK and gives back destination, source, value and data, under a type the data
-- with their padding; excess bits are dropped.
pub opens_frame : (d s : List ℕ) (v : ℕ) (x : List ℕ) (e : ℕ) → length d ≡ 6 → length s ≡ 6 → v < 65536
    → refuses_data v (length x) ≡ false
    → e ≤ 7 → Opens (frame_of d s v x) e d s v (handed_back v x)
unfolding opened
opens_frame d s v x e hd hs hv h he =
    let m : length (frame_of d s v x) ≤ max_frame v = frame_within d s v x hd hs h in
    let w : 64 ≤ length (frame_of d s v x) = omega (arith, frame_size d s v x hd hs) in
    record {
      opens = rw (
        le-ltb 7 e he,
        le-ltb (length (frame_of d s v x)) 64 w,
        built_value d s v x hd hs hv,
        le-ltb (max_frame v) (length (frame_of d s v x)) m,
        built_check d s v x hd hs,
        built_field d s v x hd hs,
      )
          (unpad_padded v x (value_taken v (length x) h));
      destination = built_destination d s v x hd hs;
      source = built_source d s v x hd hs;
      value = built_value d s v x hd hs hv;
    }

-- where the builder answers a length, the data were accepted and its octets begin with the frame
record Begins (l d s : List ℕ) (v : ℕ) (x : List ℕ) (n : ℕ) (o : Outcome) : Type 0 where
  taken : refuses_data v (length x) ≡ false
  front : take n o.octets ≡ frame_of d s v x

built_begins : (l d s : List ℕ) (v : ℕ) (x : List ℕ) (n : ℕ) → (built l d s v x).answer ≡ accepted (n ∷ [])
    → Begins l d s v x n (built l d s v x)
unfolding built
built_begins l d s v x n = go (refuses_data v (length x)) (ltb (length l) (length (frame_of d s v x))) refl refl
  where
    go : (t u : Bool) → refuses_data v (length x) ≡ t → ltb (length l) (length (frame_of d s v x)) ≡ u
        → (pick t (outcome (refused 11) l)
        (pick u (outcome (refused 15) l)
        (outcome (accepted (length (frame_of d s v x) ∷ [])) (sets l 0 (frame_of d s v x))))).answer ≡ accepted (n ∷ [])
        → Begins l d s v x n (pick t (outcome (refused 11) l)
        (pick u (outcome (refused 15) l)
        (outcome (accepted (length (frame_of d s v x) ∷ [])) (sets l 0 (frame_of d s v x)))))
    go true u p q h = refused_none 11 (n ∷ []) h
    go false true p q h = refused_none 15 (n ∷ []) h
    go false false p q h =
        record {
          taken = p;
          front = take_sets (frame_of d s v x) l n (sym (ap (λ (r : Answer). get_or (values_of r) 0 0) h))
              (ltb-false (length l) (length (frame_of d s v x)) q);
        }

-- a frame that is built is no longer than the value allows that stands in it
pub stored_within : (d s : List ℕ) (v : ℕ) (x : List ℕ) → length d ≡ 6 → length s ≡ 6 → refuses_data v (length x) ≡ false
    → length (frame_of d s v x) ≤ max_frame (value_of (frame_of d s v x))
stored_within d s v x hd hs h =
    let m = frame_within d s v x hd hs h in
    by_eq v tag_value
    (λ e. rw (built_value d s v x hd hs (omega arith)) m)
    (λ ne. omega (arith, m, frame_plain v ne, frame_most (value_of (frame_of d s v x))))

-- The same of the octets that `build` leaves: where it answers n, its first n octets are such a frame.
pub built_opens : (l d s : List ℕ) (v : ℕ) (x : List ℕ) (n e : ℕ) → length d ≡ 6 → length s ≡ 6 → v < 65536
    → (built l d s v x).answer ≡ accepted (n ∷ []) → e ≤ 7
    → Opens (take n (built l d s v x).octets) e d s v (handed_back v x)
built_opens l d s v x n e hd hs hv h he =
    let b = built_begins l d s v x n h in
    subst⁻¹ (λ (f : List ℕ). Opens f e d s v (handed_back v x)) b.front (opens_frame d s v x e hd hs hv b.taken he)
