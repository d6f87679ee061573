-- A law for each way through the code that reads and writes. Assumes nothing.
use Rattle.std.specs.Prelude.{ℕ, ◌+◌, ◌-◌, ◌*◌, ◌%◌, ◌^◌, ◌≤◌, ◌<◌, min, ◌≡◌, refl, Bool, true, false, List, [], ◌∷◌, get_or, set, take, drop}
use Rattle.std.proofs.Common.{sym, ◌∙◌, ap, mod-lt, arith, pow_pos, pow_mono}
use borrow.Author.Tests.{eq-eqb, ne_eqb, le-ltb}
use Rattle.std.proofs.Math.Dec.{eqb}
use Rattle.std.specs.Int.Bits.{bit_and}
use Rattle.std.proofs.lemmas.Nat.{and_mask}
use Rattle.std.proofs.Math.ListN.{length}
use Rattle.std.proofs.lemmas.List.Edits.{sets}
use Rattle.octets.specs.Base.{pick, Answer, refused, accepted, Outcome, outcome}
use Rattle.octets.specs.BaseLaws.{by_test}
use Rattle.octets.specs.Lent.{lent_store}
use Rattle.octets.specs.Bits.{digit}
use Rattle.octets.specs.BitsLaws.{shift_is}
use Rattle.octets.specs.Number.{get}
use Rattle.octets.specs.Store.{length_part}
use Rattle.octets.specs.WordsLaws.{word_at}
use borrow.Rule.Slice.PartMut.{mid_of, put_mid, put_same}
use Rattle.frame_build.specs.Limits.{refuses_data, buffer_octets}
use Rattle.frame_build.specs.Build.{frame_of, built}
use Rattle.frame_build.specs.BuildLaws.{frame_size, data_within}
use Rattle.sheet_layout.specs.declared.Figures.{Figures}
use Rattle.sheet_layout.specs.declared.Tap.{Tap}
use Rattle.sheet_layout.specs.Layout.{places_of}
use Rattle.station_symbols.specs.declared.Heard.{Heard}
use Rattle.station_symbols.specs.declared.Heard.TheVariants.{Nothing, Clean, Spoiled}
use Rattle.station_symbols.specs.declared.Symbol.{Symbol}
use Rattle.station_symbols.specs.declared.Symbol.TheVariants.{Silence, Bit, Jam}
use Rattle.station_symbols.specs.Packet.{hears_any}
use Rattle.area.specs.Area.{figures_at, count_at, position_at, address_at, tap_at}
use Rattle.area.specs.Area.{layout_at, distance, space_at, record_at}
use Rattle.area.specs.Area.{heard_of, heard_code, symbol_at}
use Rattle.area.specs.Area.{arrival_at, with_arrival, alone, joined, with_symbol, with_frame, buffer_at}
use Rattle.area.specs.Area.{frame_built, max_code}
use Rattle.area.specs.Offsets.{area_size, from, the_station, ring, the_line}
use Rattle.area.specs.Offsets.{the_buffer, the_frame}
use Rattle.sheet_layout.specs.Limits.{max_stations}
use Rattle.area_record.specs.Words.{record_words}

-- ---- numbers

module _ (a : List ℕ) where
  pub space_is : (i j d p q : ℕ) → d ≡ distance p q → q ≡ position_at a j → p ≡ position_at a i → d ≡ space_at a i j
  unfolding space_at
  space_is i j d p q e f g = e ∙ rw (f, g)

-- ---- an address, a record, counters

pub word_is : (a : List ℕ) (i k x : ℕ) → x ≡ get 4 a (from (the_station i) + 4 * k) → k < record_words
    → x ≡ get_or (record_at a i) k 0
unfolding record_at
word_is a i k x p h = p ∙ sym (word_at record_words a (from (the_station i)) k h)

pub layout_is : (a : List ℕ) (f : Figures) (n k : ℕ) (ts : List Tap) → ts ≡ places_of (tap_at a) k → k ≡ min n max_stations
    → n ≡ count_at a → f ≡ figures_at a
    → record { figures = f; count = n; stations = ts } ≡ layout_at a
unfolding layout_at
layout_is a f n k ts p q e g =
    λ i. record {
      figures = g i;
      count = e i;
      stations = (p ∙ ap (places_of (tap_at a)) (q ∙ ap (λ (m : ℕ). min m max_stations) e)) i;
    }

-- ---- delay lines

module _ (c : ℕ) where
  pub heard_nothing : c ≡ 0 → Nothing ≡ heard_of c
  unfolding heard_of
  heard_nothing p = rw (eq-eqb c 0 p)

  pub heard_zero : (c ≡ 0 → ⊥) → c ≡ 1 → Clean false ≡ heard_of c
  unfolding heard_of
  heard_zero p q = rw (ne_eqb c 0 p, eq-eqb c 1 q)

  pub heard_one : (c ≡ 0 → ⊥) → (c ≡ 1 → ⊥) → c ≡ 2 → Clean true ≡ heard_of c
  unfolding heard_of
  heard_one p q r = rw (ne_eqb c 0 p, ne_eqb c 1 q, eq-eqb c 2 r)

  pub heard_spoiled : (c ≡ 0 → ⊥) → (c ≡ 1 → ⊥) → (c ≡ 2 → ⊥) → Spoiled ≡ heard_of c
  unfolding heard_of
  heard_spoiled p q r = rw (ne_eqb c 0 p, ne_eqb c 1 q, ne_eqb c 2 r)

-- a symbol that is not silence, joined to what is there, by its code
pub joined_code : (a : List ℕ) (i u : ℕ) (s : Symbol) (c : ℕ) → c ≡ heard_code (alone s) → (c ≡ 0 → ⊥)
    → with_symbol a i u c ≡ with_arrival a i u (joined (arrival_at a i u) s)
unfolding with_symbol with_arrival arrival_at heard_of
joined_code a i u s c e ne = ap (set a (from (the_line i) + u % ring)) (go (symbol_at a i u))
  where
    over : (h : Heard) (y : Symbol) → hears_any h ≡ true → (heard_code (alone y) ≡ 0 → ⊥)
        → max_code ≡ heard_code (joined h y)
    over h Silence p n = absurd (n refl)
    over h (Bit b) p n = rw p
    over h Jam p n = rw p

    more : (h : Heard) → hears_any h ≡ true → max_code ≡ heard_code (joined h s)
    more h p = over h s p (λ z. ne (e ∙ z))

    go : (x : ℕ) → pick (eqb x 0) c max_code ≡ heard_code (joined (heard_of x) s)
    go x =
        by_test (eqb x 0)
        (λ p. rw p e)
        (λ p. by_test (eqb x 1)
        (λ q. rw (p, q) (more (Clean false) refl))
        (λ q. by_test (eqb x 2) (λ r. rw (p, q, r) (more (Clean true) refl)) (λ r. rw (p, q, r) (more Spoiled refl))))

-- ---- a collected bit

pub power_some : (p u : ℕ) → p < 8 → u ≡ 2 ^ p → 0 < u
power_some p u h e = omega (arith, pow_pos p)

pub power_small : (p u : ℕ) → p < 8 → u ≡ 2 ^ p → u ≤ 128
power_small p u h e = let l : 2 ^ p ≤ 2 ^ 7 = pow_mono {j = 7} (omega arith) in omega arith

pub low_is : (x p u : ℕ) → u ≡ 2 ^ p → bit_and x (u - 1) ≡ x % u
low_is x p u e = rw e (and_mask x p)

pub low_small : (x p u : ℕ) → u ≡ 2 ^ p → 0 < u → bit_and x (u - 1) < u
low_small x p u e h = rw (low_is x p u e) (mod-lt x h)

shifted_is : (p : ℕ) (b : Bool) → p < 8 → digit b * 2 ^ p % 2 ^ 32 ≡ digit b * 2 ^ p
shifted_is p true h = shift_is p (omega arith) ∙ omega arith
shifted_is p false h = omega arith

pub raised_is : (p d : ℕ) (b : Bool) → p < 8 → d ≡ digit b → d * 2 ^ p % 2 ^ 32 ≡ digit b * 2 ^ p
raised_is p d b h e = rw e (shifted_is p b h)

pub raised_small : (p d : ℕ) (b : Bool) → p < 8 → d ≡ digit b → d * 2 ^ p % 2 ^ 32 ≤ 128
raised_small p d b h e = rw e (go b)
  where
    go : (c : Bool) → digit c * 2 ^ p % 2 ^ 32 ≤ 128
    go true = power_small p _ h (shift_is p (omega arith))
    go false = omega arith

-- ---- a frame, built into a lent part of the area

-- the area after k octets of it from b on were lent, and came back so
after : ℕ → ℕ → List ℕ → Outcome → Outcome
after b k a o = outcome o.answer (put_mid b k a o.octets)

module _ (a d s : List ℕ) (v : ℕ) (x : List ℕ) (b : ℕ) where
  lent_refused : refuses_data v (length x) ≡ true
      → after b buffer_octets a (built (mid_of b buffer_octets a) d s v x) ≡ outcome (refused 11) a
  unfolding after built
  lent_refused h = rw h (ap (outcome (refused 11)) (put_same b buffer_octets a))

  lent_built : refuses_data v (length x) ≡ false → length d ≡ 6 → length s ≡ 6 → b + buffer_octets ≤ length a
      → after b buffer_octets a (built (mid_of b buffer_octets a) d s v x) ≡ outcome
      (accepted (length (frame_of d s v x) ∷ [])) (sets a b (frame_of d s v x))
  unfolding after built
  lent_built h hd hs g =
      let n : length (frame_of d s v x) ≤ buffer_octets =
      omega (arith, frame_size d s v x hd hs, data_within v (length x) h) in
      rw (
        h,
        le-ltb (length (mid_of b buffer_octets a)) (length (frame_of d s v x))
            (omega (arith, length_part a b buffer_octets g)),
        lent_store (frame_of d s v x) b buffer_octets a n,
      )

lent_frame : (a d s : List ℕ) (v : ℕ) (x : List ℕ) (i : ℕ) → s ≡ address_at a i → length d ≡ 6 → length s ≡ 6
    → i < max_stations → area_size ≤ length a
    → after (from (the_frame i)) buffer_octets a (built (mid_of (from (the_frame i)) buffer_octets a) d s v x)
    ≡ frame_built a i d v x
unfolding frame_built with_frame
lent_frame a d s v x i es hd hs hi hl = go (refuses_data v (length x)) refl
  where
    go : (t : Bool) → refuses_data v (length x) ≡ t
        → after (from (the_frame i)) buffer_octets a (built (mid_of (from (the_frame i)) buffer_octets a) d s v x)
        ≡ pick t (outcome (refused 11) a)
        (outcome (accepted (length (frame_of d (address_at a i) v x) ∷ []))
        (sets a (from (the_frame i)) (frame_of d (address_at a i) v x)))
    go true p = lent_refused a d s v x (from (the_frame i)) p
    go false p =
        lent_built a d s v x (from (the_frame i)) p hd hs (omega arith)
        ∙ ap (λ (q : List ℕ). outcome (accepted (length (frame_of d q v x) ∷ []))
        (sets a (from (the_frame i)) (frame_of d q v x))) es

pub built_is : (a d s : List ℕ) (v : ℕ) (x : List ℕ) (i : ℕ) (r : Answer) (m : List ℕ)
    → outcome r m ≡ built (mid_of (from (the_frame i)) (from (the_frame i) + buffer_octets - (from (the_frame i))) a) d s v x
    → s ≡ address_at a i
    → length d ≡ 6 → length s ≡ 6 → i < max_stations → area_size ≤ length a
    → outcome r (put_mid (from (the_frame i)) (from (the_frame i) + buffer_octets - (from (the_frame i))) a m)
    ≡ frame_built a i d v x
unfolding after
built_is a d s v x i r m p es hd hs hi hl =
    let k : from (the_frame i) + buffer_octets - (from (the_frame i)) ≡ buffer_octets = omega arith in
    let q : outcome r m ≡ built (mid_of (from (the_frame i)) buffer_octets a) d s v x = rw k at p in
    rw k (ap (after (from (the_frame i)) buffer_octets a) q ∙ lent_frame a d s v x i es hd hs hi hl)

-- ---- parts

pub buffer_is : (a : List ℕ) (i : ℕ)
    → take ((from (the_buffer i) + buffer_octets) - (from (the_buffer i))) (drop (from (the_buffer i)) a) ≡ buffer_at a i
unfolding buffer_at
buffer_is a i = let z : (from (the_buffer i) + buffer_octets) - (from (the_buffer i)) ≡ buffer_octets = omega arith in rw z
