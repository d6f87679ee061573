-- The laws of the work area. A reader goes by its part alone; a writer keeps every part that is off its own. Any reader
-- after any writer elsewhere follows from the two; besides, what was written is read back. Assumes nothing.
use Rattle.std.specs.Prelude.{ℕ, ◌+◌, ◌/◌, ◌%◌, ◌^◌, ◌≤◌, ◌<◌, ◌≡◌, refl, Bool, true, false, List, length, drop}
use Rattle.std.proofs.Common.{◌∙◌, arith, get_or-set_other, get_or-take, get_or-drop, ext_get_or}
use Rattle.std.proofs.Math.Path.{ap, ap₂, sym}
use Rattle.std.proofs.Math.Decide.{ℕ_discrete}
use Rattle.std.proofs.Math.ListN.{get_or, set, length-set}
use Rattle.std.proofs.lemmas.List.Edits.{sets}
use Rattle.std.proofs.Math.Seq.{length-sets, get_or-set_same}
use Rattle.octets.specs.BaseLaws.{by_eq}
use Rattle.octets.specs.Number.{get, put}
use Rattle.octets.specs.NumberLaws.{length_put, get_put_same}
use Rattle.octets.specs.Store.{part, part_same, length_part}
use Rattle.octets.specs.Region.{Same, same_refl, same_part, same_trans, set_leaves, sets_leaves, put_leaves}
use Rattle.octets.specs.Region.{words_leave, get_goes_by, words_go_by, part_goes_by}
use Rattle.octets.specs.Words.{put_words}
use Rattle.octets.specs.WordsLaws.{Small, length_put_words, words_same}
use Rattle.station_symbols.specs.declared.Heard.{Heard}
use Rattle.station_symbols.specs.declared.Heard.TheVariants.{Nothing, Clean, Spoiled}
use Rattle.station_state.specs.declared.Station.{Station}
use Rattle.area_record.specs.Codec.{decoded, encoded}
use Rattle.area_record.specs.CodecLaws.{Fit, decoded_encoded, encoded_small, length_encoded}
use Rattle.area.specs.Offsets.{the_line, the_layout, the_draws, from, width, area_size, the_counters, the_station}
use Rattle.area.specs.Offsets.{address_from, draw_from, tap_from}
use Rattle.area.specs.Offsets.{the_frame, the_buffer, ring, frame_room}
use Rattle.area.specs.Places.{Part, piece, clock, depth, layout, draws, counters, station, frame, buffer, place}
use Rattle.area.specs.Places.{Off, Keeps}
use Rattle.area.specs.Area.{clock_at, with_clock, depth_at, draw_at, figures_at, count_at, position_at, address_at}
use Rattle.area.specs.Area.{distance, space_at, counters_at, with_counters, record_at, station_at, with_station}
use Rattle.area.specs.Area.{frame_at, with_frame, buffer_at, octet_with, with_bit, heard_of, heard_code, symbol_at}
use Rattle.area.specs.Area.{arrival_at, with_arrival, max_code}
use Rattle.frame_build.specs.Limits.{buffer_octets, buffer_bits}
use Rattle.sheet_layout.specs.Limits.{max_stations, max_draws}
use Rattle.station_state.specs.State.{counter_count}
use Rattle.area_record.specs.Words.{record_words}

-- ---- parts

pub keeps_refl : (p : Part) (l : List ℕ) → Keeps p l l
unfolding Keeps
keeps_refl (piece p) l = same_refl (from p) (width p) l
keeps_refl (place i u) l = refl

pub keeps_trans : (p : Part) (l m o : List ℕ) → Keeps p l m → Keeps p m o → Keeps p l o
unfolding Keeps
keeps_trans (piece p) l m o s t = same_trans (from p) (width p) l m o s t
keeps_trans (place i u) l m o s t = s ∙ t

pub keeps_sym : (p : Part) (l m : List ℕ) → Keeps p l m → Keeps p m l
unfolding Keeps Same
keeps_sym (piece p) l m s = λ k lo up. sym (s k lo up)
keeps_sym (place i u) l m s = sym s

-- ---- readers

module _ (l m : List ℕ) where
  pub clock_by : Keeps clock l m → clock_at l ≡ clock_at m
  unfolding clock_at Keeps
  clock_by k = get_goes_by 4 0 l m k

  pub depth_by : Keeps depth l m → depth_at l ≡ depth_at m
  unfolding depth_at Keeps
  depth_by k = get_goes_by 4 4 l m k

  pub draw_by : (i k : ℕ) → i < max_stations → k < max_draws → Keeps draws l m → draw_at l i k ≡ draw_at m i k
  unfolding draw_at Keeps
  draw_by i k h g s =
      get_goes_by 2 (draw_from i k) l m
      (same_part (from the_draws) (width the_draws) (draw_from i k) 2 l m (omega arith) (omega arith) s)

  word_by : (b : ℕ) → Keeps layout l m → from the_layout ≤ b → b + 4 ≤ from the_draws → get 4 l b ≡ get 4 m b
  unfolding Keeps
  word_by b k p q = get_goes_by 4 b l m (same_part 8 312 b 4 l m p (omega arith) k)

  pub figures_by : Keeps layout l m → figures_at l ≡ figures_at m
  unfolding figures_at
  figures_by k =
      λ i. record {
        slot = word_by 8 k (omega arith) (omega arith) i;
        gap1 = word_by 12 k (omega arith) (omega arith) i;
        gap2 = word_by 16 k (omega arith) (omega arith) i;
        jam = word_by 20 k (omega arith) (omega arith) i;
        limit = word_by 24 k (omega arith) (omega arith) i;
        backoff = word_by 28 k (omega arith) (omega arith) i;
        ends = word_by 36 k (omega arith) (omega arith) i;
      }

  pub count_by : Keeps layout l m → count_at l ≡ count_at m
  unfolding count_at
  count_by k = word_by 32 k (omega arith) (omega arith)

  pub position_by : (i : ℕ) → i < max_stations → Keeps layout l m → position_at l i ≡ position_at m i
  unfolding position_at
  position_by i h k = word_by (tap_from i) k (omega arith) (omega arith)

  pub space_by : (i j : ℕ) → i < max_stations → j < max_stations → Keeps layout l m → space_at l i j ≡ space_at m i j
  unfolding space_at
  space_by i j hi hj k = ap₂ distance (position_by i hi k) (position_by j hj k)

  pub address_by : (i : ℕ) → i < max_stations → area_size ≤ length l → area_size ≤ length m → Keeps layout l m
      → address_at l i ≡ address_at m i
  unfolding address_at Keeps
  address_by i h p q k =
      part_goes_by 6 (address_from i) l m (omega arith) (omega arith)
      (same_part (from the_layout) (width the_layout) (address_from i) 6 l m (omega arith) (omega arith) k)

  pub counters_by : (i : ℕ) → Keeps (counters i) l m → counters_at l i ≡ counters_at m i
  unfolding counters_at Keeps
  counters_by i k = words_go_by counter_count (from (the_counters i)) l m k

  pub record_by : (i : ℕ) → Keeps (station i) l m → record_at l i ≡ record_at m i
  unfolding record_at Keeps
  record_by i s =
      words_go_by record_words (from (the_station i)) l m
      (same_part (from (the_station i)) 64 (from (the_station i)) 56 l m (omega arith) (omega arith) s)

  pub station_by : (i : ℕ) → i < max_stations → area_size ≤ length l → area_size ≤ length m → Keeps layout l m
      → Keeps (station i) l m → station_at l i ≡ station_at m i
  unfolding station_at
  station_by i h p q k s = ap₂ decoded (record_by i s) (address_by i h p q k)

  pub symbol_by : (i u : ℕ) → Keeps (place i u) l m → symbol_at l i u ≡ symbol_at m i u
  unfolding Keeps
  symbol_by i u k = k

  pub place_keeps : (i u : ℕ) → symbol_at l i u ≡ symbol_at m i u → Keeps (place i u) l m
  unfolding Keeps
  place_keeps i u e = e

  pub arrival_by : (i u : ℕ) → Keeps (place i u) l m → arrival_at l i u ≡ arrival_at m i u
  unfolding arrival_at
  arrival_by i u k = ap heard_of (symbol_by i u k)

  pub frame_by : (i n : ℕ) → i < max_stations → n ≤ frame_room → area_size ≤ length l → area_size ≤ length m
      → Keeps (frame i) l m → frame_at l i n ≡ frame_at m i n
  unfolding frame_at Keeps
  frame_by i n h g p q k =
      part_goes_by n (from (the_frame i)) l m (omega arith) (omega arith)
      (same_part (from (the_frame i)) frame_room (from (the_frame i)) n l m (omega arith) (omega arith) k)

  pub buffer_by : (i : ℕ) → i < max_stations → area_size ≤ length l → area_size ≤ length m → Keeps (buffer i) l m
      → buffer_at l i ≡ buffer_at m i
  unfolding buffer_at Keeps
  buffer_by i h p q k =
      part_goes_by buffer_octets (from (the_buffer i)) l m (omega arith) (omega arith)
      (same_part (from (the_buffer i)) frame_room (from (the_buffer i)) buffer_octets l m (omega arith) (omega arith) k)

-- ---- writers

-- an octet of the line of station i keeps its value where all of them do
at_place : (i u : ℕ) (l m : List ℕ) → Same (from (the_line i)) 256 l m → symbol_at l i u ≡ symbol_at m i u
unfolding symbol_at Same
at_place i u l m s = s (from (the_line i) + u % ring) (omega arith) (omega arith)

pub clock_keeps : (p : Part) (a : List ℕ) (t : ℕ) → Off p clock → Keeps p (with_clock a t) a
unfolding with_clock Keeps
clock_keeps (piece p) a t o = put_leaves (from p) (width p) 4 0 t a o
clock_keeps (place i u) a t o = at_place i u (put 4 a 0 t) a (put_leaves (from (the_line i)) 256 4 0 t a o)

pub counters_keeps : (p : Part) (a : List ℕ) (i : ℕ) (cs : List ℕ) → Off p (counters i)
    → Keeps p (with_counters a i cs) a
unfolding with_counters Keeps
counters_keeps (piece p) a i cs o = words_leave (from p) (width p) counter_count (from (the_counters i)) a cs o
counters_keeps (place j u) a i cs o =
    at_place j u (put_words counter_count a (from (the_counters i)) cs) a
    (words_leave (from (the_line j)) 256 counter_count (from (the_counters i)) a cs o)

pub station_keeps : (p : Part) (a : List ℕ) (i : ℕ) (s : Station) → Off p (station i) → Keeps p (with_station a i s) a
unfolding with_station Keeps
station_keeps (piece p) a i s o =
    words_leave (from p) (width p) record_words (from (the_station i)) a (encoded s)
    (λ x y. o (omega arith) (omega arith))
station_keeps (place j u) a i s o =
    at_place j u (put_words record_words a (from (the_station i)) (encoded s)) a
    (words_leave (from (the_line j)) 256 record_words (from (the_station i)) a (encoded s)
    (λ x y. o (omega arith) (omega arith)))

pub arrival_keeps : (p : Part) (a : List ℕ) (i u : ℕ) (h : Heard) → Off p (place i u) → Keeps p (with_arrival a i u h) a
unfolding with_arrival Keeps symbol_at
arrival_keeps (piece p) a i u h o =
    set_leaves (from p) (width p) (from (the_line i) + u % ring) (heard_code h) a (λ x y. o (omega arith) (omega arith))
arrival_keeps (place j v) a i u h o =
    get_or-set_other a (from (the_line i) + u % ring) (from (the_line j) + v % ring) (heard_code h) 0
    (λ e. o (omega arith) (omega arith))

pub frame_keeps : (p : Part) (a : List ℕ) (i : ℕ) (f : List ℕ) → length f ≤ frame_room → Off p (frame i)
    → Keeps p (with_frame a i f) a
unfolding with_frame Keeps
frame_keeps (piece p) a i f h o = sets_leaves (from p) (width p) (from (the_frame i)) f a (λ x y. o (omega arith) y)
frame_keeps (place j u) a i f h o =
    at_place j u (sets a (from (the_frame i)) f) a
    (sets_leaves (from (the_line j)) 256 (from (the_frame i)) f a (λ x y. o (omega arith) y))

pub bit_keeps : (p : Part) (a : List ℕ) (i k : ℕ) (b : Bool) → k < buffer_bits → Off p (buffer i)
    → Keeps p (with_bit a i k b) a
unfolding with_bit Keeps
bit_keeps (piece p) a i k b h o =
    set_leaves (from p) (width p) (from (the_buffer i) + k / 8)
    (octet_with (get_or a (from (the_buffer i) + k / 8) 0) (k % 8) b) a
    (λ x y. o (omega arith) (omega arith))
bit_keeps (place j u) a i k b h o =
    at_place j u (with_bit a i k b) a
    (set_leaves (from (the_line j)) 256 (from (the_buffer i) + k / 8)
    (octet_with (get_or a (from (the_buffer i) + k / 8) 0) (k % 8) b) a (λ x y. o (omega arith) (omega arith)))

module _ (a : List ℕ) where
  pub length_clock : (t : ℕ) → length (with_clock a t) ≡ length a
  unfolding with_clock
  length_clock t = length_put 4 a 0 t

  pub length_counters : (i : ℕ) (cs : List ℕ) → length (with_counters a i cs) ≡ length a
  unfolding with_counters
  length_counters i cs = length_put_words counter_count a (from (the_counters i)) cs

  pub length_station : (i : ℕ) (s : Station) → length (with_station a i s) ≡ length a
  unfolding with_station
  length_station i s = length_put_words record_words a (from (the_station i)) (encoded s)

  pub length_arrival : (i u : ℕ) (h : Heard) → length (with_arrival a i u h) ≡ length a
  unfolding with_arrival
  length_arrival i u h = length-set a (from (the_line i) + u % ring) (heard_code h)

  pub length_frame : (i : ℕ) (f : List ℕ) → length (with_frame a i f) ≡ length a
  unfolding with_frame
  length_frame i f = length-sets a (from (the_frame i)) f

  pub length_bit : (i k : ℕ) (b : Bool) → length (with_bit a i k b) ≡ length a
  unfolding with_bit
  length_bit i k b =
      length-set a (from (the_buffer i) + k / 8) (octet_with (get_or a (from (the_buffer i) + k / 8) 0) (k % 8) b)

-- ---- what was written is read back

pub heard_back : (h : Heard) → heard_of (heard_code h) ≡ h
unfolding heard_of
heard_back Nothing = refl
heard_back (Clean true) = refl
heard_back (Clean false) = refl
heard_back Spoiled = refl

pub code_small : (h : Heard) → heard_code h ≤ max_code
code_small Nothing = omega arith
code_small (Clean true) = omega arith
code_small (Clean false) = omega arith
code_small Spoiled = omega arith

-- an octet of a part is set
part_at : (l : List ℕ) (b n i : ℕ) → i < n → get_or (part l b n) i 0 ≡ get_or l (b + i) 0
part_at l b n i h = get_or-take n (drop b l) i 0 h ∙ get_or-drop b l i 0

part_set : (l : List ℕ) (b n m v : ℕ) → b + n ≤ length l → m < n → part (set l (b + m) v) b n ≡ set (part l b n) m v
part_set l b n m v h g =
    let e : length (part (set l (b + m) v) b n) ≡ n = length_part (set l (b + m) v) b n
    (omega (arith, length-set l (b + m) v)) in
    let f : length (part l b n) ≡ n = length_part l b n h in
    ext_get_or 0 (part (set l (b + m) v) b n) (set (part l b n) m v) (e ∙ sym (length-set (part l b n) m v ∙ f))
    (λ i p. let q : i < n = omega arith in
    part_at (set l (b + m) v) b n i q
    ∙ by_eq i m
    (λ z. rw z (get_or-set_same l (b + m) v 0 (omega arith) ∙ sym (get_or-set_same (part l b n) m v 0 (omega arith))))
    (λ z. get_or-set_other l (b + m) (b + i) v 0 (λ y. z (omega arith))
    ∙ sym (get_or-set_other (part l b n) m i v 0 z ∙ part_at l b n i q)))

module _ (a : List ℕ) (big : area_size ≤ length a) where
  -- a collected bit, in the octets that are kept
  pub bit_same : (i k : ℕ) (b : Bool) → i < max_stations → k < buffer_bits
      → buffer_at (with_bit a i k b) i ≡ set (buffer_at a i) (k / 8) (octet_with (get_or (buffer_at a i) (k / 8) 0) (k % 8) b)
  unfolding buffer_at with_bit
  bit_same i k b hi hk =
      part_set a (from (the_buffer i)) buffer_octets (k / 8) _ (omega arith) (omega arith)
      ∙ ap (λ (x : ℕ). set (part a (from (the_buffer i)) buffer_octets) (k / 8) (octet_with x (k % 8) b))
      (sym (part_at a (from (the_buffer i)) buffer_octets (k / 8) (omega arith)))

  pub clock_same : (t : ℕ) → t < 256 ^ 4 → clock_at (with_clock a t) ≡ t
  unfolding clock_at with_clock
  clock_same t b = get_put_same 4 a 0 t (omega arith) b

  pub counters_same : (i : ℕ) (cs : List ℕ) → i < max_stations → length cs ≡ counter_count → Small cs
      → counters_at (with_counters a i cs) i ≡ cs
  unfolding counters_at with_counters
  counters_same i cs h n s = words_same counter_count a (from (the_counters i)) cs n (omega arith) s

  pub record_same : (i : ℕ) (s : Station) → i < max_stations → Fit s → record_at (with_station a i s) i ≡ encoded s
  unfolding with_station record_at
  record_same i s h f =
      words_same record_words a (from (the_station i)) (encoded s) (length_encoded s) (omega arith) (encoded_small s f)

  -- the address stands with the layout, which the record does not touch
  pub station_same : (i : ℕ) (s : Station) → i < max_stations → Fit s → s.address ≡ address_at a i
      → station_at (with_station a i s) i ≡ s
  unfolding station_at
  station_same i s h f e =
      let k : Keeps layout (with_station a i s) a = station_keeps layout a i s (λ x y. omega arith) in
      ap₂ decoded (record_same i s h f)
      (address_by (with_station a i s) a i h (omega (arith, length_station a i s)) big k ∙ sym e) ∙ decoded_encoded s

  -- the code of what was put, at its place, and what was there anywhere else
  pub symbol_same : (i u j v : ℕ) (h : Heard) (m : ℕ) → i < max_stations → j < max_stations → heard_code h ≤ m
      → symbol_at a j v ≤ m → symbol_at (with_arrival a i u h) j v ≤ m
  unfolding symbol_at with_arrival
  symbol_same i u j v h m hi hj p q = go (ℕ_discrete (from (the_line j) + v % ring) (from (the_line i) + u % ring))
    where
      go : Dec (from (the_line j) + v % ring ≡ from (the_line i) + u % ring)
          → get_or (set a (from (the_line i) + u % ring) (heard_code h)) (from (the_line j) + v % ring) 0 ≤ m
      go (yes e) = rw (e, get_or-set_same a (from (the_line i) + u % ring) (heard_code h) 0 (omega arith)) p
      go (no e) = rw (get_or-set_other a (from (the_line i) + u % ring) (from (the_line j) + v % ring) (heard_code h) 0 e) q

  pub frame_same : (i : ℕ) (f : List ℕ) → i < max_stations → length f ≤ frame_room
      → frame_at (with_frame a i f) i (length f) ≡ f
  unfolding frame_at with_frame
  frame_same i f h n = part_same f a (from (the_frame i)) (omega arith)

  -- places are counted modulo 256
  pub arrival_same : (i u v : ℕ) (h : Heard) → i < max_stations → u % ring ≡ v % ring
      → arrival_at (with_arrival a i u h) i v ≡ h
  unfolding arrival_at symbol_at with_arrival
  arrival_same i u v h k e =
      rw e (ap heard_of (get_or-set_same a (from (the_line i) + v % ring) (heard_code h) 0 (omega arith)) ∙ heard_back h)

-- a line of zeros
pub symbol_zero : (a : List ℕ) (i u : ℕ)
    → ((k : ℕ) → from (the_line i) ≤ k → k < from (the_line i) + width (the_line i) → get_or a k 0 ≡ 0) → symbol_at a i u ≡ 0
unfolding symbol_at
symbol_zero a i u h = h (from (the_line i) + u % ring) (omega arith) (omega arith)

pub symbol_turn : (a : List ℕ) (i u v : ℕ) → u % ring ≡ v % ring → symbol_at a i u ≡ symbol_at a i v
unfolding symbol_at
symbol_turn a i u v e = rw e

pub arrival_turn : (a : List ℕ) (i u v : ℕ) → u % ring ≡ v % ring → arrival_at a i u ≡ arrival_at a i v
unfolding arrival_at symbol_at
arrival_turn a i u v e = rw e
