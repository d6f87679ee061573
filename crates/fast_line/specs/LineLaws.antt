-- Laws of a line over many places: what a kind that lasts says of each place, and one law for each way through the
-- code. Assumes nothing.
use Prim.Native.Nat.{ℕ, zero, suc, ◌+◌, ◌-◌, ◌*◌, ◌/◌, ◌%◌, ◌^◌, ◌≤◌, ◌<◌, min}
use Rattle.std.specs.Prelude.{◌≡◌, Bool, ◌||◌, eqb, leb, ltb, length, get_or}
use Rattle.std.proofs.Math.Path.{refl, sym, ap, ap₂, subst}
use Rattle.std.proofs.Common.{◌∙◌, true≢false, mod-lt, add-one, get_or-set_same, get_or-set_other, replicate, take, drop, get_or-take, get_or-drop}
use Rattle.std.proofs.Math.Bool.{true, false, not}
use mathlib.Core.List.{List}
use native.Mathlib.Omega.{arith}
use borrow.Author.Tests.{eq-eqb, ne_eqb, eqb-true, eqb-false, not-true, not-false, leb-true, leb-false, ltb-true}
use borrow.Author.Tests.{ltb-false}
use Rattle.std.specs.Int.Bits.{bit_or, bit_xor, or_add_and, xor_add_and}
use Rattle.std.proofs.lemmas.Nat.{and_le_l, and_le_r}
use Rattle.std.proofs.Math.ListN.{set}
use Rattle.std.proofs.lemmas.List.{set-get_or, length-replicate, get_or-replicate}
use Rattle.std.proofs.lemmas.List.Edits.{paste_none, fill_from_more, sets}
use Rattle.std.proofs.lemmas.Slice.{put_mid-paste}
use borrow.Rule.Slice.PartMut.{put_mid}
use lib.Seq.{paste}
use Rattle.octets.specs.Base.{pick, some}
use Rattle.octets.specs.BaseLaws.{by_test, by_eq, neither, none_below, some_hit}
use Rattle.octets.specs.Store.{length_part, octet_same, octet_other}
use Rattle.octets.specs.Lent.{put_all}
use Rattle.octets.specs.Turns.{turns, turns_none, turns_more, turns_end}
use Rattle.station_symbols.specs.declared.Heard.{Heard}
use Rattle.station_symbols.specs.declared.Heard.TheVariants.{Nothing, Clean, Spoiled}
use Rattle.station_symbols.specs.declared.Symbol.{Symbol}
use Rattle.station_symbols.specs.declared.Symbol.TheVariants.{Silence, Bit}
use Rattle.station_symbols.specs.Packet.{hears_any, packet_bit}
use Rattle.station_symbols.specs.PacketLaws.{frame_bit_lem, bit_alternates, bit_delimits, bit_of_frame}
use Rattle.area.specs.Area.{frame_at, heard_of, heard_code, symbol_at, arrival_at, with_arrival, alone, with_symbol, max_code}
use Rattle.area.specs.AreaLaws.{arrival_turn}
use Rattle.area.specs.CodeLaws.{heard_nothing, heard_zero, heard_one, heard_spoiled as code-spoiled, joined_code}
use Rattle.bus_meeting.specs.Gather.{joined_none}
use Rattle.fast_plan.specs.Push.{cleared, joined_at, on_way}
use Rattle.fast_line.specs.declared.LineKind.{LineKind}
use Rattle.fast_line.specs.declared.LineKind.TheVariants.{Empty, Bits, Noise}
use Rattle.fast_line.specs.Line.{kind_of, line_kind, kind_number, kind_at, first_of, other_kind, lasts, run_at, AllOf, in_use, is_clear}
use Rattle.fast_line.specs.Line.{bits_from, jams, Coded, Below, codes_put}
use Rattle.area.specs.Offsets.{area_size, ring, from, the_line, the_frame, frame_room}
use Rattle.sheet_layout.specs.Limits.{max_stations}

-- ---- the first that passes a test

module _ (t : ℕ → Bool) where
  pub first_hit : (m s : ℕ) → s < m → some t s ≡ false → t s ≡ true → s ≡ first_of t m
  unfolding first_of
  first_hit zero s h n e = absurd (omega arith)
  first_hit (suc m) s h n e =
      by_eq s m
      (λ z. let p : some t m ≡ false = rw z at n in let q : t m ≡ true = rw z at e in rw (p, q) z)
      (λ z. let p : some t m ≡ true = sym (some_hit t m s (t s) refl e (omega arith)) in rw p
      (first_hit m s (omega arith) n e))

  first_none : (m : ℕ) → some t m ≡ false → m ≡ first_of t m
  unfolding first_of some
  first_none zero n = refl
  first_none (suc m) n = let p = neither (some t m) (t m) n in rw (p.0, p.1)

  pub first_end : (m s : ℕ) → s ≤ m → m ≤ s → some t s ≡ false → s ≡ first_of t m
  first_end m s p q n = let e : s ≡ m = omega arith in e ∙ first_none m (rw e at n)

  pub first_before : (m k : ℕ) → k < first_of t m → t k ≡ false
  unfolding first_of some
  first_before zero k h = absurd (omega arith)
  first_before (suc m) k h =
      by_test (some t m)
      (λ p. first_before m k (rw p at h))
      (λ p. by_test (t m)
      (λ q. none_below t m k p (rw (p, q) at h))
      (λ q. none_below t (suc m) k (rw (p, q)) (rw (p, q) at h)))

  pub first_most : (m : ℕ) → first_of t m ≤ m
  unfolding first_of
  first_most zero = omega arith
  first_most (suc m) =
      by_test (some t m) (λ p. rw p (omega (arith, first_most m)))
      (λ p. by_test (t m) (λ q. rw (p, q) (omega arith)) (λ q. rw (p, q) (omega arith)))

  first_there : (m : ℕ) → some t m ≡ true → t (first_of t m) ≡ true
  unfolding first_of some
  first_there zero h = absurd (true≢false (sym h))
  first_there (suc m) h =
      by_test (some t m) (λ p. rw p (first_there m p)) (λ p. let q : t m ≡ true = rw p at h in rw (p, q) q)

  pub first_at : (m : ℕ) → first_of t m < m → t (first_of t m) ≡ true
  first_at m h = by_test (some t m) (λ p. first_there m p) (λ p. absurd (omega (arith, first_none m p)))

-- ---- kinds

module _ (c : ℕ) where
  pub kind_none : c ≡ 0 → 0 ≡ kind_of (heard_of c)
  kind_none p = ap kind_of (heard_nothing c p)

  pub kind_clean : (c ≡ 0 → ⊥) → c ≤ 2 → 1 ≡ kind_of (heard_of c)
  kind_clean p q =
      by_eq c 1 (λ e. ap kind_of (heard_zero c p e)) (λ e. ap kind_of (heard_one c p e (omega (arith, p, e))))

  pub kind_spoiled : 2 < c → 2 ≡ kind_of (heard_of c)
  kind_spoiled q =
      let a : (c ≡ 0 → ⊥) = λ e. omega arith in
      let b : (c ≡ 1 → ⊥) = λ e. omega arith in
      let d : (c ≡ 2 → ⊥) = λ e. omega arith in
      ap kind_of (code-spoiled c a b d)

pub kind_numbered : (h : Heard) → kind_number (line_kind h) ≡ kind_of h
kind_numbered Nothing = refl
kind_numbered (Clean b) = refl
kind_numbered Spoiled = refl

number_low : (k : LineKind) → kind_number k ≤ 2
number_low Empty = omega arith
number_low Bits = omega arith
number_low Noise = omega arith

abbrev kind_named : ℕ → LineKind
kind_named v = pick (eqb v 0) Empty (pick (eqb v 1) Bits Noise)

named_back : (k : LineKind) → kind_named (kind_number k) ≡ k
named_back Empty = refl
named_back Bits = refl
named_back Noise = refl

number_same : (x y : LineKind) → kind_number x ≡ kind_number y → x ≡ y
number_same x y e = sym (named_back x) ∙ ap kind_named e ∙ named_back y

pub kind_nothing : (h : Heard) → kind_of h ≡ 0 → h ≡ Nothing
kind_nothing Nothing e = refl
kind_nothing (Clean b) e = absurd (omega (arith, e))
kind_nothing Spoiled e = absurd (omega (arith, e))

pub by_clean : {C : Type 0} (h : Heard) → kind_of h ≡ 1 → ((b : Bool) → h ≡ Clean b → C) → C
by_clean Nothing e f = absurd (omega (arith, e))
by_clean (Clean b) e f = f b refl
by_clean Spoiled e f = absurd (omega (arith, e))

pub heard_spoiled : (h : Heard) → kind_of h ≡ 2 → h ≡ Spoiled
heard_spoiled Nothing e = absurd (omega (arith, e))
heard_spoiled (Clean b) e = absurd (omega (arith, e))
heard_spoiled Spoiled e = refl

-- ---- how long a kind lasts

module _ (a : List ℕ) (j u : ℕ) where
  -- each of these places is of that kind; and the next one is not
  pub lasts_each : (k m s : ℕ) → s < lasts a j u k m → kind_at a j (u + s) ≡ k
  unfolding lasts other_kind
  lasts_each k m s h = eqb-true (kind_at a j (u + s)) k (not-false _ (first_before (other_kind a j u k) m s h))

  pub lasts_other : (k m : ℕ) → lasts a j u k m < m → kind_at a j (u + lasts a j u k m) ≡ k → ⊥
  unfolding lasts other_kind
  lasts_other k m h = eqb-false (kind_at a j (u + lasts a j u k m)) k (not-true _ (first_at (other_kind a j u k) m h))

  read_kind : (x : LineKind) (c s : ℕ) → x ≡ line_kind (heard_of c) → c ≡ symbol_at a j (u + s)
      → kind_at a j (u + s) ≡ kind_number x
  unfolding kind_at arrival_at
  read_kind x c s ex ec =
      sym (ap kind_number ex ∙ kind_numbered (heard_of c) ∙ ap (λ (y : ℕ). kind_of (heard_of y)) ec)

  pub lasts_more : (k x : LineKind) (s c : ℕ) → x ≡ line_kind (heard_of c) → c ≡ symbol_at a j (u + s) → x ≡ k
      → some (other_kind a j u (kind_number k)) s ≡ false → some (other_kind a j u (kind_number k)) (s + 1) ≡ false
  unfolding some other_kind
  lasts_more k x s c ex ec ek n =
      rw (add-one s, n, eq-eqb (kind_at a j (u + s)) (kind_number k) (read_kind x c s ex ec ∙ ap kind_number ek))

  pub lasts_hit : (k x : LineKind) (m s c : ℕ) → x ≡ line_kind (heard_of c) → c ≡ symbol_at a j (u + s) → (x ≡ k → ⊥)
      → s < m → some (other_kind a j u (kind_number k)) s ≡ false → s ≡ lasts a j u (kind_number k) m
  unfolding lasts other_kind
  lasts_hit k x m s c ex ec ne h n =
      first_hit (other_kind a j u (kind_number k)) m s h n
      (ap not (ne_eqb (kind_at a j (u + s)) (kind_number k)
      (λ z. ne (number_same x k (sym (read_kind x c s ex ec) ∙ z)))))

  pub lasts_end : (k m s : ℕ) → s ≤ m → m ≤ s → some (other_kind a j u k) s ≡ false → m ≡ lasts a j u k m
  unfolding lasts
  lasts_end k m s p q n = let e : m ≡ s = omega arith in e ∙ first_end (other_kind a j u k) m s p q n

  here : (x : LineKind) (c : ℕ) → x ≡ line_kind (heard_of c) → c ≡ symbol_at a j u → x ≡ line_kind (arrival_at a j u)
  unfolding arrival_at
  here x c ex ec = ex ∙ ap (λ (y : ℕ). line_kind (heard_of y)) ec

  here_number : (x : LineKind) (c : ℕ) → x ≡ line_kind (heard_of c) → c ≡ symbol_at a j u → kind_number x ≡ kind_at a j u
  unfolding kind_at
  here_number x c ex ec = ap kind_number (here x c ex ec) ∙ kind_numbered (arrival_at a j u)

  pub run_is : (m c l : ℕ) (x : LineKind) → l ≡ lasts a j u (kind_number x) m → x ≡ line_kind (heard_of c)
      → c ≡ symbol_at a j u → record { kind = x; len = l } ≡ run_at a j u m
  unfolding run_at
  run_is m c l x el ex ec =
      λ i. record {
        kind = here x c ex ec i;
        len = (el ∙ ap (λ (k : ℕ). lasts a j u k m) (here_number x c ex ec)) i;
      }

  pub run_some : (m c l : ℕ) (x : LineKind) → l ≡ lasts a j u (kind_number x) m → x ≡ line_kind (heard_of c)
      → c ≡ symbol_at a j u → 0 < m → 0 < l
  run_some m c l x el ex ec h =
      by_eq l 0
      (λ z. let o : lasts a j u (kind_number x) m ≡ 0 = sym el ∙ z in
      let w : u + lasts a j u (kind_number x) m ≡ u = omega arith in
      absurd (lasts_other (kind_number x) m (omega arith) (ap (kind_at a j) w ∙ sym (here_number x c ex ec))))
      (λ z. omega (arith, z))

-- ---- sixteen places at once

-- half of a code, rounded up, is its kind
kind_half : (c k : ℕ) → k ≤ 2 → c / 2 + c % 2 ≡ k → kind_of (heard_of c) ≡ k
kind_half c k h e =
    by_eq c 0
    (λ p. sym (kind_none c p) ∙ (omega arith))
    (λ p. by_test (leb c 2)
    (λ q. let l = leb-true c 2 q in sym (kind_clean c p l) ∙ (omega (arith, p)))
    (λ q. let l = leb-false c 2 q in sym (kind_spoiled c (omega arith)) ∙ (omega arith)))

xor_same : (x y : ℕ) → bit_xor x y ≡ 0 → x ≡ y
xor_same x y e =
    let s = xor_add_and x y in
    let l = and_le_l x y in
    let r = and_le_r x y in
    omega arith

or_none : (x y : ℕ) → bit_or x y ≡ 0 → (x ≡ 0) × (y ≡ 0)
or_none x y e =
    let s = or_add_and x y in
    let l = and_le_l x y in
    let r = and_le_r x y in
    (omega arith, omega arith)

pub code_is : (a : List ℕ) (j p c : ℕ) → p < ring → c ≡ get_or a (from (the_line j) + p) 0 → c ≡ symbol_at a j p
unfolding symbol_at
code_is a j p c h e = let z : p % ring ≡ p = omega arith in e ∙ ap (λ (k : ℕ). get_or a (from (the_line j) + k) 0) (sym z)

-- where all that differs is nothing, n places are of kind k
abbrev pub Differ : List ℕ → (j p k n other : ℕ) → Type 0
Differ a j p k n other = other ≡ 0 → AllOf a j p k n

module _ (a : List ℕ) (j p k : ℕ) where
  pub differ_none : Differ a j p k 0 0
  unfolding AllOf
  differ_none e = λ i h. absurd (omega arith)

  differ_more_lem : (n other c next : ℕ) → k ≤ 2 → c ≡ symbol_at a j (p + n)
      → next ≡ bit_or other (bit_xor (c / 2 + c % 2) k) → Differ a j p k n other → Differ a j p k (n + 1) next
  unfolding AllOf kind_at arrival_at
  differ_more_lem n other c next h ec en d e =
      let q = or_none other (bit_xor (c / 2 + c % 2) k) (sym en ∙ e) in
      let w = kind_half c k h (xor_same (c / 2 + c % 2) k q.1) in
      λ i l. by_eq i n
      (λ z. ap (λ (y : ℕ). kind_of (heard_of (symbol_at a j (p + y)))) z ∙ ap (λ (y : ℕ). kind_of (heard_of y)) (sym ec) ∙ w)
      (λ z. d q.0 i (omega (arith, z)))

  pub differ_end : (m n other : ℕ) → n ≤ m → m ≤ n → Differ a j p k n other → eqb other 0 ≡ true → AllOf a j p k m
  differ_end m n other lo up d e = let z : n ≡ m = omega arith in subst (AllOf a j p k) z (d (eqb-true other 0 e))

-- the same of a kind by its number
pub differ_more : (a : List ℕ) (j p : ℕ) (k : LineKind) (n other c v next : ℕ) → v ≡ kind_number k
    → c ≡ symbol_at a j (p + n) → next ≡ bit_or other (bit_xor (c / 2 + c % 2) v)
    → Differ a j p (kind_number k) n other → Differ a j p (kind_number k) (n + 1) next
differ_more a j p k n other c v next ev ec en d =
    differ_more_lem a j p (kind_number k) n other c next (number_low k) ec
    (en ∙ ap (λ (w : ℕ). bit_or other (bit_xor (c / 2 + c % 2) w)) ev) d

-- ---- places in a row

module _ (a : List ℕ) (j p k : ℕ) where
  pub alike_none : AllOf a j p k 0
  unfolding AllOf
  alike_none = λ i h. absurd (omega arith)

  pub alike_more : (s n : ℕ) (b : Bool) → AllOf a j p k s → (b ≡ true → AllOf a j (p + s) k n) → not b ≡ false
      → AllOf a j p k (s + n)
  unfolding AllOf
  alike_more s n b h f e =
      let t : b ≡ true = not-false b e in
      λ i l. by_test (ltb i s)
      (λ q. h i (ltb-true i s q))
      (λ q. let g = ltb-false i s q in
      let z : p + s + (i - s) ≡ p + i = omega arith in
      subst (λ (u : ℕ). kind_at a j u ≡ k) z (f t (i - s) (omega arith)))

  alike_some : (s : ℕ) → AllOf a j p k s → some (other_kind a j p k) s ≡ false
  unfolding some other_kind AllOf
  alike_some zero h = refl
  alike_some (suc s) h = rw (alike_some s (λ i l. h i (omega arith)), eq-eqb (kind_at a j (p + s)) k (h s (omega arith)))

  pub row_first : (s : ℕ) → AllOf a j p k s → some (other_kind a j p k) s ≡ false
  row_first s h = alike_some s h

  -- how many there are, by those that are and the next that is not
  lasts_is : (m s : ℕ) → s ≤ m → AllOf a j p k s → (s < m → kind_at a j (p + s) ≡ k → ⊥) → s ≡ lasts a j p k m
  unfolding lasts other_kind
  lasts_is m s le al ne =
      by_test (ltb s m)
      (λ c. let h = ltb-true s m c in first_hit (other_kind a j p k) m s h (alike_some s al)
      (ap not (ne_eqb (kind_at a j (p + s)) k (ne h))))
      (λ c. let h = ltb-false s m c in first_end (other_kind a j p k) m s le (omega arith) (alike_some s al))

  each_is : (m s : ℕ) → s ≡ lasts a j p k m → AllOf a j p k s
  unfolding AllOf
  each_is m s e i h = lasts_each a j p k m i (omega arith)

  next_not : (m s : ℕ) → s ≡ lasts a j p k m → s < m → kind_at a j (p + s) ≡ k → ⊥
  next_not m s e h = subst (λ (x : ℕ). kind_at a j (p + x) ≡ k → ⊥) (sym e) (lasts_other a j p k m (omega arith))

-- ---- a place is one of 256

kind_row : (a : List ℕ) (j u v : ℕ) → u % ring ≡ v % ring → kind_at a j u ≡ kind_at a j v
unfolding kind_at
kind_row a j u v e = ap kind_of (arrival_turn a j u v e)

module _ (a : List ℕ) (j u k p row m s : ℕ) (ep : p ≡ u % ring) (er : row ≡ min (ring - p) m)
    (es : s ≡ lasts a j p k row) where
  row_alike : AllOf a j u k s
  unfolding AllOf
  row_alike i h = kind_row a j (u + i) (p + i) (omega arith) ∙ each_is a j p k row s es i h

  pub row_stop : s < row → s ≡ lasts a j u k m
  row_stop h =
      lasts_is a j u k m s (omega arith) row_alike
      (λ l e. next_not a j p k row s es h (kind_row a j (p + s) (u + s) (omega arith) ∙ e))

  pub row_again : (r : ℕ) → row ≤ s → s ≤ row → r ≡ lasts a j 0 k (m - row) → r ≤ m - row → row + r ≡ lasts a j u k m
  unfolding AllOf
  row_again r up lo el le =
      lasts_is a j u k m (row + r) (omega arith)
      (λ i h. by_test (ltb i row)
      (λ c. let l = ltb-true i row c in row_alike i (omega arith))
      (λ c. let l = ltb-false i row c in
      kind_row a j (u + i) (0 + (i - row)) (omega arith) ∙ each_is a j 0 k (m - row) r el (i - row) (omega arith)))
      (λ l e. next_not a j 0 k (m - row) r el (omega arith) (kind_row a j (0 + r) (u + (row + r)) (omega arith) ∙ e))

-- ---- a whole line

used_code : (c : ℕ) → hears_any (heard_of c) ≡ not (eqb c 0)
unfolding heard_of
used_code c =
    by_test (eqb c 0) (λ p. rw p)
    (λ p. by_test (eqb c 1) (λ q. rw (p, q))
    (λ q. by_test (eqb c 2) (λ r. rw (p, q, r)) (λ r. rw (p, q, r))))

or_over : (x c : ℕ) → not (eqb (bit_or x c) 0) ≡ (not (eqb x 0) || not (eqb c 0))
or_over x c =
    let s = or_add_and x c in
    let l = and_le_l x c in
    let r = and_le_r x c in
    by_eq x 0
    (λ p. by_eq c 0
    (λ q. rw (eq-eqb (bit_or x c) 0 (omega arith), eq-eqb x 0 p, eq-eqb c 0 q))
    (λ q. rw (ne_eqb (bit_or x c) 0 (λ z. q (omega arith)), eq-eqb x 0 p, ne_eqb c 0 q)))
    (λ p. rw (ne_eqb (bit_or x c) 0 (λ z. p (omega arith)), ne_eqb x 0 p))

not_not : (b : Bool) → not (not b) ≡ b
not_not true = refl
not_not false = refl

unused : (h : Heard) → hears_any h ≡ false → h ≡ Nothing
unused Nothing e = refl
unused (Clean b) e = absurd (true≢false e)
unused Spoiled e = absurd (true≢false e)

module _ (a : List ℕ) (j : ℕ) where
  pub clear_none : some (in_use a j) 0 ≡ not (eqb 0 0)
  unfolding some
  clear_none = refl

  pub clear_more : (u c x : ℕ) → c ≡ symbol_at a j u → some (in_use a j) u ≡ not (eqb x 0)
      → some (in_use a j) (u + 1) ≡ not (eqb (bit_or x c) 0)
  unfolding some in_use arrival_at
  clear_more u c x ec h = rw (add-one u, h, ← ec, used_code c) (sym (or_over x c))

  pub clear_end : (u x : ℕ) → u ≤ ring → ring ≤ u → some (in_use a j) u ≡ not (eqb x 0) → eqb x 0 ≡ is_clear a j
  unfolding is_clear
  clear_end u x p q h =
      let e : u ≡ ring = omega arith in let g : some (in_use a j) ring ≡ not
      (eqb x 0) = rw e at h in sym (ap not g ∙ not_not (eqb x 0))

  -- nothing at any place
  pub clear_line : is_clear a j ≡ true → (u : ℕ) → arrival_at a j u ≡ Nothing
  unfolding is_clear in_use
  clear_line h u =
      arrival_turn a j u (u % ring) (omega arith)
      ∙ unused (arrival_at a j (u % ring)) (none_below (in_use a j) ring (u % ring) (not-true _ h) (omega arith))

-- ---- places cleared

module _ (t j : ℕ) (x : List ℕ) where
  pub cleared_none : x ≡ cleared t j 0 x
  unfolding cleared
  cleared_none = turns_none _ x

  pub cleared_more : (s : ℕ) (y z : List ℕ) → z ≡ with_arrival y j (t + s) Nothing → y ≡ cleared t j s x
      → z ≡ cleared t j (s + 1) x
  unfolding cleared
  cleared_more s y z p q = turns_more _ s x y z p q

  pub cleared_end : (m s : ℕ) (y : List ℕ) → s ≤ m → m ≤ s → y ≡ cleared t j s x → y ≡ cleared t j m x
  unfolding cleared
  cleared_end m s y p q r = turns_end _ m s x y p q r

-- a place of a row
place_cleared : (u j : ℕ) (x : List ℕ) (s n p : ℕ) (y : List ℕ) → p ≡ from (the_line j) + u % ring
    → u % ring + n ≤ ring → s < n → y ≡ cleared u j s x
    → set y (p + s) 0 ≡ cleared u j (s + 1) x
unfolding with_arrival
place_cleared u j x s n p y ep h hs ey =
    let e : p + s ≡ from (the_line j) + (u + s) % ring = omega arith in
    cleared_more u j x s y (set y (p + s) 0) (ap (λ (k : ℕ). set y k 0) e) ey

row_long : (x : List ℕ) (p n k : ℕ) → p + n ≤ length x → k ≡ n → length (take k (drop p x)) ≡ n
row_long x p n k room ek = ap (λ (i : ℕ). length (take i (drop p x))) ek ∙ length_part x p n room

-- a row, as the library's `fill` leaves it
row_filled : (u j : ℕ) (x : List ℕ) (p m n : ℕ) → p ≡ from (the_line j) + u % ring → u % ring + m ≤ ring → n ≤ m
    → p + m ≤ length x → paste x p (replicate n 0) n ≡ cleared u j n x
row_filled u j x p m zero ep h le room = sym (paste_none x p (replicate 0 0)) ∙ cleared_none u j x
row_filled u j x p m (suc n) ep h le room =
    let e : set (paste x p (replicate n 0) n) (p + n) 0 ≡ paste x p (replicate (n + 1) 0) (n + 1) =
    fill_from_more x p n 0 (omega arith) in
    subst (λ (k : ℕ). paste x p (replicate k 0) k ≡ cleared u j k x) (add-one n)
    (sym e ∙ place_cleared u j x n m p (paste x p (replicate n 0) n) ep h (omega arith)
    (row_filled u j x p m n ep h (omega arith) room))

pub cleared_row : (u j n p k : ℕ) (x z : List ℕ) → p ≡ from (the_line j) + u % ring → u % ring + n ≤ ring
    → p + n ≤ length x → k ≡ n → z ≡ replicate (length (take k (drop p x))) 0 → put_mid p k x z ≡ cleared u j n x
cleared_row u j n p k x z ep h room ek ez =
    put_mid-paste p k x z (replicate n 0) n (ez ∙ ap (λ (i : ℕ). replicate i 0) (row_long x p n k room ek)) (sym ek)
    (sym (length-replicate n 0))
    ∙ row_filled u j x p n n ep h (omega arith) room

-- one row after the other
cleared_after : (t j s n : ℕ) (x : List ℕ) → cleared (t + s) j n (cleared t j s x) ≡ cleared t j (s + n) x
unfolding cleared turns
cleared_after t j s zero x = let e : s ≡ s + 0 = omega arith in ap (λ (k : ℕ). cleared t j k x) e
cleared_after t j s (suc n) x =
    let e : t + s + n ≡ t + (s + n) = omega arith in
    let g : s + n + 1 ≡ s + suc n = omega arith in
    ap₂ (λ (k : ℕ) (y : List ℕ). with_arrival y j k Nothing) e (cleared_after t j s n x)
    ∙ cleared_more t j x (s + n) (cleared t j (s + n) x) _ refl refl
    ∙ ap (λ (k : ℕ). cleared t j k x) g

pub cleared_rows : (t j : ℕ) (x : List ℕ) (s n : ℕ) (y z : List ℕ) → z ≡ cleared (t + s) j n y → y ≡ cleared t j s x
    → z ≡ cleared t j (s + n) x
cleared_rows t j x s n y z ez ey = ez ∙ ap (cleared (t + s) j n) ey ∙ cleared_after t j s n x

-- ---- the code of a packet's bit

digit_code : (v : ℕ) (b : Bool) → v < 2 → eqb v 1 ≡ b → v + 1 ≡ heard_code (alone (Bit b))
digit_code v b h e =
    by_eq v 1
    (λ z. let g : true ≡ b = sym (eq-eqb v 1 z) ∙ e in rw (z, ← g))
    (λ z. let y : v ≡ 0 = omega (arith, z) in let g : false ≡ b = sym (ne_eqb v 1 z) ∙ e in rw (y, ← g))

bit_sounds : (b : Bool) → heard_code (alone (Bit b)) ≡ 0 → ⊥
bit_sounds true e = omega (arith, e)
bit_sounds false e = omega (arith, e)

module _ (f : List ℕ) (k : ℕ) where
  pub code_alternates : k ≤ 62 → k % 2 + 1 ≡ heard_code (alone (Bit (packet_bit f k)))
  code_alternates h = digit_code (k % 2) (packet_bit f k) (omega arith) (bit_alternates f k h)

  pub code_delimits : 62 < k → k ≤ 64 → 2 ≡ heard_code (alone (Bit (packet_bit f k)))
  code_delimits h g = ap (λ (b : Bool). heard_code (alone (Bit b))) (bit_delimits f k h g)

  pub code_of_frame : (x : ℕ) → x ≡ get_or f ((k - 65) / 8) 0 → 64 < k → k < 65 + 8 * length f
      → x / 2 ^ ((k - 65) % 8) % 2 + 1 ≡ heard_code (alone (Bit (packet_bit f k)))
  code_of_frame x e lo up =
      let j = k - 65 in
      digit_code (x / 2 ^ (j % 8) % 2) (packet_bit f k) (mod-lt (x / 2 ^ (j % 8)) (omega arith))
      (bit_of_frame f k _ lo (frame_bit_lem f j x e (omega arith)))

-- ---- the codes of what is emitted

-- so many of the last m of K symbols are noted, from place p on
abbrev pub Noted : (cs : List ℕ) (p m K : ℕ) → (ℕ → Symbol) → (n : ℕ) → Type 0
Noted cs p m K Q n = (v : ℕ) → v < n → get_or cs (p + v) 0 ≡ heard_code (alone (Q (K - m + v)))

module _ (cs : List ℕ) (p m K : ℕ) (Q : ℕ → Symbol) where
  pub noted_none : Noted cs p m K Q 0
  noted_none v h = absurd (omega arith)

  noted_more : (n c : ℕ) → p + n < length cs → c ≡ heard_code (alone (Q (K - m + n))) → Noted cs p m K Q n
      → Noted (set cs (p + n) c) p m K Q (n + 1)
  noted_more n c room e h v hv =
      by_eq v n
      (λ z. rw z (get_or-set_same cs (p + n) c 0 room ∙ e))
      (λ z. get_or-set_other cs (p + n) (p + v) c 0 (λ w. z (omega arith)) ∙ h v (omega (arith, z)))

note_fits : (cs ds : List ℕ) (at p m K n : ℕ) → length cs ≡ length ds → at + ring ≤ length ds → p ≡ at + (ring - m)
    → m ≡ min ring K → n < m → p + n < length cs
note_fits cs ds at p m K n l h ep em hn = omega arith

pub bits_noted : (cs ds F : List ℕ) (at p m f K k n c : ℕ) → c ≡ heard_code (alone (Bit (packet_bit F (k + (f + n)))))
    → f ≡ K - m → length cs ≡ length ds → at + ring ≤ length ds
    → p ≡ at + (ring - m) → m ≡ min ring K → n < m → Noted cs p m K (bits_from F k) n
    → Noted (set cs (p + n) c) p m K (bits_from F k) (n + 1)
unfolding bits_from
bits_noted cs ds F at p m f K k n c e ef l room ep em hn h =
    noted_more cs p m K (bits_from F k) n c (note_fits cs ds at p m K n l room ep em hn)
    (e ∙ ap (λ (g : ℕ). heard_code (alone (Bit (packet_bit F (k + (g + n)))))) ef) h

coded_by : (cs : List ℕ) (at p m K : ℕ) (Q : ℕ → Symbol) (n : ℕ) → m ≡ min ring K → p ≡ at + (ring - m) → m ≤ n
    → ((s : ℕ) → heard_code (alone (Q s)) ≡ 0 → ⊥)
    → Noted cs p m K Q n → Coded cs at K Q
unfolding Coded
coded_by cs at p m K Q n em ep hn ne h s hs hk =
    let w : p + (s - (K - m)) ≡ at + (ring + s - K) = omega arith in
    let z : K - m + (s - (K - m)) ≡ s = omega arith in (
      ap (λ (k : ℕ). get_or cs k 0) (sym w) ∙ h (s - (K - m)) (omega arith)
          ∙ ap (λ (k : ℕ). heard_code (alone (Q k))) z,
      ne s,
    )

pub bits_coded : (cs F G : List ℕ) (at p m K k n : ℕ) → m ≡ min ring K → p ≡ at + (ring - m) → m ≤ n → F ≡ G
    → Noted cs p m K (bits_from F k) n → Coded cs at K (bits_from G k)
unfolding bits_from
bits_coded cs F G at p m K k n em ep hn e h =
    coded_by cs at p m K (bits_from G k) n em ep hn (λ s. bit_sounds (packet_bit G (k + s))) (rw e at h)

-- what lies before is kept
pub below_same : (at : ℕ) (cs : List ℕ) → Below at cs cs
unfolding Below
below_same at cs p h = refl

pub below_more : (at b n c : ℕ) (ds cs : List ℕ) → Below at ds cs → Below at ds (set cs (at + b + n) c)
unfolding Below
below_more at b n c ds cs h q hq = get_or-set_other cs (at + b + n) q c 0 (λ w. omega arith) ∙ h q hq

-- jam, as the library's `fill` leaves it
module _ (ds zs : List ℕ) (at p m k K : ℕ) (em : m ≡ min ring K) (ep : p ≡ at + (ring - m)) (room : at + ring ≤ length ds)
    (ek : k ≡ m) (ez : zs ≡ replicate (length (take k (drop p ds))) 3) where
  threes : List ℕ
  threes = replicate m 3

  threes_long : length threes ≡ m
  unfolding threes
  threes_long = length-replicate m 3

  jam_put : put_mid p k ds zs ≡ sets ds p threes
  unfolding threes
  jam_put =
      let e : zs ≡ threes = ez ∙ ap (λ (i : ℕ). replicate i 3) (row_long ds p m k (omega arith) ek) in
      ap₂ (λ (i : ℕ) (l : List ℕ). put_mid p i ds l) ek e
      ∙ put_all threes ds p m (sym threes_long) (omega (arith, threes_long))

  jam_noted : Noted (sets ds p threes) p m K jams m
  unfolding jams threes
  jam_noted v h =
      octet_same threes ds p v (omega (arith, threes_long)) (omega (arith, threes_long)) ∙ get_or-replicate m v 3 0 h

  pub jam_coded : Coded (put_mid p k ds zs) at K jams
  unfolding jams
  jam_coded =
      rw jam_put (coded_by (sets ds p threes) at p m K jams m em ep (omega arith) (λ s z. omega (arith, z)) jam_noted)

  pub jam_below : Below at ds (put_mid p k ds zs)
  unfolding Below
  jam_below q hq = rw jam_put (octet_other threes ds p q (λ a b. omega arith))

pub below_coded : (at b K : ℕ) (Q : ℕ → Symbol) (ds cs : List ℕ) → Below b ds cs → at + ring ≤ b → Coded ds at K Q
    → Coded cs at K Q
unfolding Below Coded
below_coded at b K Q ds cs h le c s hs hk = (h (at + (ring + s - K)) (omega arith) ∙ (c s hs hk).0, (c s hs hk).1)

-- the frame has the bits that are noted
pub note_room : (x F : List ℕ) (i n k K m f s : ℕ) → F ≡ frame_at x i n → i < max_stations → n ≤ frame_room
    → area_size ≤ length x → m ≡ min ring K → f ≡ K - m → s < m → k + K ≤ 65 + 8 * n
    → k + (f + s) < 65 + 8 * length F
unfolding frame_at
note_room x F i n k K m f s e hi hn room em ef hs hk =
    let z : length F ≡ n = ap length e ∙ length_part x (from (the_frame i)) n (omega arith) in
    omega arith

-- ---- symbols put

module _ (j u : ℕ) (cs : List ℕ) (at : ℕ) (x : List ℕ) where
  codes_none : x ≡ codes_put j u cs at 0 x
  unfolding codes_put
  codes_none = turns_none _ x

  -- a place of a row
  codes_row : (s n p c v : ℕ) (y : List ℕ) → p ≡ from (the_line j) + u % ring → u % ring + n ≤ ring → s < n
      → v ≡ pick (eqb (get_or y (p + s) 0) 0) c max_code → c ≡ get_or cs (at + s) 0 → y ≡ codes_put j u cs at s x
      → set y (p + s) v ≡ codes_put j u cs at (s + 1) x
  unfolding codes_put with_symbol symbol_at
  codes_row s n p c v y ep h hs ev ec ey =
      let e : p + s ≡ from (the_line j) + (u + s) % ring = omega arith in
      turns_more _ s x y (set y (p + s) v)
      (ap (set y (p + s)) (ev ∙ ap (pick (eqb (get_or y (p + s) 0) 0) _) refl)
      ∙ ap₂ (λ (k d : ℕ). set y k (pick (eqb (get_or y k 0) 0) d max_code)) e ec)
      ey

  codes_after : (n k : ℕ) → codes_put j (u + n) cs (at + n) k (codes_put j u cs at n x) ≡ codes_put j u cs at (n + k) x
  unfolding codes_put turns
  codes_after n zero = let e : n ≡ n + 0 = omega arith in ap (λ (i : ℕ). codes_put j u cs at i x) e
  codes_after n (suc k) =
      let e : u + n + k ≡ u + (n + k) = omega arith in
      let f : at + n + k ≡ at + (n + k) = omega arith in
      let g : n + k + 1 ≡ n + suc k = omega arith in
      ap₂ (λ (v w : ℕ). with_symbol (codes_put j (u + n) cs (at + n) k (codes_put j u cs at n x)) j v (get_or cs w 0)) e f
      ∙ ap (λ (y : List ℕ). with_symbol y j (u + (n + k)) (get_or cs (at + (n + k)) 0)) (codes_after n k)
      ∙ turns_more (λ (i : ℕ) (z : List ℕ). with_symbol z j (u + i) (get_or cs (at + i) 0)) (n + k) x
      (codes_put j u cs at (n + k) x) _ refl refl
      ∙ ap (λ (i : ℕ). codes_put j u cs at i x) g

pub row_room : (u n p k : ℕ) (cs : List ℕ) → p + n ≤ length cs → k ≡ n → u % ring + n ≤ ring
    → u % ring + length (take k (drop p cs)) ≤ ring
row_room u n p k cs room ek h = omega (arith, row_long cs p n k room ek)

-- a row of its own
module _ (j u : ℕ) (cs x : List ℕ) where
  pub row_none : x ≡ codes_put j u cs 0 0 x
  row_none = codes_none j u cs 0 x

  pub row_more : (s p v : ℕ) (y : List ℕ) → p ≡ from (the_line j) + u % ring → u % ring + length cs ≤ ring → s < length cs
      → v ≡ pick (eqb (get_or y (p + s) 0) 0) (get_or cs s 0) max_code → y ≡ codes_put j u cs 0 s x
      → set y (p + s) v ≡ codes_put j u cs 0 (s + 1) x
  row_more s p v y ep h hs ev ey =
      let z : s ≡ 0 + s = omega arith in
      codes_row j u cs 0 x s (length cs) p (get_or cs s 0) v y ep h hs ev (ap (λ (i : ℕ). get_or cs i 0) z) ey

-- a part of the codes
module _ (j u : ℕ) (cs : List ℕ) (k n : ℕ) (x : List ℕ) (room : k + n ≤ length cs) where
  codes_part : (m : ℕ) → m ≤ n → codes_put j u (take n (drop k cs)) 0 m x ≡ codes_put j u cs k m x
  unfolding codes_put turns
  codes_part zero h = refl
  codes_part (suc m) h =
      let z : 0 + m ≡ m = omega arith in
      ap₂ (λ (c : ℕ) (y : List ℕ). with_symbol y j (u + m) c)
      (ap (λ (i : ℕ). get_or (take n (drop k cs)) i 0) z ∙ get_or-take n (drop k cs) m 0 (omega arith) ∙ get_or-drop k cs m 0)
      (codes_part m (omega arith))

  pub row_put : (i : ℕ) (y : List ℕ) → i ≡ n
      → y ≡ codes_put j u (take i (drop k cs)) 0 (length (take i (drop k cs))) x → y ≡ codes_put j u cs k n x
  row_put i y ei ey =
      ey ∙ ap₂ (λ (v w : ℕ). codes_put j u (take v (drop k cs)) 0 w x) ei (row_long cs k n i room ei)
      ∙ codes_part n (omega arith)

both_rows : (m w n : ℕ) → n ≡ min w m → n + (m - n) ≡ m
both_rows m w n e = omega arith

first_step : (t d K m : ℕ) → m ≡ min d K → t + (K - m + d) ≡ t + (K - d + d)
first_step t d K m e = omega arith

pub codes_rows : (j t d K at m u k n : ℕ) (cs x y z : List ℕ) → m ≡ min d K → u ≡ t + (K - m + d) → k ≡ at + (ring - m)
    → n ≡ min (ring - u % ring) m
    → y ≡ codes_put j u cs k n x → z ≡ codes_put j (u + n) cs (k + n) (m - n) y
    → z ≡ codes_put j (t + (K - d + d)) cs (at + (ring - min d K)) (min d K) x
codes_rows j t d K at m u k n cs x y z em eu ek en ey ez =
    let a : n + (m - n) ≡ min d K = both_rows m (ring - u % ring) n en ∙ em in
    let b : u ≡ t + (K - d + d) = eu ∙ first_step t d K m em in
    let c : k ≡ at + (ring - min d K) = ek ∙ ap (λ (i : ℕ). at + (ring - i)) em in
    ez ∙ ap (codes_put j (u + n) cs (k + n) (m - n)) ey ∙ codes_after j u cs k x n (m - n)
    ∙ ap (λ (i : ℕ). codes_put j u cs k i x) a
    ∙ ap₂ (λ (v w : ℕ). codes_put j v cs w (min d K) x) b c

-- where the codes are those of what is emitted
pub way_coded : (t d K : ℕ) (Q : ℕ → Symbol) (j : ℕ) (cs : List ℕ) (at : ℕ) (x : List ℕ) (m : ℕ) → d ≤ ring
    → m ≤ min d K → Coded cs at K Q
    → codes_put j (t + (K - d + d)) cs (at + (ring - min d K)) m x ≡ on_way t d K Q j m x
unfolding codes_put on_way turns joined_at Coded
way_coded t d K Q j cs at x zero hd h c = refl
way_coded t d K Q j cs at x (suc m) hd h c =
    let q = K - d + m in
    let e : t + (K - d + d) + m ≡ t + (q + d) = omega arith in
    let f : at + (ring - min d K) + m ≡ at + (ring + q - K) = omega arith in
    let b = c q (omega arith) (omega arith) in
    let y = on_way t d K Q j m x in
    ap₂ (λ (v : ℕ) (l : List ℕ). with_symbol l j v (get_or cs (at + (ring - min d K) + m) 0)) e
    (way_coded t d K Q j cs at x m hd (omega arith) c)
    ∙ ap (λ (i : ℕ). with_symbol y j (t + (q + d)) (get_or cs i 0)) f
    ∙ joined_code y j (t + (q + d)) (Q q) (get_or cs (at + (ring + q - K)) 0) b.0 (λ z. b.1 (sym b.0 ∙ z))

-- only what is emitted matters
pub way_same : (t d K : ℕ) (Q R : ℕ → Symbol) (j m : ℕ) (x : List ℕ) → m ≤ min d K → ((s : ℕ) → s < K → Q s ≡ R s)
    → on_way t d K Q j m x ≡ on_way t d K R j m x
unfolding on_way turns
way_same t d K Q R j zero x h e = refl
way_same t d K Q R j (suc m) x h e =
    ap₂ (λ (q : Symbol) (y : List ℕ). joined_at j (t + (K - d + m + d)) q y) (e (K - d + m) (omega arith))
    (way_same t d K Q R j m x (omega arith) e)

-- ---- what changes nothing, where the codes are those of what is heard

code_back : (c : ℕ) → c ≤ max_code → heard_code (heard_of c) ≡ c
code_back c h =
    by_eq c 0 (λ p. ap heard_code (sym (heard_nothing c p)) ∙ sym p)
    (λ p. by_eq c 1 (λ q. ap heard_code (sym (heard_zero c p q)) ∙ sym q)
    (λ q. by_eq c 2 (λ r. ap heard_code (sym (heard_one c p q r)) ∙ sym r)
    (λ r. ap heard_code (sym (code-spoiled c p q r)) ∙ omega (arith, p, q, r))))

-- what is there, put again
put_back : (x : List ℕ) (j u : ℕ) → symbol_at x j u ≤ max_code → with_arrival x j u (arrival_at x j u) ≡ x
unfolding with_arrival arrival_at symbol_at
put_back x j u h =
    ap (set x (from (the_line j) + u % ring)) (code_back (get_or x (from (the_line j) + u % ring) 0) h)
    ∙ set-get_or x (from (the_line j) + u % ring) 0

-- silence
pub way_silent : (t d K : ℕ) (Q : ℕ → Symbol) (j m : ℕ) (x : List ℕ) → m ≤ min d K → ((s : ℕ) → s < K → Q s ≡ Silence)
    → ((u : ℕ) → symbol_at x j u ≤ max_code) → on_way t d K Q j m x ≡ x
unfolding on_way turns joined_at
way_silent t d K Q j zero x h e codes = refl
way_silent t d K Q j (suc m) x h e codes =
    let u = t + (K - d + m + d) in
    ap (λ (y : List ℕ). joined_at j u (Q (K - d + m)) y) (way_silent t d K Q j m x (omega arith) e codes)
    ∙ ap (λ (q : Symbol). joined_at j u q x) (e (K - d + m) (omega arith))
    ∙ ap (with_arrival x j u) (joined_none (arrival_at x j u))
    ∙ put_back x j u (codes u)

-- places that hold nothing, cleared
pub cleared_same : (t j m : ℕ) (x : List ℕ) → ((s : ℕ) → s < m → arrival_at x j (t + s) ≡ Nothing)
    → ((u : ℕ) → symbol_at x j u ≤ max_code) → cleared t j m x ≡ x
unfolding cleared turns
cleared_same t j zero x e codes = refl
cleared_same t j (suc m) x e codes =
    ap (λ (y : List ℕ). with_arrival y j (t + m) Nothing) (cleared_same t j m x (λ s h. e s (omega arith)) codes)
    ∙ ap (with_arrival x j (t + m)) (sym (e m (omega arith)))
    ∙ put_back x j (t + m) (codes (t + m))
