-- A record written word by word is the record written whole, and the order of writes to different places does not
-- matter. Assumes nothing.
use Prim.Native.Nat.{ℕ, zero, suc, ◌+◌, ◌*◌, ◌-◌, ◌/◌, ◌%◌, ◌≤◌, ◌<◌}
use Rattle.std.specs.Prelude.{◌≡◌, refl, Bool, ltb, set}
use Rattle.std.proofs.Math.Path.{sym, ap}
use Rattle.std.proofs.Common.{◌∙◌, length-set, get_or-set_same, get_or-set_other}
use mathlib.Core.List.{List, [], ◌∷◌}
use native.Mathlib.Omega.{arith}
use Rattle.std.proofs.Math.ListN.{length, get_or, get_or-append}
use Rattle.std.proofs.lemmas.List.Edits.{sets}
use Rattle.std.proofs.lemmas.List.{get_or_at, set_comm, set-get_or}
use Rattle.std.proofs.Math.Seq.{set_out, ext_get_or}
use borrow.Author.Tests.{ltb-true, ltb-false}
use Rattle.octets.specs.BaseLaws.{by_test, by_eq}
use Rattle.octets.specs.Number.{spelled, put}
use Rattle.octets.specs.NumberLaws.{Octets, get_small, length_spelled, get_put_same, get_put_other}
use Rattle.octets.specs.Region.{Same, put_leaves, words_leave}
use Rattle.octets.specs.Store.{Apart, octet_same, octet_other}
use Rattle.octets.specs.Words.{words_at, put_words}
use Rattle.octets.specs.WordsLaws.{length_words, length_put_words, word_at}
use Rattle.station_symbols.specs.declared.Heard.{Heard}
use Rattle.station_state.specs.declared.Station.{Station}
use Rattle.area_record.specs.Codec.{encoded}
use Rattle.area.specs.Area.{record_at, with_station, with_word, with_bit, heard_code, symbol_at, with_arrival}
use Rattle.area.specs.AreaLaws.{code_small}
use Rattle.area.specs.OneWord.{station_back, length_word}
use Rattle.area.specs.Offsets.{area_size, ring, from, the_line, the_station, the_buffer}
use Rattle.sheet_layout.specs.Limits.{max_stations}
use Rattle.area_record.specs.Words.{record_words}

-- ---- an octet elsewhere

sets_past : (vs l : List ℕ) (b p c : ℕ) → Apart p 1 b (length vs) → sets (set l p c) b vs ≡ set (sets l b vs) p c
sets_past [] l b p c o = refl
sets_past (v ∷ vs) l b p c o =
    ap (λ (m : List ℕ). sets m (suc b) vs) (set_comm l p b c v (λ e. o (omega arith) (omega arith)))
    ∙ sets_past vs (set l b v) (suc b) p c (λ x y. o (omega arith) (omega arith))

words_past : (n : ℕ) (l ws : List ℕ) (b p c : ℕ) → Apart p 1 b (4 * n)
    → put_words n (set l p c) b ws ≡ set (put_words n l b ws) p c
unfolding put_words put
words_past zero l ws b p c o = refl
words_past (suc n) l ws b p c o =
    ap (λ (m : List ℕ). sets m (b + 4 * n) (spelled 4 (get_or ws n 0)))
    (words_past n l ws b p c (λ x y. o (omega arith) (omega arith)))
    ∙ sets_past (spelled 4 (get_or ws n 0)) (put_words n l b ws) (b + 4 * n) p c
    (λ x y. o (omega (arith, length_spelled 4 (get_or ws n 0))) (omega arith))

-- what stands at a place is put there again
pub arrival_back : (x : List ℕ) (i t : ℕ) (h : Heard) → symbol_at x i t ≡ heard_code h → with_arrival x i t h ≡ x
unfolding symbol_at with_arrival
arrival_back x i t h e = ap (set x (from (the_line i) + t % ring)) (sym e) ∙ set-get_or x (from (the_line i) + t % ring) 0

module _ (a : List ℕ) (i t : ℕ) (h : Heard) (hi : i < max_stations) where
  pub station_arrival : (s : Station) → with_station (with_arrival a i t h) i s ≡ with_arrival (with_station a i s) i t h
  unfolding with_station with_arrival
  station_arrival s =
      words_past record_words a (encoded s) (from (the_station i)) (from (the_line i) + t % ring) (heard_code h)
      (λ x y. omega arith)

  pub bit_arrival : (k : ℕ) (b : Bool) → with_bit (with_arrival a i t h) i k b ≡ with_arrival (with_bit a i k b) i t h
  unfolding with_bit with_arrival
  bit_arrival k b =
      rw (get_or-set_other a (from (the_line i) + t % ring) (from (the_buffer i) + k / 8) (heard_code h) 0
      (λ e. omega arith))
      (set_comm a (from (the_line i) + t % ring) (from (the_buffer i) + k / 8) (heard_code h) _ (λ e. omega arith))

  pub octets_arrival : Octets a → Octets (with_arrival a i t h)
  unfolding with_arrival Octets
  octets_arrival o k =
      by_eq k (from (the_line i) + t % ring)
      (λ e. rw e (by_test (ltb (from (the_line i) + t % ring) (length a))
      (λ c. rw (get_or-set_same a (from (the_line i) + t % ring) (heard_code h) 0 (ltb-true _ _ c))
      (omega (arith, code_small h)))
      (λ c. rw (set_out a (from (the_line i) + t % ring) (heard_code h) (ltb-false _ _ c))
      (o (from (the_line i) + t % ring)))))
      (λ e. rw (get_or-set_other a (from (the_line i) + t % ring) k (heard_code h) 0 e) (o k))

-- ---- word by word

-- y is x but for the record of station i, which is w
pub record Wrote (i : ℕ) (x y w : List ℕ) : Type 0 where
  pub long : length y ≡ length x
  pub rest : (k : ℕ) → Apart k 1 (from (the_station i)) 56 → get_or y k 0 ≡ get_or x k 0
  pub words : record_at y i ≡ w
  pub octets : Octets y

pub spelled_octet : (w v k : ℕ) → k < w → get_or (spelled w v) k 0 < 256
unfolding spelled
spelled_octet zero v k h = absurd (omega arith)
spelled_octet (suc w) v k h =
    by_test (ltb k w)
    (λ c. let g = ltb-true k w c in
    rw (get_or-append (spelled w (v / 256)) (v % ring ∷ []) 0 k (omega (arith, length_spelled w (v / 256))))
    (spelled_octet w (v / 256) k g))
    (λ c. let g : k ≡ w = omega (arith, ltb-false k w c) in
    rw (g, get_or_at (spelled w (v / 256)) (v % ring) [] 0 w (length_spelled w (v / 256))) (omega arith))

-- what is overwritten does not matter
pub words_over : (n : ℕ) (x y : List ℕ) (b : ℕ) (ws : List ℕ) (k : ℕ) → b + 4 * n ≤ length x → b + 4 * n ≤ length y
    → (Apart k 1 b (4 * n) → get_or x k 0 ≡ get_or y k 0)
    → get_or (put_words n x b ws) k 0 ≡ get_or (put_words n y b ws) k 0
unfolding put_words put
words_over zero x y b ws k hx hy e = e (λ p q. omega arith)
words_over (suc n) x y b ws k hx hy e =
    let v = spelled 4 (get_or ws n 0) in
    let m : length v ≡ 4 = length_spelled 4 (get_or ws n 0) in
    by_test (ltb k (b + 4 * n))
    (λ c. let g = ltb-true k (b + 4 * n) c in
    octet_other v (put_words n x b ws) (b + 4 * n) k (λ p q. omega arith)
    ∙ words_over n x y b ws k (omega arith) (omega arith) (λ o. e (λ p q. o (omega arith) (omega arith)))
    ∙ sym (octet_other v (put_words n y b ws) (b + 4 * n) k (λ p q. omega arith)))
    (λ c. let g = ltb-false k (b + 4 * n) c in
    by_test (ltb k (b + 4 * n + 4))
    (λ d. let f = ltb-true k (b + 4 * n + 4) d in
    let z : k ≡ b + 4 * n + (k - (b + 4 * n)) = omega arith in
    rw z
    (octet_same v (put_words n x b ws) (b + 4 * n) (k - (b + 4 * n)) (omega arith)
    (omega (arith, length_put_words n x b ws))
    ∙ sym (octet_same v (put_words n y b ws) (b + 4 * n) (k - (b + 4 * n)) (omega arith)
    (omega (arith, length_put_words n y b ws)))))
    (λ d. let f = ltb-false k (b + 4 * n + 4) d in
    octet_other v (put_words n x b ws) (b + 4 * n) k (λ p q. omega arith)
    ∙ words_over n x y b ws k (omega arith) (omega arith) (λ o. e (λ p q. omega arith))
    ∙ sym (octet_other v (put_words n y b ws) (b + 4 * n) k (λ p q. omega arith))))

pub word_small : (a : List ℕ) (i k : ℕ) → Octets a → k < record_words → get_or (record_at a i) k 0 < 4294967296
unfolding record_at
word_small a i k o h =
    omega (arith, word_at record_words a (from (the_station i)) k h, get_small 4 a (from (the_station i) + 4 * k) o)

module _ (i : ℕ) (x : List ℕ) (hi : i < max_stations) (room : area_size ≤ length x) where
  pub wrote_none : (w : List ℕ) → Octets x → record_at x i ≡ w → Wrote i x x w
  wrote_none w o e = record { long = refl; rest = λ k p. refl; words = e; octets = o }

  pub wrote_word : (y w : List ℕ) (k v : ℕ) → Wrote i x y w → k < record_words → v < 4294967296
      → Wrote i x (with_word y i k v) (set w k v)
  unfolding with_word record_at put Octets Same
  wrote_word y w k v r h small =
      let b = from (the_station i) in
      let n : length (spelled 4 v) ≡ 4 = length_spelled 4 v in
      record {
        long = length_word y i k v ∙ r.long;
        rest =
            λ j p. put_leaves j 1 4 (b + 4 * k) v y (λ q s. p (omega arith) (omega arith)) j (omega arith) (omega arith)
            ∙ r.rest j p;
        words =
            ext_get_or 0 (words_at record_words (put 4 y (b + 4 * k) v) b) (set w k v)
            (length_words record_words (put 4 y (b + 4 * k) v) b
            ∙ sym (length-set w k v ∙ ap length (sym r.words) ∙ length_words record_words y b))
            (λ j g. let lt : j < record_words = omega (arith, length_words record_words (put 4 y (b + 4 * k) v) b) in
            word_at record_words (put 4 y (b + 4 * k) v) b j lt
            ∙ by_eq j k
            (λ z. rw z (get_put_same 4 y (b + 4 * k) v (omega (arith, r.long)) (omega arith)
            ∙ sym (get_or-set_same w k v 0 (omega (arith, ap length (sym r.words), length_words record_words y b)))))
            (λ z. get_put_other 4 4 y (b + 4 * k) (b + 4 * j) v (λ p q. omega (arith, z))
            ∙ sym (word_at record_words y b j lt)
            ∙ ap (λ (l : List ℕ). get_or l j 0) r.words
            ∙ sym (get_or-set_other w k j v 0 z)));
        octets = λ j.
            by_test (ltb j (b + 4 * k))
            (λ c. let g = ltb-true j (b + 4 * k) c
            in rw (octet_other (spelled 4 v) y (b + 4 * k) j (λ p q. omega arith)) (r.octets j))
            (λ c. let g = ltb-false j (b + 4 * k) c in
            by_test (ltb j (b + 4 * k + 4))
            (λ d. let f = ltb-true j (b + 4 * k + 4) d in
            let z : j ≡ b + 4 * k + (j - (b + 4 * k)) = omega arith in
            rw (z, octet_same (spelled 4 v) y (b + 4 * k) (j - (b + 4 * k)) (omega arith) (omega (arith, r.long)))
            (spelled_octet 4 v (j - (b + 4 * k)) (omega arith)))
            (λ d. let f = ltb-false j (b + 4 * k + 4) d
            in rw (octet_other (spelled 4 v) y (b + 4 * k) j (λ p q. omega arith)) (r.octets j)));
      }

  pub wrote_station : (y : List ℕ) (s : Station) → Wrote i x y (encoded s) → with_station x i s ≡ y
  unfolding with_station
  wrote_station y s r =
      let b = from (the_station i) in
      ext_get_or 0 (put_words record_words x b (encoded s)) (put_words record_words y b (encoded s))
      (length_put_words record_words x b (encoded s) ∙ sym (length_put_words record_words y b (encoded s) ∙ r.long))
      (λ k h. words_over record_words x y b (encoded s) k (omega arith) (omega (arith, r.long))
      (λ o. sym (r.rest k o)))
      ∙ station_back y i s hi (omega (arith, r.long)) r.octets (sym r.words)

-- ---- a record beside other writes

module _ (a : List ℕ) (i : ℕ) (hi : i < max_stations) (s : Station) where
  pub station_bit : (k : ℕ) (b : Bool) → with_station (with_bit a i k b) i s ≡ with_bit (with_station a i s) i k b
  unfolding with_station with_bit Same
  station_bit k b =
      let at = from (the_buffer i) + k / 8 in
      let e : get_or (put_words record_words a (from (the_station i)) (encoded s)) at 0
      ≡ get_or a at 0 = words_leave at 1 record_words (from (the_station i)) a (encoded s) (λ x y. omega arith) at
      (omega arith) (omega arith) in
      rw e (words_past record_words a (encoded s) (from (the_station i)) at _ (λ x y. omega arith))

  -- what is written over another state
  pub station_over : (s' : Station) → area_size ≤ length a → with_station (with_station a i s') i s ≡ with_station a i s
  unfolding with_station Same
  station_over s' room =
      let b = from (the_station i) in
      let m : List ℕ = put_words record_words a b (encoded s') in
      let n : length m ≡ length a = length_put_words record_words a b (encoded s') in
      ext_get_or 0 (put_words record_words m b (encoded s)) (put_words record_words a b (encoded s))
      (length_put_words record_words m b (encoded s) ∙ n ∙ sym (length_put_words record_words a b (encoded s)))
      (λ k h. words_over record_words m a b (encoded s) k (omega arith) (omega arith)
      (λ o. words_leave k 1 record_words b a (encoded s') o k (omega arith) (omega arith)))
