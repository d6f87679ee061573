-- Words that were written are read back, and words apart from them are as they were; the loops that write and read
-- them. Assumes nothing.
use Rattle.std.specs.Prelude.{ℕ, zero, suc, ◌+◌, ◌*◌, ◌^◌, ◌≤◌, ◌<◌, ◌≡◌, refl, List, [], ◌∷◌, ◌++◌, length, get_or, set, drop}
use Rattle.std.proofs.Common.{◌∙◌, sym, add-one, not-suc-le-zero, arith, length-append, drop-cons, ext_get_or}
use Rattle.std.proofs.Math.Decide.{dec_lt}
use Rattle.std.proofs.Math.ListN.{get_or-append}
use Rattle.std.proofs.lemmas.List.{set_at, get_or_at}
use Rattle.std.proofs.Math.Seq.{append_snoc}
use Rattle.octets.specs.Number.{get, put}
use Rattle.octets.specs.Store.{Apart}
use Rattle.octets.specs.NumberLaws.{length_put, get_put_same, get_put_other}
use Rattle.octets.specs.Words.{words_at, put_words}

pub length_put_words : (n : ℕ) (l : List ℕ) (at : ℕ) (ws : List ℕ) → length (put_words n l at ws) ≡ length l
unfolding put_words
length_put_words zero l at ws = refl
length_put_words (suc n) l at ws =
    length_put 4 (put_words n l at ws) (at + 4 * n) (get_or ws n 0) ∙ length_put_words n l at ws

pub length_words : (n : ℕ) (l : List ℕ) (at : ℕ) → length (words_at n l at) ≡ n
unfolding words_at
length_words zero l at = refl
length_words (suc n) l at =
    length-append (words_at n l at) (get 4 l (at + 4 * n) ∷ []) ∙ omega (arith, length_words n l at)

-- each word
pub word_at : (n : ℕ) (l : List ℕ) (at j : ℕ) → j < n → get_or (words_at n l at) j 0 ≡ get 4 l (at + 4 * j)
unfolding words_at
word_at zero l at j h = absurd (not-suc-le-zero h)
word_at (suc n) l at j h = go (dec_lt j n) (λ p. word_at n l at j p)
  where
    go : Dec (j < n) → (j < n → get_or (words_at n l at) j 0 ≡ get 4 l (at + 4 * j))
        → get_or (words_at n l at ++ (get 4 l (at + 4 * n) ∷ [])) j 0 ≡ get 4 l (at + 4 * j)
    go (yes p) ih =
        get_or-append (words_at n l at) (get 4 l (at + 4 * n) ∷ []) 0 j (omega (arith, length_words n l at)) ∙ ih p
    go (no p) ih =
        let e : j ≡ n = omega arith in
        rw e (get_or_at (words_at n l at) (get 4 l (at + 4 * n)) [] 0 n (length_words n l at))

-- a number apart from the words is as it was
pub get_words_other : (n w : ℕ) (l : List ℕ) (at b : ℕ) (ws : List ℕ) → Apart b w at (4 * n)
    → get w (put_words n l at ws) b ≡ get w l b
unfolding put_words
get_words_other zero w l at b ws h = refl
get_words_other (suc n) w l at b ws h =
    get_put_other 4 w (put_words n l at ws) (at + 4 * n) b (get_or ws n 0) (λ p q. h (omega arith) (omega arith))
    ∙ get_words_other n w l at b ws (λ p q. h (omega arith) q)

-- and a word among them is the one that was stored
pub get_words_same : (n : ℕ) (l : List ℕ) (at j : ℕ) (ws : List ℕ) → at + 4 * n ≤ length l → j < n
    → get_or ws j 0 < 256 ^ 4
    → get 4 (put_words n l at ws) (at + 4 * j) ≡ get_or ws j 0
unfolding put_words
get_words_same zero l at j ws b h s = absurd (not-suc-le-zero h)
get_words_same (suc n) l at j ws b h s = go (dec_lt j n) (λ p. get_words_same n l at j ws (omega arith) p s)
  where
    go : Dec (j < n) → (j < n → get 4 (put_words n l at ws) (at + 4 * j) ≡ get_or ws j 0)
        → get 4 (put 4 (put_words n l at ws) (at + 4 * n) (get_or ws n 0)) (at + 4 * j) ≡ get_or ws j 0
    go (yes p) ih =
        get_put_other 4 4 (put_words n l at ws) (at + 4 * n) (at + 4 * j) (get_or ws n 0) (λ q r. omega arith) ∙ ih p
    go (no p) ih =
        let e : j ≡ n = omega arith in
        rw e (get_put_same 4 (put_words n l at ws) (at + 4 * n) (get_or ws n 0) (omega (arith, length_put_words n l at ws))
        (rw e at s))

-- the words all fit 32 bits
abbrev pub Small : List ℕ → Type 0
Small [] = Unit {0}
Small (w ∷ ws) = (w < 256 ^ 4) × Small ws

pub small_at : (ws : List ℕ) (j : ℕ) → Small ws → get_or ws j 0 < 256 ^ 4
small_at [] j h = omega arith
small_at (w ∷ ws) zero h = h.0
small_at (w ∷ ws) (suc j) h = small_at ws j h.1

pub words_same : (n : ℕ) (l : List ℕ) (at : ℕ) (ws : List ℕ) → length ws ≡ n → at + 4 * n ≤ length l → Small ws
    → words_at n (put_words n l at ws) at ≡ ws
words_same n l at ws e b s =
    ext_get_or 0 (words_at n (put_words n l at ws) at) ws (length_words n (put_words n l at ws) at ∙ sym e)
    (λ i h. let p : i < n = omega (arith, length_words n (put_words n l at ws) at) in
    word_at n (put_words n l at ws) at i p ∙ get_words_same n l at i ws b p (small_at ws i s))

pub words_other : (m n : ℕ) (l : List ℕ) (at b : ℕ) (ws : List ℕ) → Apart b (4 * m) at (4 * n)
    → words_at m (put_words n l at ws) b ≡ words_at m l b
unfolding words_at
words_other zero n l at b ws h = refl
words_other (suc m) n l at b ws h =
    rw (
      words_other m n l at b ws (λ p q. h p (omega arith)),
      get_words_other n 4 l at (b + 4 * m) ws
          (λ p q. h (omega arith) (omega arith)),
    )

-- ---- the loops

pub put_more : (n : ℕ) (l a b : List ℕ) (at : ℕ) (ws : List ℕ) → b ≡ put 4 a (at + 4 * n) (get_or ws n 0)
    → a ≡ put_words n l at ws → b ≡ put_words (n + 1) l at ws
unfolding put_words
put_more n l a b at ws p q = rw (add-one n, sym q) p

pub put_none : (l : List ℕ) (at : ℕ) (ws : List ℕ) → l ≡ put_words 0 l at ws
unfolding put_words
put_none l at ws = refl

-- the first k words are read, and the rest is as it was
pub load_more : (k w : ℕ) (l a ws : List ℕ) (at : ℕ) → k < length ws → w ≡ get 4 l (at + 4 * k)
    → a ≡ words_at k l at ++ drop k ws → set a k w ≡ words_at (k + 1) l at ++ drop (k + 1) ws
unfolding words_at
load_more k w l a ws at h p q =
    rw (q, p, add-one k, drop-cons ws k 0 h, append_snoc (words_at k l at) (get 4 l (at + 4 * k)) (drop (suc k) ws))
    (set_at (words_at k l at) (get_or ws k 0) (drop (suc k) ws) (get 4 l (at + 4 * k)) k (length_words k l at))

pub load_none : (l ws : List ℕ) (at : ℕ) → ws ≡ words_at 0 l at ++ drop 0 ws
unfolding words_at
load_none l ws at = refl
