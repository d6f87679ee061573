-- The state after all entries of a log: what it says of them, and that its counts are those of each window looked up
-- alone. Assumes nothing.
use Rattle.std.specs.Prelude.{ℕ, zero, suc, ◌+◌, ◌*◌, ◌/◌, ◌%◌, ◌<◌, ◌≤◌, min, ◌≡◌, refl, Bool, true, false, ◌&&◌, ◌||◌, List, [], ◌∷◌, ltb, leb, eqb, length, get_or, take, drop}
use Rattle.std.proofs.Common.{sym, ◌∙◌, ap, zero-add, add-one, arith, ext_get_or, get_or-take, length-take-le, lt-ltb}
use Rattle.std.proofs.lemmas.List.{length-replicate, get_or-replicate}
use Rattle.octets.specs.Base.{pick}
use Rattle.octets.specs.Table.{tabulated, entry}
use Rattle.station_tally.specs.Words.{word_count}
use Rattle.log_entry.specs.Log.{word_of, max_windows, cell_count, window_count, holds, count, alone, answers}
use Rattle.log_entry.specs.Log.{astray, falls}
use Rattle.log_entry.specs.declared.Entry.{Entry}
use Rattle.log_entry.specs.declared.Event.{Event}
use Rattle.log_entry.specs.declared.Event.TheVariants.{Collision, Late, Sent, GivenUp, LateEnd, GotOk, GotTooLong}
use Rattle.log_entry.specs.declared.Event.TheVariants.{GotAlignment, GotCheck, GotLength}
use Rattle.log_entry.specs.declared.State.{State}
use Rattle.log_windows.specs.Grow.{capped, opened_of, entered_of, over}
use Rattle.log_windows.specs.Cells.{hit, grown, all_length, all_cell}

word_small : (v : Event) → word_of v < word_count
word_small (Collision x) = omega arith
word_small (Late x) = omega arith
word_small (Sent x) = omega arith
word_small (GivenUp x) = omega arith
word_small (LateEnd x) = omega arith
word_small (GotOk x) = omega arith
word_small (GotTooLong x) = omega arith
word_small (GotAlignment x) = omega arith
word_small (GotCheck x) = omega arith
word_small (GotLength x) = omega arith

-- ---- one entry after the other, as a loop over the log goes

-- what stands past the end of a log
abbrev pub none : Entry
none = record { time = 0; station = 0; event = Collision 0 }

over_suc : (ws : List ℕ) (s : State) (es : List Entry) (k : ℕ) → k < length es
    → over ws s (drop k es) ≡ over ws (entered_of ws s (get_or es k none)) (drop (suc k) es)
unfolding over
over_suc ws s [] k h = absurd (omega arith)
over_suc ws s (e ∷ es) zero h = refl
over_suc ws s (e ∷ es) (suc k) h = over_suc ws s es k (omega arith)

pub over_next : (ws : List ℕ) (s : State) (es : List Entry) (k : ℕ) → k < length es
    → over ws s (drop k es) ≡ over ws (entered_of ws s (get_or es k none)) (drop (k + 1) es)
over_next ws s es k h = rw (add-one k) (over_suc ws s es k h)

pub over_end : (ws : List ℕ) (s : State) (es : List Entry) (k : ℕ) → length es ≤ k → over ws s (drop k es) ≡ s
unfolding over
over_end ws s [] zero h = refl
over_end ws s [] (suc k) h = refl
over_end ws s (e ∷ es) zero h = absurd (omega arith)
over_end ws s (e ∷ es) (suc k) h = over_end ws s es k (omega arith)

-- ---- the fields of the state after a list

or_assoc : (a b c : Bool) → ((a || b) || c) ≡ (a || (b || c))
or_assoc true b c = refl
or_assoc false b c = refl

or_false : (a : Bool) → a ≡ (a || false)
or_false true = refl
or_false false = refl

pub over_stations : (ws : List ℕ) (s : State) (es : List Entry) → (over ws s es).stations ≡ s.stations
unfolding over entered_of
over_stations ws s [] = refl
over_stations ws s (e ∷ es) = over_stations ws (entered_of ws s e) es

pub over_astray : (ws : List ℕ) (s : State) (es : List Entry)
    → (over ws s es).astray ≡ (s.astray || astray s.stations es)
unfolding over entered_of astray
over_astray ws s [] = or_false s.astray
over_astray ws s (e ∷ es) =
    over_astray ws (entered_of ws s e) es
    ∙ or_assoc s.astray (leb s.stations e.station) (astray s.stations es)

pub over_falls : (ws : List ℕ) (s : State) (es : List Entry) → (over ws s es).falls ≡ (s.falls || falls s.last es)
unfolding over entered_of falls
over_falls ws s [] = or_false s.falls
over_falls ws s (e ∷ es) =
    over_falls ws (entered_of ws s e) es ∙ or_assoc s.falls (ltb e.time s.last) (falls e.time es)

over_length : (ws : List ℕ) (s : State) (es : List Entry) → length (over ws s es).counts ≡ length s.counts
unfolding over entered_of
over_length ws s [] = refl
over_length ws s (e ∷ es) =
    over_length ws (entered_of ws s e) es ∙ all_length ws s.counts e.time e.station (word_of e.event)

-- ---- a count after a list

-- k times one more
raised : ℕ → ℕ → ℕ
raised zero x = x
raised (suc k) x = raised k (capped x)

-- one more than x, k times, is the sum of the two, and the top where that passes it
raised_is : (k x : ℕ) → x ≤ 4294967295 → raised k x ≡ min (x + k) 4294967295
unfolding raised capped
raised_is zero x h = omega arith
raised_is (suc k) x h = raised_is k (min (x + 1) 4294967295) (omega arith) ∙ omega arith

abbrev hits : List ℕ → ℕ → Entry → Bool
hits ws c e = hit ws (window_count ws) e.time e.station (word_of e.event) c

raised_more : (b : Bool) (k x : ℕ) → raised k (grown b x) ≡ raised (pick b (suc k) k) x
unfolding raised
raised_more true k x = refl
raised_more false k x = refl

over_cell : (ws : List ℕ) (s : State) (es : List Entry) (c : ℕ) → c < cell_count → length s.counts ≡ cell_count
    → get_or (over ws s es).counts c 0 ≡ raised (count (hits ws c) es) (get_or s.counts c 0)
unfolding over entered_of count raised
over_cell ws s [] c b h = refl
over_cell ws s (e ∷ es) c b h =
    over_cell ws (entered_of ws s e) es c b (all_length ws s.counts e.time e.station (word_of e.event) ∙ h)
    ∙ ap (raised (count (hits ws c) es))
    (all_cell ws s.counts e.time e.station (word_of e.event) c (word_small e.event) b h)
    ∙ raised_more (hits ws c e) (count (hits ws c) es) (get_or s.counts c 0)

-- a count is that of its window looked up alone
cell_alone : (ws : List ℕ) (es : List Entry) (c : ℕ) → c / word_count < window_count ws
    → min (count (hits ws c) es) 4294967295 ≡ alone ws (c / word_count) (c % word_count) es
unfolding alone
cell_alone ws es c h =
    ap (λ y. min (count (λ x. y && (holds ws (c / word_count) x.time x.station
    && eqb (word_of x.event) (c % word_count))) es) 4294967295) (lt-ltb (c / word_count) (window_count ws) h)

-- ---- the counts after the whole log

abbrev fresh : ℕ → List ℕ → List Entry → List ℕ
fresh n ws es = (over ws (opened_of n) es).counts

fresh_cell : (n : ℕ) (ws : List ℕ) (es : List Entry) (c : ℕ) → c < cell_count → c / word_count < window_count ws
    → get_or (fresh n ws es) c 0 ≡ alone ws (c / word_count) (c % word_count) es
unfolding opened_of
fresh_cell n ws es c b h =
    over_cell ws (opened_of n) es c b (length-replicate {A = ℕ} cell_count 0)
    ∙ ap (raised (count (hits ws c) es)) (get_or-replicate {A = ℕ} cell_count c 0 0 b)
    ∙ raised_is (count (hits ws c) es) 0 (omega arith)
    ∙ ap (λ x. min x 4294967295) (zero-add (count (hits ws c) es))
    ∙ cell_alone ws es c h

fresh_length : (n : ℕ) (ws : List ℕ) (es : List Entry) → length (fresh n ws es) ≡ cell_count
unfolding opened_of
fresh_length n ws es = over_length ws (opened_of n) es ∙ length-replicate {A = ℕ} cell_count 0

length_tabulated : (f : ℕ → ℕ) (i n : ℕ) → length (tabulated f i n) ≡ n
length_tabulated f i zero = refl
length_tabulated f i (suc n) = ap suc (length_tabulated f (suc i) n)

-- "each answer is that of the window looked up alone"
pub fresh_is : (n : ℕ) (ws : List ℕ) (es : List Entry) → window_count ws ≤ max_windows
    → take (word_count * window_count ws) (fresh n ws es) ≡ answers ws es
unfolding answers
fresh_is n ws es h =
    ext_get_or 0 (take (word_count * window_count ws) (fresh n ws es)) _
    (long ∙ sym (length_tabulated _ 0 (word_count * window_count ws)))
    (λ c b. let g : c < word_count * window_count ws = omega (arith, b, long) in
    get_or-take (word_count * window_count ws) (fresh n ws es) c 0 g
    ∙ fresh_cell n ws es c (omega arith) (omega arith)
    ∙ sym (entry (λ d. alone ws (d / word_count) (d % word_count) es) 0 (word_count * window_count ws) c g))
  where
    long : length (take (word_count * window_count ws) (fresh n ws es)) ≡ word_count * window_count ws
    long = length-take-le (word_count * window_count ws) (fresh n ws es) (omega (arith, fresh_length n ws es))
