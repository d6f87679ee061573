-- One entry, seen from one cell of the counts: it grows by one where the cell's window holds the entry and the cell's
-- word is the entry's. Assumes nothing.
use Rattle.std.specs.Prelude.{◌≡◌, refl, ℕ, zero, suc, ◌+◌, ◌*◌, ◌/◌, ◌%◌, ◌<◌, Bool, true, false, ◌&&◌, List, ltb, eqb, length, get_or}
use Rattle.std.proofs.Common.{sym, ◌∙◌, ap, arith, length-set, get_or-set_same, get_or-set_other, lt-ltb, le-ltb, eq-eqb, ne_eqb, ltb-true, ltb-false}
use Rattle.octets.specs.Base.{pick}
use Rattle.octets.specs.BaseLaws.{by_test, by_eq}
use Rattle.octets.specs.Turns.{turns}
use Rattle.station_tally.specs.Words.{word_count}
use Rattle.log_entry.specs.Log.{cell_count, window_count, holds}
use Rattle.log_windows.specs.Grow.{capped, added, used, added_all}

-- the test that cell c of a table with m windows makes of an entry
abbrev pub hit : List ℕ → ℕ → ℕ → ℕ → ℕ → ℕ → Bool
hit ws m t i j c = ltb (c / word_count) m && (holds ws (c / word_count) t i && eqb j (c % word_count))

abbrev pub grown : Bool → ℕ → ℕ
grown b x = pick b (capped x) x

and_false : (a : Bool) → (a && false) ≡ false
and_false true = refl
and_false false = refl

-- a window more: the cells of other windows make the same test, and so do those of this one where it does not hold the
-- entry or the word is another
same_below : (ws : List ℕ) (m t i j c : ℕ) → (c / word_count ≡ m → ⊥) → hit ws (suc m) t i j c ≡ hit ws m t i j c
same_below ws m t i j c ne =
    by_test (ltb (c / word_count) m)
    (λ e. rw (e, lt-ltb (c / word_count) (suc m) (let h = ltb-true (c / word_count) m e in omega arith)))
    (λ e. rw (e, le-ltb (c / word_count) (suc m) (let h = ltb-false (c / word_count) m e in omega (arith, ne))))

none_here : (ws : List ℕ) (m t i j c : ℕ) → (holds ws (c / word_count) t i && eqb j (c % word_count)) ≡ false
    → hit ws (suc m) t i j c ≡ hit ws m t i j c
none_here ws m t i j c e = rw e (and_false (ltb (c / word_count) (suc m)) ∙ sym (and_false (ltb (c / word_count) m)))

not_held : (ws : List ℕ) (m t i j c : ℕ) → holds ws m t i ≡ false → hit ws (suc m) t i j c ≡ hit ws m t i j c
not_held ws m t i j c e = by_eq (c / word_count) m (λ z. none_here ws m t i j c (rw (z, e))) (same_below ws m t i j c)

other_cell : (ws : List ℕ) (m t i j c : ℕ) → (c ≡ word_count * m + j → ⊥) → hit ws (suc m) t i j c ≡ hit ws m t i j c
other_cell ws m t i j c ne =
    by_eq (c / word_count) m (λ z. none_here ws m t i j c
    (rw (ne_eqb j (c % word_count) (λ y. ne (omega arith))) (and_false (holds ws (c / word_count) t i))))
    (same_below ws m t i j c)

-- the cell itself
this_cell : (ws : List ℕ) (m t i j c : ℕ) → holds ws m t i ≡ true → j < word_count → c ≡ word_count * m + j
    → hit ws (suc m) t i j c ≡ true
this_cell ws m t i j c e h z =
    let y : c / word_count ≡ m = omega arith in
    let r : j ≡ c % word_count = omega arith in
    rw (eq-eqb j (c % word_count) r, y, e, lt-ltb m (suc m) (omega arith))

not_yet : (ws : List ℕ) (m t i j c : ℕ) → j < word_count → c ≡ word_count * m + j → hit ws m t i j c ≡ false
not_yet ws m t i j c h z = rw (le-ltb (c / word_count) m (omega arith))

turns_length : (ws l : List ℕ) (t i j m : ℕ) → length (turns (λ w x. added ws t i j w x) m l) ≡ length l
unfolding turns added
turns_length ws l t i j zero = refl
turns_length ws l t i j (suc m) =
    by_test (holds ws m t i)
    (λ e. rw e (length-set (turns (λ w x. added ws t i j w x) m l) (word_count * m + j) _ ∙ turns_length ws l t i j m))
    (λ e. rw e (turns_length ws l t i j m))

-- window m, seen from cell c, where x are the counts after the windows below m
cell_step : (ws l x : List ℕ) (t i j c m : ℕ) → j < word_count → c < length x
    → get_or x c 0 ≡ grown (hit ws m t i j c) (get_or l c 0)
    → get_or (added ws t i j m x) c 0 ≡ grown (hit ws (suc m) t i j c) (get_or l c 0)
unfolding added
cell_step ws l x t i j c m h b ih =
    by_test (holds ws m t i)
    (λ e. by_eq c (word_count * m + j)
    (λ z. rw (this_cell ws m t i j c e h z, e, sym z)
    (get_or-set_same x c (capped (get_or x c 0)) 0 b ∙ ap capped
    (ih ∙ ap (λ y. grown y (get_or l c 0)) (not_yet ws m t i j c h z))))
    (λ ne. rw (other_cell ws m t i j c ne, e) (get_or-set_other x (word_count * m + j) c _ 0 ne ∙ ih)))
    (λ e. rw (not_held ws m t i j c e, e) ih)

-- m windows, seen from cell c
cell : (ws l : List ℕ) (t i j c m : ℕ) → j < word_count → c < length l
    → get_or (turns (λ w x. added ws t i j w x) m l) c 0 ≡ grown (hit ws m t i j c) (get_or l c 0)
unfolding turns
cell ws l t i j c zero h b = rw (le-ltb (c / word_count) 0 (omega arith))
cell ws l t i j c (suc m) h b =
    cell_step ws l (turns (λ w x. added ws t i j w x) m l) t i j c m h (rw (turns_length ws l t i j m) b)
    (cell ws l t i j c m h b)

pub all_length : (ws l : List ℕ) (t i j : ℕ) → length (added_all ws t i j l) ≡ length l
unfolding added_all
all_length ws l t i j = turns_length ws l t i j (used ws)

-- a cell of the table has one of 64 windows: where it has a place, the number of windows is the one that the log is
-- looked up for
used_is : (ws : List ℕ) (c : ℕ) → c < cell_count → ltb (c / word_count) (used ws) ≡ ltb (c / word_count) (window_count ws)
unfolding used
used_is ws c b =
    by_test (ltb (c / word_count) (window_count ws))
    (λ e. let h = ltb-true (c / word_count) (window_count ws) e
    in lt-ltb (c / word_count) (used ws) (omega arith) ∙ sym e)
    (λ e. let h = ltb-false (c / word_count) (window_count ws) e
    in le-ltb (c / word_count) (used ws) (omega arith) ∙ sym e)

-- all windows, seen from cell c
pub all_cell : (ws l : List ℕ) (t i j c : ℕ) → j < word_count → c < cell_count → length l ≡ cell_count
    → get_or (added_all ws t i j l) c 0 ≡ grown (hit ws (window_count ws) t i j c) (get_or l c 0)
unfolding added_all
all_cell ws l t i j c h b e =
    cell ws l t i j c (used ws) h (omega arith)
    ∙ ap (λ y. grown (y && (holds ws (c / word_count) t i && eqb j (c % word_count))) (get_or l c 0)) (used_is ws c b)
