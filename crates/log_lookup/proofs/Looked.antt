-- The answer from the state after all entries is the one that each window looked up alone gives. Assumes nothing.
use Rattle.std.specs.Prelude.{ℕ, ◌*◌, ◌≤◌, ◌≡◌, Bool, true, ◌||◌, List, ltb, length, take, drop}
use Rattle.std.proofs.Common.{sym, ◌∙◌, ap, ltb-false}
use Rattle.octets.specs.Base.{some}
use Rattle.octets.specs.BaseLaws.{by_test}
use Rattle.station_tally.specs.Words.{word_count}
use Rattle.log_entry.specs.Log.{max_windows, window_count, astray_window, astray, falls, refusal_in, answered}
use Rattle.log_entry.specs.declared.Entry.{Entry}
use Rattle.log_entry.specs.declared.State.{State}
use Rattle.log_windows.specs.Grow.{opened_of, over}
use Rattle.log_windows.specs.Whole.{over_next, over_end, over_stations, over_astray, over_falls, fresh_is}
use Rattle.log_closing.specs.Close.{closed_of}
use Rattle.log_lookup.specs.Lookup.{looked_up}

-- with more than 64 windows the counts do not matter
many : (ws : List ℕ) (n : ℕ) (strays fall : Bool) (room : ℕ) (c d out : List ℕ)
    → ltb max_windows (window_count ws) ≡ true
    → answered (refusal_in ws n strays fall room) c out ≡ answered (refusal_in ws n strays fall room) d out
unfolding refusal_in answered
many ws n strays fall room c d out h =
    by_test (some (astray_window n ws) (window_count ws) || strays) (λ e. rw e) (λ e. rw (e, h))

-- the state after the whole log
pub whole : (n : ℕ) (ws : List ℕ) (es : List Entry) (out : List ℕ)
    → closed_of ws (over ws (opened_of n) es) out ≡ looked_up n ws es out
unfolding closed_of looked_up opened_of
whole n ws es out =
    (λ i. answered (refusal_in ws (over_stations ws (opened_of n) es i) (over_astray ws (opened_of n) es i)
    (over_falls ws (opened_of n) es i) (length out))
    (take (word_count * window_count ws) (over ws (opened_of n) es).counts) out)
    ∙ by_test (ltb max_windows (window_count ws))
    (many ws n (astray n es) (falls 0 es) (length out) _ _ out)
    (λ e. ap (λ c. answered (refusal_in ws n (astray n es) (falls 0 es) (length out)) c out)
    (fresh_is n ws es (ltb-false max_windows (window_count ws) e)))

pub looked : (ws : List ℕ) (s : State) (es : List Entry) (n k : ℕ) (out : List ℕ) → length es ≤ k
    → over ws s (drop k es) ≡ over ws (opened_of n) es → closed_of ws s out ≡ looked_up n ws es out
looked ws s es n k out h e = ap (λ x. closed_of ws x out) (sym (over_end ws s es k h) ∙ e) ∙ whole n ws es out

pub ruleset lookups = (over_next, over_end, whole)
