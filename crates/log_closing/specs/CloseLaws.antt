-- A law for each way through the code that makes the answer. Assumes nothing.
use Rattle.std.specs.Prelude.{ℕ, ◌+◌, ◌*◌, ◌<◌, ◌≤◌, ◌≡◌, refl, Bool, true, false, List, ◌++◌, length, take, drop, Ok, Err}
use Rattle.std.proofs.Common.{sym, ◌∙◌, ap, zero-add, arith, length-take-le}
use Rattle.std.proofs.lemmas.List.Edits.{sets, sets-eq}
use Rattle.std.proofs.lemmas.Bool.Decides.{nat_tests}
use Rattle.std.proofs.lemmas.Result.{err_from_is_err_and}
use borrow.Author.Tests.{lt-ltb, le-ltb, le-leb, lt-leb, ne_eqb}
use Rattle.octets.specs.Base.{some, refusal_number, done_answer, outcome}
use Rattle.octets.specs.BaseLaws.{some_none, some_more, some_hit, some_end, refusal_numbered}
use Rattle.octets.specs.declared.Refusal.{Refusal}
use Rattle.station_tally.specs.Words.{word_count}
use Rattle.log_entry.specs.Log.{max_windows, cell_count, window_count, station_of, first_of, past_of, astray_window}
use Rattle.log_entry.specs.Log.{reversed_window, refusal_in, answered}
use Rattle.log_entry.specs.declared.State.{State}
use Rattle.log_closing.specs.Close.{closed_of}

-- ---- the searches among the windows

module _ (ws : List ℕ) (m w : ℕ) where
  pub astray_more : (n : ℕ) → station_of ws w < n → some (astray_window n ws) w ≡ false
      → some (astray_window n ws) (w + 1) ≡ false
  astray_more n h s = some_more (astray_window n ws) w false (sym (lt-leb n (station_of ws w) h)) refl s

  pub astray_hit : (n : ℕ) → w < m → n ≤ station_of ws w → true ≡ some (astray_window n ws) m
  astray_hit n b h = some_hit (astray_window n ws) m w true (sym (le-leb n (station_of ws w) h)) refl b

  pub reversed_more : first_of ws w ≤ past_of ws w → some (reversed_window ws) w ≡ false
      → some (reversed_window ws) (w + 1) ≡ false
  reversed_more h s = some_more (reversed_window ws) w false (sym (le-ltb (past_of ws w) (first_of ws w) h)) refl s

  pub reversed_hit : w < m → past_of ws w < first_of ws w → true ≡ some (reversed_window ws) m
  reversed_hit b h = some_hit (reversed_window ws) m w true (sym (lt-ltb (past_of ws w) (first_of ws w) h)) refl b

pub ruleset searches = (some_none, some_end, astray_more, astray_hit, reversed_more, reversed_hit)

-- where there is no refusal there are at most 64 windows, and the output has room
pub few_windows : (ws : List ℕ) (n : ℕ) (strays fall : Bool) (room : ℕ) → 0 ≡ refusal_in ws n strays fall room
    → window_count ws ≤ max_windows
unfolding refusal_in
few_windows ws n strays fall room p = grind (arith, nat_tests)

pub room_for : (ws : List ℕ) (n : ℕ) (strays fall : Bool) (room : ℕ) → 0 ≡ refusal_in ws n strays fall room
    → word_count * window_count ws ≤ room
unfolding refusal_in
room_for ws n strays fall room p = grind (arith, nat_tests)

-- ---- the answer

module _ (ws : List ℕ) (s : State) (out : List ℕ) where
  pub closed_refused : (e : Refusal) → refusal_number e ≡ refusal_in ws s.stations s.astray s.falls (length out)
      → outcome (done_answer (Err e)) out ≡ closed_of ws s out
  unfolding closed_of answered
  closed_refused e p = rw (sym p, ne_eqb (refusal_number e) 0 (refusal_numbered e))

  pub closed_made : (new : List ℕ) (k : ℕ) → 0 ≡ refusal_in ws s.stations s.astray s.falls (length out)
      → k ≡ window_count ws * word_count → length s.counts ≡ cell_count → new ≡ take k s.counts
      → outcome (done_answer (Ok tt)) (new ++ drop k out) ≡ closed_of ws s out
  unfolding closed_of answered
  closed_made new k p e h q =
      let few = few_windows ws s.stations s.astray s.falls (length out) p in
      let room = room_for ws s.stations s.astray s.falls (length out) p in
      let m : k ≡ word_count * window_count ws = omega arith in
      let l : length new ≡ k = ap length q ∙ length-take-le k s.counts (omega arith) in
      let t : new ++ drop k out ≡ sets out 0 new = rw (sets-eq new out 0 (omega arith), zero-add (length new), l) in
      rw (sym p, t, q, m)

pub ruleset closings = (few_windows, room_for, closed_refused, closed_made, length-take-le, err_from_is_err_and)
