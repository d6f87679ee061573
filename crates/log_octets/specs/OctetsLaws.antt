-- A law for each way through the code that looks up windows in a log of octets. Assumes nothing.
use Rattle.log_closing.specs.Close.{closed_of}
use Rattle.octets.specs.declared.Refusal.{Refusal}
use Rattle.std.specs.Prelude.{ℕ, suc, ◌+◌, ◌-◌, ◌≤◌, ◌<◌, ◌≡◌, refl, true, false, List, ◌/◌, length, Bool, Result, ⊤}
use Rattle.std.proofs.Common.{sym, arith, ap, ◌∙◌}
use Rattle.std.proofs.lemmas.Bool.Decides.{nat_tests}
use Rattle.std.proofs.lemmas.Result.{err_from_is_err_and}
use Rattle.octets.specs.Table.{tabulated}
use Rattle.log_entry.specs.declared.State.{State}
use Rattle.octets.specs.Base.{some, outcome, done_answer}
use Rattle.log_windows.specs.Grow.{entered_of, over, opened_of}
use Rattle.octets.specs.BaseLaws.{some_none, some_more, some_hit, some_end, outside_is}
use Rattle.log_lookup.proofs.Looked.{whole}
use Rattle.log_octets.specs.Octets.{entry_at, unknown_at, entries_of, octets_looked_up}

-- ---- the loop: where the entries from k to m are left

abbrev pub left_of : List ℕ → State → List ℕ → ℕ → ℕ → State
left_of ws s l m k = over ws s (tabulated (entry_at l) k (m - k))

pub left_next : (ws : List ℕ) (s : State) (l : List ℕ) (m k : ℕ) → k < m
    → left_of ws s l m k ≡ left_of ws (entered_of ws s (entry_at l k)) l m (k + 1)
unfolding over
left_next ws s l m k h =
    let a : m - k ≡ suc (m - (k + 1)) = omega arith in
    let b : k + 1 ≡ suc k = omega arith in rw (a, b)

pub left_none : (ws : List ℕ) (s : State) (l : List ℕ) (m k : ℕ) → m ≤ k → left_of ws s l m k ≡ s
unfolding over
left_none ws s l m k h = let a : m - k ≡ 0 = omega arith in rw a

-- ---- the search for an event that stands for nothing

pub known_more : (l : List ℕ) (k : ℕ) → unknown_at l k ≡ false → some (unknown_at l) k ≡ false
    → some (unknown_at l) (k + 1) ≡ false
known_more l k p q = some_more (unknown_at l) k (unknown_at l k) refl p q

pub unknown_hit : (l : List ℕ) (m k : ℕ) → unknown_at l k ≡ true → k < m → some (unknown_at l) m ≡ true
unknown_hit l m k p h = sym (some_hit (unknown_at l) m k (unknown_at l k) refl p h)

-- ---- what the functions' proofs go by: tests of numbers, the loop and its search, what a lookup of entries says

pub ruleset searches = (some_none, some_end, known_more, unknown_hit)

pub ruleset entries = (left_next, left_none)

pub ruleset answers = (whole, nat_tests)

-- ---- a lookup in octets is the lookup of their entries

pub octets_made : (n : ℕ) (ws l out new : List ℕ) (o s : State) (b : Bool) (r : Result ⊤ Refusal)
    → outcome (done_answer r) new ≡ closed_of ws s out → b ≡ some (unknown_at l) (length l / 6) → b ≡ false
    → o ≡ opened_of n → s ≡ over ws o (entries_of l) → outcome (done_answer r) new ≡ octets_looked_up n ws l out
unfolding octets_looked_up over
octets_made n ws l out new o s b r e p f g h =
    rw (sym p, f)
    (e ∙ ap (λ (x : State). closed_of ws x out) (h ∙ ap (λ (x : State). over ws x (entries_of l)) g)
    ∙ whole n ws (entries_of l) out)
