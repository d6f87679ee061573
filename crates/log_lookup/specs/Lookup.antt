-- A lookup of many windows in one log (document 02, N14), from the definitions of log_entry/Log. Assumes nothing.
use Rattle.std.specs.Prelude.{ℕ, List, length}
use Rattle.octets.specs.Base.{Outcome}
use Rattle.log_entry.specs.Log.{answers, astray, falls, refusal_in, answered}
use Rattle.log_entry.specs.declared.Entry.{Entry}

-- the windows ws over the log es of N stations: the answer, and the lent output afterwards. The first entry has none
-- before it, so its time falls below none
unfoldable pub looked_up : (n : ℕ) (ws : List ℕ) (es : List Entry) (out : List ℕ) → Outcome
looked_up n ws es out = answered (refusal_in ws n (astray n es) (falls 0 es) (length out)) (answers ws es) out
