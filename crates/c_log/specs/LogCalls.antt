-- The C interface: many windows over one log. Assumes nothing.
use Rattle.std.specs.Prelude.{ℕ, List}
use Rattle.log_octets.specs.Octets.{octets_looked_up}
use Rattle.c_calls.specs.Calls.{Given, code_given}

-- 0, and the counts at the front of the output; refusals 5, 10, 16, 20, 21, 15
unfoldable pub windows_given : (log : List ℕ) (n : ℕ) (windows out : List ℕ) → Given
windows_given l n ws out = code_given (octets_looked_up n ws l out)
