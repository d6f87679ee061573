-- The C interface: the marks. A name is a number of 64 bits, its eight octets high octet first. Assumes nothing.
use Rattle.std.specs.Prelude.{ℕ, List}
use Rattle.octets.specs.Number.{spelled}
use Rattle.marks.specs.Marks.{name_size, marked, returned, dropped}
use Rattle.c_calls.specs.Calls.{Given, code_given}

-- 0, and the store; refusals 1, 2, 15, 18
unfoldable pub mark_given : (area store : List ℕ) (name : ℕ) → Given
mark_given a s n = code_given (marked a s (spelled name_size n))

-- 0, and the area; refusals 1, 15, 17, 2
unfoldable pub return_given : (area store : List ℕ) (name : ℕ) → Given
return_given a s n = code_given (returned a s (spelled name_size n))

-- 0, and the store; refusals 15, 17
unfoldable pub drop_given : (store : List ℕ) (name : ℕ) → Given
drop_given s n = code_given (dropped s (spelled name_size n))
