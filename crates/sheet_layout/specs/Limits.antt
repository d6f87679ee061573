-- The numbers that bound a layout, the draws and the clock of a pair. Assumes nothing.
use Rattle.std.specs.Prelude.{ℕ}

-- "N is outside 2..16": the most stations
abbrev pub max_stations : ℕ
max_stations = 16

-- "position (1 octet, ..)": the largest
abbrev pub max_position : ℕ
max_position = 255

-- the largest slot
abbrev pub max_slot : ℕ
max_slot = 512

-- "attempt limit", 1..16: the largest
abbrev pub max_attempts : ℕ
max_attempts = 16

-- "D is outside 1..16": the most draws of a station
abbrev pub max_draws : ℕ
max_draws = 16

-- "Clock plus the bit times asked exceeds 16,777,216."
abbrev pub last_clock : ℕ
last_clock = 16777216
