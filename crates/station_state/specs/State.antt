-- The state of a station: the number in a transmitter's phase, and how many counters it has. Assumes nothing.
use Rattle.std.specs.Prelude.{ℕ}
use Rattle.station_state.specs.declared.Transmitter.{Transmitter}
use Rattle.station_state.specs.declared.Transmitter.TheVariants.{NoFrame, Waiting, BackingOff, Sending, Heading}
use Rattle.station_state.specs.declared.Transmitter.TheVariants.{Jamming}

-- the number that a phase carries
abbrev pub number_in : Transmitter → ℕ
number_in NoFrame = 0
number_in Waiting = 0
number_in (BackingOff w) = w
number_in (Sending k) = k
number_in (Heading k) = k
number_in (Jamming n ends) = n

-- the counters of a station
abbrev pub counter_count : ℕ
counter_count = 17
