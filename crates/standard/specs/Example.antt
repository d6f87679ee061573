-- Bit times computed by the interpreter itself, with the figures of an empty sheet. Assumes nothing.
use Rattle.std.specs.Prelude.{ℕ, zero, suc, ◌≡◌, refl, true, [], ◌∷◌, Option, None, Some}
use Rattle.sheet_layout.specs.declared.Figures.{Figures}
use Rattle.station_symbols.specs.declared.Heard.TheVariants.{Nothing, Clean}
use Rattle.station_symbols.specs.declared.Emission.{Emission}
use Rattle.station_symbols.specs.declared.Emission.TheVariants.{Rest, PacketBit}
use Rattle.station_spec.specs.declared.TransmitEvent.{TransmitEvent}
use Rattle.station_spec.specs.declared.TransmitEvent.TheVariants.{Collision, Sent}
use Rattle.standard.specs.Language.{Draws}
use Rattle.standard.specs.Interpreter.{execute, turn}
use Rattle.standard.specs.Reading.{Machine, Input, Output, goes_on, everyone, passes, begins, bit_time, output_of}
use Rattle.standard.specs.Reading.{executed}
use Rattle.standard.specs.Initialize.{initialize}

-- "if absent": slot 512, gap1 64, gap2 32, jam 32, attempt limit 16, backoff limit 10
abbrev usual : Figures
usual = record { slot = 512; gap1 = 64; gap2 = 32; jam = 32; limit = 16; backoff = 10; ends = 0 }

abbrev zeros : Draws
zeros = record { value = λ k. 0; depth = 1 }

abbrev start : Machine
start = initialize usual [] zeros []

abbrev quietly : Input
quietly = record { offered = 0; heard = Nothing }

abbrev shows : Emission → Option TransmitEvent → Output
shows e v = record { emission = e; sent = v; got = None; stored = None }

-- a frame of 64 octets that is offered to a quiet station goes out at once; another that is heard with bit 3 is its
-- collision, and the header goes on
pub starts_at_once :
    executed start
    (record { offered = 64; heard = Nothing } ∷ quietly ∷ record { offered = 0; heard = Clean true } ∷ quietly ∷ [])
    ≡ (shows (PacketBit 1) None ∷ shows (PacketBit 2) None ∷ shows (PacketBit 3) (Some (Collision 3))
    ∷ shows (PacketBit 4) None ∷ [])
unfolding executed bit_time begins passes everyone goes_on turn execute initialize
starts_at_once = refl

-- a station that hears another defers
pub defers :
    executed start (record { offered = 64; heard = Clean true } ∷ quietly ∷ quietly ∷ [])
    ≡ (shows Rest None ∷ shows Rest None ∷ shows Rest None ∷ [])
unfolding executed bit_time begins passes everyone goes_on turn execute initialize
defers = refl

-- so many quiet bit times
unfoldable pub times : ℕ → Machine → Machine
times zero x = x
times (suc n) x = times n (bit_time quietly x)

-- and starts when the gap of 96 quiet bit times is over, in bit time 97
pub gap_is_over :
    output_of (times 96 (bit_time (record { offered = 64; heard = Clean true }) start)).state ≡ shows Rest None
unfolding times bit_time begins passes everyone goes_on turn execute initialize
gap_is_over = refl

pub gap_then_start :
    output_of (times 97 (bit_time (record { offered = 64; heard = Clean true }) start)).state
    ≡ shows (PacketBit 1) None
unfolding times bit_time begins passes everyone goes_on turn execute initialize
gap_then_start = refl

-- its 576th bit reports sent, after one attempt
pub sent_once :
    output_of (times 575 (bit_time (record { offered = 64; heard = Nothing }) start)).state
    ≡ shows (PacketBit 576) (Some (Sent 1))
unfolding times bit_time begins passes everyone goes_on turn execute initialize
sent_once = refl
