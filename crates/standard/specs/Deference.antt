-- The Deference process (4.2.8). Assumes nothing.
use Rattle.std.specs.Prelude.{true, false, not, ◌||◌}
use Rattle.sheet_layout.specs.declared.Figures.{Figures}
use Rattle.standard.specs.Language.{Statement, ◌≔◌, skip, ◌⨾◌, test, while, repeat, cycle, flag, deferring}
use Rattle.standard.specs.Language.{was_transmitting, transmitting, frame_waiting}
use Rattle.standard.specs.Reading.{carrier_sense, nothing, start_real_time_delay, real_time_delay}

-- watch for a carrier
abbrev pub watch_carrier : Statement
watch_carrier = while (λ s. not (carrier_sense s)) nothing

-- a frame passes
abbrev pub pass_frame : Statement
pass_frame =
    while (λ s. carrier_sense s || flag transmitting s)
    (was_transmitting ≔ (λ s. flag was_transmitting s || flag transmitting s) ⨾ nothing)

-- the first part of the gap after a transmission of its own
abbrev pub first_part_own : Figures → Statement
first_part_own f = start_real_time_delay ⨾ while (real_time_delay f.gap1) nothing

-- and after others: it starts again with a carrier
abbrev pub restart : Statement
restart = while carrier_sense (nothing ⨾ start_real_time_delay)

abbrev pub first_part : Figures → Statement
first_part f =
    repeat (restart ⨾ test (real_time_delay f.gap1) nothing skip) (λ s. not (real_time_delay f.gap1 s))

abbrev pub first_part_other : Figures → Statement
first_part_other f = start_real_time_delay ⨾ first_part f

-- the second part
abbrev pub second_part : Figures → Statement
second_part f = while (real_time_delay f.gap2) nothing

-- new transmissions may start, and a waiting one does
abbrev pub let_start : Statement
let_start = deferring ≔ (λ s. false) ⨾ while (flag frame_waiting) nothing

abbrev pub last_gap : Figures → Statement
last_gap f = start_real_time_delay ⨾ second_part f ⨾ let_start

abbrev pub gap : Figures → Statement
gap f = test (flag was_transmitting) (first_part_own f) (first_part_other f) ⨾ last_gap f

abbrev pub busy : Figures → Statement
busy f = deferring ≔ (λ s. true) ⨾ was_transmitting ≔ flag transmitting ⨾ pass_frame ⨾ gap f

abbrev pub deference : Figures → Statement
deference f = cycle (watch_carrier ⨾ busy f)
