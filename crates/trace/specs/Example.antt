-- A layout that meets what the theorems ask for, so that they say something: two stations, ten bit times apart. Assumes
-- nothing.
use Rattle.std.specs.Prelude.{ℕ, ◌+◌, ◌-◌, ◌*◌, ◌≤◌, ◌≡◌, refl, replicate}
use Rattle.std.proofs.Common.{arith}
use Rattle.std.proofs.lemmas.List.{length-replicate}
use Rattle.frame_build.specs.Limits.{max_data, refuses_value, refuses_data, buffer_octets}
use Rattle.sheet_layout.specs.declared.Figures.{Figures}
use Rattle.sheet_layout.specs.Layout.{gap_of}
use Rattle.sheet_layout.specs.CheckLaws.{Figured}
use Rattle.trace.specs.Trace.{Metric}
use Rattle.bus_meeting.specs.Net.{Net}
use Rattle.trace.specs.World.{Offer}
use Rattle.trace.specs.Run.{Sound}
use Rattle.trace.specs.Frames.{octets_replicate}
use Rattle.station_spec.specs.Transmit.{shortest_packet}

abbrev pub figures : Figures
figures = record { slot = 512; gap1 = 64; gap2 = 32; jam = 32; limit = 16; backoff = 10; ends = 0 }

abbrev pub two : Net
two =
    record {
      n = 2;
      fig = figures;
      depth = 1;
      draw = λ i k. i;
      address = λ i. replicate 6 i;
      d = λ i j. (10 * i - 10 * j) + (10 * j - 10 * i);
      blank = λ i. replicate buffer_octets 0;
    }

figured : Figured figures
figured =
    record {
      slot = (omega arith, omega arith);
      gap1 = (omega arith, omega arith);
      gap2 = (omega arith, omega arith);
      jam = (omega arith, omega arith);
      limit = (omega arith, omega arith);
      backoff = (omega arith, omega arith);
      ends = omega arith;
    }

metric : Metric 2 10 two.d
metric =
    record {
      symm = λ i j. omega arith;
      tri = λ i j k. omega arith;
      pos = λ i j hi hj ne. omega (arith, ne);
      wide = λ i j hi hj. omega arith;
    }

pub two_sound : Sound two 10
two_sound =
    record {
      figures = figured;
      depth = omega arith;
      address = λ i hi. refl;
      wide = λ i hi. octets_replicate 6 i (omega arith);
      room = λ i hi. omega (arith, length-replicate {A = ℕ} buffer_octets 0);
      metric = metric;
    }

pub two_fits : (2 * 10 ≤ two.fig.slot) × (2 * 10 ≤ shortest_packet two.fig)
    × (gap_of two.fig ≤ 64 + two.fig.jam)
unfolding gap_of
two_fits = (omega arith, omega arith, omega arith)

-- an offer to station 0 for station 1, with 46 octets of data
pub an_offer : Offer two
unfolding refuses_data refuses_value max_data
an_offer =
    record {
      to = 0;
      destination = replicate 6 1;
      value = 46;
      payload = replicate 46 7;
      six = refl;
      octets = octets_replicate 6 1 (omega arith);
      small = omega arith;
      contents = octets_replicate 46 7 (omega arith);
      allowed = refl;
    }
