-- A law for each way through the code of a step. Assumes nothing.
use Rattle.std.specs.Prelude.{ℕ, ◌≤◌, ◌<◌, ◌≡◌, refl, List, replicate, Option, Some}
use Rattle.std.proofs.Common.{arith}
use Rattle.octets.specs.Filled.{filled_none}
use Rattle.octets.specs.Turns.{turns}
use Rattle.sheet_layout.specs.declared.Figures.{Figures}
use Rattle.station_spec.specs.declared.Stored.{Stored}
use Rattle.bus_spec.specs.declared.Events.{Events}
use Rattle.bus_spec.specs.BitTime.{act_in, turned_in}
use Rattle.bus_spec.specs.BitTime.{events_of, no_events, events_in}
use Rattle.bus_spec.specs.InPlace.{Kept}
use Rattle.frame_build.specs.Limits.{buffer_bits}

pub bit_room : (o : Option Stored) (s : Stored) → o ≡ Some s → Kept o → s.bit < buffer_bits
bit_room o s e h = rw e at h

pub turned_none : (f : Figures) (d n t : ℕ) (a : List ℕ) → a ≡ turned_in f d n t a 0
unfolding turned_in turns
turned_none f d n t a = refl

pub events_none : (f : Figures) (d t : ℕ) (a : List ℕ) → replicate 16 no_events ≡ events_in f d t a 0
unfolding events_in
events_none f d t a = filled_none no_events (λ i. events_of (act_in f d t a i))

pub events_end : (f : Figures) (d t : ℕ) (a : List ℕ) (n i : ℕ) (es : List Events) → i ≤ n → n ≤ i
    → es ≡ events_in f d t a i → es ≡ events_in f d t a n
events_end f d t a n i es h g p = let e : i ≡ n = omega arith in rw e at p

module _ (f : Figures) (d n t : ℕ) (a b : List ℕ) where
  pub turned_end : (i : ℕ) → i ≤ n → n ≤ i → b ≡ turned_in f d n t a i → b ≡ turned_in f d n t a n
  turned_end i h g p = let e : i ≡ n = omega arith in rw e at p
