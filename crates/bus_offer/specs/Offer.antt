-- An offer (document 01, refusals 1, 2, 10, 11, 12). The laws are in OfferLaws. Assumes nothing.
use Rattle.std.specs.Prelude.{ℕ, Bool, true, false, List, [], leb, eqb, length}
use Rattle.octets.specs.Base.{pick, refused, accepted, Outcome, outcome}
use Rattle.frame_build.specs.Limits.{refuses_data}
use Rattle.frame_build.specs.Build.{frame_of}
use Rattle.station_state.specs.declared.Transmitter.{Transmitter}
use Rattle.station_state.specs.declared.Transmitter.TheVariants.{NoFrame, Waiting, BackingOff, Sending, Heading}
use Rattle.station_state.specs.declared.Transmitter.TheVariants.{Jamming}
use Rattle.station_state.specs.declared.Station.{Station}
use Rattle.station_spec.specs.Count.{added}
use Rattle.area.specs.Area.{count_at, address_at, station_at, with_station, counters_at, with_counters, with_frame}
use Rattle.area_check.specs.Valid.{area_refusal}

-- "The station still has a frame."
abbrev pub holds : Transmitter → Bool
holds NoFrame = false
holds Waiting = true
holds (BackingOff w) = true
holds (Sending k) = true
holds (Heading k) = true
holds (Jamming n ends) = true

-- "An offer at clock t waits from step t on": the station with a frame of n octets, not tried and not deferred yet
unfoldable pub offered_station : Station → ℕ → Station
offered_station s n =
    record {
      address = s.address;
      deference = s.deference;
      transmitter = Waiting;
      receiver = s.receiver;
      frame = n;
      attempts = 0;
      draw = s.draw;
      deferred = false;
      emitted = s.emitted;
    }

unfoldable pub with_held : List ℕ → ℕ → ℕ → List ℕ
with_held a i n = with_station a i (offered_station (station_at a i) n)

-- "offered: accepted offers"
unfoldable pub with_offered : List ℕ → ℕ → List ℕ
with_offered a i = with_counters a i (added (counters_at a i) 0 1)

-- what an accepted offer leaves: the frame at its place, "what the builder makes of its destination, value and data,
-- with the offering station's own address as source"; the station that holds it; the offer counted
unfoldable pub with_offer : List ℕ → ℕ → (d : List ℕ) (v : ℕ) (x : List ℕ) → List ℕ
with_offer a i d v x =
    with_offered (with_held (with_frame a i (frame_of d (address_at a i) v x)) i (length (frame_of d (address_at a i) v x))) i

unfoldable pub offered : List ℕ → ℕ → (d : List ℕ) (v : ℕ) (x : List ℕ) → Outcome
offered a i d v x =
    pick (eqb (area_refusal a) 0)
    (pick (leb (count_at a) i) (outcome (refused 10) a)
    (pick (refuses_data v (length x)) (outcome (refused 11) a)
    (pick (holds (station_at a i).transmitter) (outcome (refused 12) a)
    (outcome (accepted []) (with_offer a i d v x)))))
    (outcome (refused (area_refusal a)) a)
