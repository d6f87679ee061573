-- What many steps of one kind leave of one station: its record in closed form, and the bits that it collected. It is
-- the form that fast_plan/Goes (`goes_on_lem`) has for its turns by itself. Assumes nothing.
use Rattle.std.specs.Prelude.{ℕ, ◌+◌, ◌<◌, Bool, List, None}
use Rattle.octets.specs.Base.{pick}
use Rattle.sheet_layout.specs.declared.Figures.{Figures}
use Rattle.station_symbols.specs.declared.Heard.{Heard}
use Rattle.station_state.specs.declared.Receiver.{Receiver}
use Rattle.station_state.specs.declared.Station.{Station}
use Rattle.station_state.specs.State.{number_in}
use Rattle.station_spec.specs.Receive.{row_in, bits_in, row_limit}
use Rattle.area.specs.Area.{station_at}
use Rattle.fast_plan.specs.Goes.{went_to}
use Rattle.fast_station.specs.Forms.{hear_on, rest_on, emit_on}
use Rattle.fast_receive.specs.Received.{received_by, kept_by, calmed}

-- ---- others are heard in each of m steps; e: whether the station emits in them

-- its receiver is r then
unfoldable pub moved_on : Figures → (e : Bool) → (m : ℕ) → Receiver → Station → Station
moved_on f e m r s = pick e (emit_on f m r s) (hear_on f m r s)

unfoldable pub heard_stretch : Figures → (e : Bool) → (ℕ → Heard) → (m j : ℕ) → List ℕ → List ℕ
heard_stretch f e H m j x =
    went_to j (kept_by e H (station_at x j).receiver) m
    (moved_on f e m (received_by e H m (station_at x j).receiver) (station_at x j)) x

-- ---- nothing is heard

unfoldable pub quiet_on : Figures → (e : Bool) → (m : ℕ) → Station → Station
quiet_on f e m s = pick e (emit_on f m (calmed m s.receiver) s) (rest_on f m s)

unfoldable pub quiet_stretch : Figures → (e : Bool) → (m j : ℕ) → List ℕ → List ℕ
quiet_stretch f e m j x = went_to j (λ s. None) m (quiet_on f e m (station_at x j)) x

-- ---- room for the code's sums

pub record Room (f : Figures) (m : ℕ) (s : Station) : Type 0 where
  pub gap : f.gap1 + f.gap2 < 65536
  pub number : number_in s.transmitter + m < 4294967296
  pub row : row_in s.receiver < row_limit
  pub bits : bits_in s.receiver + m < 4294967296

-- shut, so that a search does not enter it
unfoldable pub Movable : Figures → (m : ℕ) → List ℕ → (j : ℕ) → Type 0
Movable f m x j = Room f m (station_at x j)
