-- How long a window may be: of a run of steps of one kind those in which a station starts nothing and reports nothing,
-- or goes on emitting. Assumes nothing.
use Rattle.std.specs.Prelude.{ℕ, ◌+◌, ◌≤◌, ◌<◌, min, ◌≡◌, Bool, true, false, ◌||◌, List, ltb, length, get_or}
use Rattle.octets.specs.Base.{pick}
use Rattle.sheet_layout.specs.declared.Figures.{Figures}
use Rattle.station_symbols.specs.Packet.{hears_any}
use Rattle.station_state.specs.declared.Deference.{Deference}
use Rattle.station_state.specs.declared.Transmitter.{Transmitter}
use Rattle.station_state.specs.declared.Station.{Station}
use Rattle.station_spec.specs.Receive.{bits_in}
use Rattle.area.specs.Area.{clock_at, depth_at, figures_at, count_at, station_at}
use Rattle.bus_spec.specs.Ready.{Readiness}
use Rattle.fast_plan.specs.Plan.{hears}
use Rattle.fast_plan.specs.Calm.{Calm}
use Rattle.fast_silence.specs.Rested.{rested_deference, rested_transmitter}
use Rattle.fast_silence.specs.Bound.{frames_rest, idle}
use Rattle.fast_station.specs.Forms.{heard_deference, heard_rest, emits_for, keeps_emitting}
use Rattle.fast_heard.specs.declared.Near.{Near}
use Rattle.fast_heard.specs.declared.Kind.{Kind}
use Rattle.fast_heard.specs.declared.Kind.TheVariants.{Silent, Line, From, Mixed}
use Rattle.fast_heard.specs.declared.Sight.{Sight}
use Rattle.fast_heard.specs.Hearing.{plan_of, emits_at, nearest_of, near_bit}
use Rattle.fast_heard.specs.Sights.{sight_of}
use Rattle.fast_bound.specs.declared.Ahead.{Ahead}
use Rattle.fast_bound.specs.Foresee.{Foreseen}
use Rattle.frame_build.specs.Limits.{shortest_frame}

-- ---- a station that emits nothing, by its deference, its transmitter and the most bits that it may have collected

-- "under 512 collected bits .. nothing": where nothing is heard a reception of fewer bits ends and reports nothing, and
-- so does one that may not report, b
unfoldable pub rest_steps : Figures → (m : ℕ) → Deference → Transmitter → (q : ℕ) → (b : Bool) → ℕ
rest_steps f m d x q b = pick (b || ltb q shortest_frame) (min m (frames_rest f m d x)) 0

unfoldable pub hear_steps : Figures → (m : ℕ) → Deference → Transmitter → ℕ
hear_steps f m d x = min m (heard_rest f m d x)

-- k steps in which nothing is heard, and k in which others are
unfoldable pub rested_to : Figures → (k : ℕ) → Ahead → Ahead
rested_to f k g =
    record {
      len = k;
      deference = rested_deference f k g.deference;
      transmitter = rested_transmitter k g.transmitter;
      bits = 0;
      harmless = false;
    }

unfoldable pub heard_to : Figures → (k : ℕ) → Ahead → Ahead
heard_to f k g =
    record {
      len = k;
      deference = heard_deference f k g.deference;
      transmitter = rested_transmitter k g.transmitter;
      bits = g.bits + k;
      harmless = g.harmless;
    }

unfoldable pub rest_ahead : Figures → (m : ℕ) → Ahead → Ahead
rest_ahead f m g = rested_to f (rest_steps f m g.deference g.transmitter g.bits g.harmless) g

unfoldable pub hear_ahead : Figures → (m : ℕ) → Ahead → Ahead
hear_ahead f m g = heard_to f (hear_steps f m g.deference g.transmitter) g

-- of m steps of a kind
unfoldable pub ahead : Figures → Kind → (m : ℕ) → Ahead → Ahead
ahead f Silent m g = rest_ahead f m g
ahead f Line m g = hear_ahead f m g
ahead f From m g = hear_ahead f m g
ahead f Mixed m g = hear_ahead f m g

-- where it begins
unfoldable pub ahead_of : Station → (b : Bool) → Ahead
ahead_of s b =
    record {
      len = 0;
      deference = s.deference;
      transmitter = s.transmitter;
      bits = bits_in s.receiver;
      harmless = b;
    }

-- ---- a station that emits

-- the steps through which it goes on emitting while it hears others, where h, or nothing
unfoldable pub emit_steps : (h : Bool) → Station → ℕ
emit_steps h s = pick (keeps_emitting h s) (emits_for s.frame s.transmitter) 0

-- ---- on the area

-- in each of m steps it hears others, where h, or nothing
unfoldable pub Alike : List ℕ → (j : ℕ) → (h : Bool) → (m : ℕ) → Type 0
Alike a j h m = (v : ℕ) → v < m → hears_any (hears a (plan_of a) j v) ≡ h

-- for k steps station j emits what the plan says, and has no event; if it emits, it does through all of them
pub record GoesOn (a : List ℕ) (j k : ℕ) : Type 0 where
  pub calm : Calm (figures_at a) (depth_at a) j (hears a (plan_of a) j) (plan_of a j) k a
  pub lasts : emits_at a j ≡ true → k ≤ emits_for (station_at a j).frame (station_at a j).transmitter

unfoldable pub CalmFor : List ℕ → (j k : ℕ) → Type 0
CalmFor a j k = GoesOn a j k

-- so does station j, if it emits, where q, or if it emits nothing
unfoldable pub CalmIf : List ℕ → (q : Bool) → (j k : ℕ) → Type 0
CalmIf a q j k = emits_at a j ≡ q → CalmFor a j k

-- and those of the first i stations
unfoldable pub CalmAmong : List ℕ → (q : Bool) → (i k : ℕ) → Type 0
CalmAmong a q i k = (j : ℕ) → j < i → CalmIf a q j k

-- each emitter emits through all of k steps
unfoldable pub AllLast : List ℕ → (k : ℕ) → Type 0
AllLast a k =
    (j : ℕ) → j < count_at a → emits_at a j ≡ true → k ≤ emits_for (station_at a j).frame (station_at a j).transmitter

-- what is read of a ready area before the stations are looked at
pub record Read (a : List ℕ) (f : Figures) (n t : ℕ) : Type 0 where
  pub ready : Readiness a
  pub figures : f ≡ figures_at a
  pub count : n ≡ count_at a
  pub clock : t ≡ clock_at a

-- and of what is near to station j
pub record Seen (a : List ℕ) (f : Figures) (j t : ℕ) (w : Near) (k : ℕ) : Type 0 where
  pub read : Read a f (count_at a) t
  pub station : j < count_at a
  pub nearest : w ≡ nearest_of a (count_at a) j
  pub bit : k ≡ near_bit a w

-- both shut, so that a search does not enter them
unfoldable pub ReadFrom : List ℕ → Figures → (n t : ℕ) → Type 0
ReadFrom a f n t = Read a f n t

unfoldable pub NearTo : List ℕ → Figures → (j t : ℕ) → Near → (k : ℕ) → Type 0
NearTo a f j t w k = Seen a f j t w k

-- what each of the stations hears of
unfoldable pub Sighted : List ℕ → List Sight → Type 0
Sighted a ws = (j : ℕ) (d : Sight) → j < length ws → get_or ws j d ≡ sight_of a (length ws) j

-- a silent station after s of m steps, as it was foreseen
unfoldable pub Underway : List ℕ → (j m s : ℕ) → Ahead → Type 0
Underway a j m s g =
    (r : Readiness a) (hj : j < count_at a)
    → Foreseen a r j hj m s g.deference g.transmitter g.bits g.harmless
