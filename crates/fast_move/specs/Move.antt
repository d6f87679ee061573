-- What a station hears in steps of one kind, and what it must be for them to be taken at once. Assumes nothing.
use Rattle.std.specs.Prelude.{ℕ, ◌<◌, ◌≡◌, Bool, true, false, not, ◌&&◌, List, leb}
use Rattle.octets.specs.Base.{pick}
use Rattle.sheet_layout.specs.declared.Figures.{Figures}
use Rattle.station_symbols.specs.declared.Heard.{Heard}
use Rattle.station_symbols.specs.declared.Heard.TheVariants.{Nothing}
use Rattle.station_state.specs.declared.Station.{Station}
use Rattle.area.specs.Area.{address_at, buffer_at, station_at}
use Rattle.fast_silence.specs.Bound.{frames_rest}
use Rattle.fast_station.specs.Forms.{heard_rest, emits_for, keeps_emitting}
use Rattle.fast_heard.specs.Hearing.{is_heard, emits}
use Rattle.fast_receive.specs.Received.{spoils, line_from, bits_from, AllHeard, may_report}
use Rattle.fast_heard.specs.declared.Kind.{Kind}
use Rattle.fast_heard.specs.declared.Kind.TheVariants.{Silent, Line, From, Mixed}
use Rattle.fast_stretch.specs.Stretch.{heard_stretch, quiet_stretch}
use Rattle.fast_segment.specs.Alone.{Moves}

-- steps of this kind: nothing; its line from step u on; bits of the packet that carries F from bit b on; spoiled
-- symbols
abbrev pub heard_in : Kind → List ℕ → (j u : ℕ) → (F : List ℕ) (b : ℕ) → ℕ → Heard
heard_in Silent x j u F b = λ k. Nothing
heard_in Line x j u F b = line_from x j u
heard_in From x j u F b = bits_from F b
heard_in Mixed x j u F b = spoils

-- ---- when m steps of a kind can be taken at once

-- of a station that emits nothing: no frame starts, and a reception that ends reports nothing
unfoldable pub rests_all : Figures → (m : ℕ) → (report : Bool) → Station → Bool
rests_all f m report s = not s.emitted && (leb m (frames_rest f m s.deference s.transmitter) && not report)

unfoldable pub hears_all : Figures → (m : ℕ) → Station → Bool
hears_all f m s = not s.emitted && leb m (heard_rest f m s.deference s.transmitter)

-- of an emitter: it goes on, and long enough
unfoldable pub emits_all : (m : ℕ) → (heard : Bool) → Station → Bool
emits_all m heard s = keeps_emitting heard s && leb m (emits_for s.frame s.transmitter)

-- all of that
unfoldable pub can_move : Figures → (m : ℕ) → Kind → List ℕ → (j : ℕ) → Bool
can_move f m K x j =
    pick (emits (station_at x j).transmitter) (emits_all m (is_heard K) (station_at x j))
    (pick (is_heard K) (hears_all f m (station_at x j))
    (rests_all f m (may_report (address_at x j) (buffer_at x j) 0 (station_at x j).receiver) (station_at x j)))

-- ---- what they leave

unfoldable pub stretched : Figures → (e : Bool) → Kind → (m j : ℕ) → List ℕ → (u : ℕ) (F : List ℕ) (b : ℕ) → List ℕ
stretched f e K m j x u F b = pick (is_heard K) (heard_stretch f e (heard_in K x j u F b) m j x) (quiet_stretch f e m j x)

-- shut, so that a search does not enter it
unfoldable pub Moving : Figures → (D j c : ℕ) → List ℕ → Type 0
Moving f D j c x = Moves f D j c x

-- where clean bits of its line are heard, something is heard in each of m steps from u on
unfoldable pub Audible : Kind → List ℕ → (j u m : ℕ) → Type 0
Audible K x j u m = K ≡ Line → AllHeard (line_from x j u) m

-- an emitter's frame is one that may be sent
unfoldable pub Held : Station → Type 0
Held s = emits s.transmitter ≡ true → s.frame < 65536
