-- What a station hears while every emitter goes on emitting: what was on its way, and what the nearest other emitters
-- bring. The laws are in NearLaws and HearingLaws. Assumes nothing.
use Rattle.std.specs.Prelude.{ℕ, ◌+◌, ◌-◌, ◌≤◌, ◌<◌, ◌≡◌, Bool, true, false, ◌&&◌, List, eqb, ltb, leb, get_or}
use Rattle.octets.specs.Base.{pick}
use Rattle.octets.specs.Turns.{turns}
use Rattle.station_symbols.specs.declared.Heard.{Heard}
use Rattle.station_symbols.specs.declared.Heard.TheVariants.{Nothing, Clean, Spoiled}
use Rattle.station_symbols.specs.declared.Symbol.{Symbol}
use Rattle.station_symbols.specs.declared.Symbol.TheVariants.{Bit, Jam}
use Rattle.station_symbols.specs.declared.Emission.{Emission}
use Rattle.station_symbols.specs.declared.Emission.TheVariants.{Rest, PacketBit, JamBit}
use Rattle.station_symbols.specs.Packet.{packet_bit, symbol_of}
use Rattle.station_state.specs.declared.Transmitter.{Transmitter}
use Rattle.station_state.specs.declared.Transmitter.TheVariants.{NoFrame, Waiting, BackingOff, Sending, Heading}
use Rattle.station_state.specs.declared.Transmitter.TheVariants.{Jamming}
use Rattle.station_spec.specs.Transmit.{octets_held}
use Rattle.area.specs.Area.{space_at, station_at, frame_at, arrival_at, alone, met}
use Rattle.fast_plan.specs.Plan.{Plan}
use Rattle.fast_line.specs.declared.LineRun.{LineRun}
use Rattle.fast_line.specs.Line.{kind_of, kind_number}
use Rattle.fast_heard.specs.declared.Near.{Near}
use Rattle.fast_heard.specs.declared.Kind.{Kind}
use Rattle.fast_heard.specs.declared.Kind.TheVariants.{Silent, Line, From, Mixed}
use Rattle.fast_heard.specs.declared.Segment.{Segment}
use Rattle.area.specs.Offsets.{ring}

-- ---- steps of one kind

-- whether anything is heard in them
abbrev pub is_heard : Kind → Bool
is_heard Silent = false
is_heard Line = true
is_heard From = true
is_heard Mixed = true

-- ---- the plan: each goes on as it is

-- one that sends, or finishes its header, emits its packet's next bits; one that jams emits jam; any other nothing
abbrev pub goes_on : Transmitter → ℕ → Emission
goes_on NoFrame s = Rest
goes_on Waiting s = Rest
goes_on (BackingOff w) s = Rest
goes_on (Sending k) s = PacketBit (k + s)
goes_on (Heading k) s = PacketBit (k + s)
goes_on (Jamming n ends) s = JamBit

-- the frame that station i holds
unfoldable pub held_at : List ℕ → ℕ → List ℕ
held_at a i = frame_at a i (octets_held (station_at a i).transmitter (station_at a i).frame)

unfoldable pub plan_of : List ℕ → Plan
plan_of a i s = symbol_of (held_at a i) (goes_on (station_at a i).transmitter s)

-- whether it emits
abbrev pub emits : Transmitter → Bool
emits NoFrame = false
emits Waiting = false
emits (BackingOff w) = false
emits (Sending k) = true
emits (Heading k) = true
emits (Jamming n ends) = true

unfoldable pub emits_at : List ℕ → ℕ → Bool
emits_at a i = emits (station_at a i).transmitter

-- its next packet bit; 0 where it emits none
abbrev pub bit_of : Transmitter → ℕ
bit_of NoFrame = 0
bit_of Waiting = 0
bit_of (BackingOff w) = 0
bit_of (Sending k) = k
bit_of (Heading k) = k
bit_of (Jamming n ends) = 0

-- ---- the nearest emitters

unfoldable pub no_near : Near
no_near = record { from = 16; d1 = ring; d2 = ring }

-- with an emitter i more, at distance d
unfoldable pub nearer : Near → (i d : ℕ) → Near
nearer w i d =
    pick (ltb d w.d1) (record { from = i; d1 = d; d2 = w.d1 })
    (pick (ltb d w.d2) (record { from = w.from; d1 = w.d1; d2 = d })
    w)

-- with station i more, seen from station j
unfoldable pub noted : (emitter : ℕ → Bool) (d : ℕ → ℕ) (j i : ℕ) → Near → Near
noted emitter d j i w = pick (eqb i j) w (pick (emitter i) (nearer w i (d i)) w)

-- the distance of station i from station j
unfoldable pub space_to : List ℕ → (j i : ℕ) → ℕ
space_to a j i = space_at a i j

-- of n stations but j: the nearest emitter, its distance, and the distance of the second nearest; 256 where there is
-- none
unfoldable pub nearest_of : List ℕ → (n j : ℕ) → Near
nearest_of a n j = turns (noted (emits_at a) (space_to a j) j) n no_near

-- the first c numbers of l are emitters among n stations, and with them alone each station finds its nearest
unfoldable pub Lists : List ℕ → (n : ℕ) (l : List ℕ) (c : ℕ) → Type 0
Lists a n l c =
    ((k : ℕ) → k < c → (get_or l k 0 < n) × (emits_at a (get_or l k 0) ≡ true))
    × ((j : ℕ) → turns (λ k w. noted (emits_at a) (space_to a j) j (get_or l k 0) w) c no_near ≡ turns
    (noted (emits_at a) (space_to a j) j) n no_near)

-- the next packet bit of the nearest; 0 where there is none, or it jams
unfoldable pub near_bit : List ℕ → Near → ℕ
near_bit a w = pick (ltb w.d1 ring) (bit_of (station_at a w.from).transmitter) 0

-- ---- what is heard

-- an emitter at distance d, if there is one, is heard s steps from now
unfoldable pub begun : (d s : ℕ) → Bool
begun d s = ltb d ring && leb d s

-- what the emitters bring s steps from now, where the nearest emits Q 0, Q 1, ..: of two or more it is several
unfoldable pub brought : Near → (ℕ → Symbol) → ℕ → Heard
brought w Q s = pick (begun w.d2 s) Spoiled (pick (begun w.d1 s) (alone (Q (s - w.d1))) Nothing)

-- what was on its way to station j at step t, s steps from there
unfoldable pub line_from : List ℕ → (j t s : ℕ) → Heard
line_from a j t s = pick (ltb s ring) (arrival_at a j (t + s)) Nothing

unfoldable pub mixed : (ℕ → Heard) → Near → (ℕ → Symbol) → ℕ → Heard
mixed L w Q s = met (L s) (brought w Q s)

-- what an emitter with the frame f and the next packet bit k emits; k is 0 where it jams
unfoldable pub sends : List ℕ → (k s : ℕ) → Symbol
sends f k s = pick (eqb k 0) Jam (Bit (packet_bit f (k + s)))

-- ---- runs of one kind

-- of m steps from s on, those in which it does not change whether an emitter at distance d is heard
unfoldable pub before : (d s m : ℕ) → ℕ
before d s m = pick (leb d s) m (pick (ltb (d - s) m) (d - s) m)

-- what the run says of a line L: it is of one kind
unfoldable pub RunOf : (ℕ → Heard) → ℕ → LineRun → Type 0
RunOf L s r = (v : ℕ) → v < r.len → kind_of (L (s + v)) ≡ kind_number r.kind

-- the kind of what is heard, by the kind of the line: where the nearest emitter is heard, with its next packet bit; and
-- where it may not be
unfoldable pub kind_near : (c k : ℕ) → Kind
kind_near c k = pick (eqb c 0) (pick (eqb k 0) Mixed From) Mixed

unfoldable pub kind_heard : ℕ → Bool → ℕ → Kind
kind_heard c near k = pick near (kind_near c k) (pick (eqb c 0) Silent (pick (eqb c 1) Line Mixed))

-- What m steps of a kind say, from step s on, of what a station hears, H: nothing; the clean bits of its line, L; bits
-- of the packet that carries F, where the emitter at distance d began with bit k; jam or several
abbrev pub Says : (H L : ℕ → Heard) (F : List ℕ) (k d s : ℕ) → Kind → ℕ → Type 0
Says H L F k d s Silent m = (v : ℕ) → v < m → H (s + v) ≡ Nothing
Says H L F k d s Line m = (v : ℕ) → v < m → (H (s + v) ≡ L (s + v)) × (kind_of (L (s + v)) ≡ 1)
Says H L F k d s From m = (0 < k) × (d ≤ s) × ((v : ℕ) → v < m → H (s + v) ≡ Clean (packet_bit F (k + (s - d) + v)))
Says H L F k d s Mixed m = (v : ℕ) → v < m → kind_of (H (s + v)) ≡ 2

-- what a segment says, whatever frame the nearest emitter sends: of what was on its way in area x to station j at step
-- t, joined with what the emitters bring. It goes by the line and by the nearest alone
unfoldable pub Segmented : List ℕ → (j t : ℕ) → Near → (k s : ℕ) → Segment → Type 0
Segmented x j t w k s r =
    (F : List ℕ) → Says (mixed (line_from x j t) w (sends F k)) (λ v. arrival_at x j (t + v)) F k w.d1 s r.kind
    r.len
