-- A station's delay line over many places: of what kind they are, how long a kind lasts, whether nothing is there; and
-- the symbols of a station that sends. The laws are in LineLaws. Assumes nothing.
use Rattle.std.specs.Prelude.{ℕ, zero, suc, ◌+◌, ◌-◌, ◌≤◌, ◌<◌, ◌≡◌, Bool, not, List, eqb, get_or}
use Rattle.octets.specs.Base.{pick, some}
use Rattle.octets.specs.Turns.{turns}
use Rattle.station_symbols.specs.declared.Heard.{Heard}
use Rattle.station_symbols.specs.declared.Heard.TheVariants.{Nothing, Clean, Spoiled}
use Rattle.station_symbols.specs.declared.Symbol.{Symbol}
use Rattle.station_symbols.specs.declared.Symbol.TheVariants.{Bit, Jam}
use Rattle.station_symbols.specs.Packet.{hears_any, packet_bit}
use Rattle.area.specs.Area.{arrival_at, heard_code, alone, with_symbol}
use Rattle.fast_line.specs.declared.LineKind.{LineKind}
use Rattle.fast_line.specs.declared.LineKind.TheVariants.{Empty, Bits, Noise}
use Rattle.fast_line.specs.declared.LineRun.{LineRun}
use Rattle.area.specs.Offsets.{ring}

-- ---- kinds

-- 0 nothing, 1 a clean bit, 2 spoiled: jam, or several at once
abbrev pub kind_of : Heard → ℕ
kind_of Nothing = 0
kind_of (Clean b) = 1
kind_of Spoiled = 2

-- the kind as the code names it, and its number
abbrev pub line_kind : Heard → LineKind
line_kind Nothing = Empty
line_kind (Clean b) = Bits
line_kind Spoiled = Noise

abbrev pub kind_number : LineKind → ℕ
kind_number Empty = 0
kind_number Bits = 1
kind_number Noise = 2

unfoldable pub kind_at : List ℕ → (j u : ℕ) → ℕ
kind_at a j u = kind_of (arrival_at a j u)

-- the least number below m that passes the test; m where none does
unfoldable pub first_of : (ℕ → Bool) → ℕ → ℕ
first_of t zero = zero
first_of t (suc m) = pick (some t m) (first_of t m) (pick (t m) m (suc m))

-- whether place u + s is not of kind k
unfoldable pub other_kind : List ℕ → (j u k s : ℕ) → Bool
other_kind a j u k s = not (eqb (kind_at a j (u + s)) k)

-- how many of the m places from u on are of kind k, up to the first that is not
unfoldable pub lasts : List ℕ → (j u k m : ℕ) → ℕ
lasts a j u k m = first_of (other_kind a j u k) m

-- the kind of place u, and how many of the m places from there on have it
unfoldable pub run_at : List ℕ → (j u m : ℕ) → LineRun
run_at a j u m = record { kind = line_kind (arrival_at a j u); len = lasts a j u (kind_at a j u) m }

-- n places from u on are of kind k. Shut, so that a search does not enter it
unfoldable pub AllOf : List ℕ → (j u k n : ℕ) → Type 0
AllOf a j u k n = (i : ℕ) → i < n → kind_at a j (u + i) ≡ k

-- ---- a whole line

unfoldable pub in_use : List ℕ → (j u : ℕ) → Bool
in_use a j u = hears_any (arrival_at a j u)

-- nothing is on its way to station j
unfoldable pub is_clear : List ℕ → ℕ → Bool
is_clear a j = not (some (in_use a j) ring)

-- ---- what a sender emits

-- the bits of the packet that carries frame f, from bit k on
unfoldable pub bits_from : List ℕ → (k s : ℕ) → Symbol
bits_from f k s = Bit (packet_bit f (k + s))

-- jam
unfoldable pub jams : ℕ → Symbol
jams s = Jam

-- ---- the codes of what is emitted

-- the codes of Q 0 .. Q (K - 1), or of the last 256 of them, end at place `at` + 256 of cs; none is silence
unfoldable pub Coded : (cs : List ℕ) (at K : ℕ) → (ℕ → Symbol) → Type 0
Coded cs at K Q =
    (s : ℕ) → s < K → K ≤ s + ring
    → (get_or cs (at + (ring + s - K)) 0 ≡ heard_code (alone (Q s))) × (heard_code (alone (Q s)) ≡ 0 → ⊥)

-- the first `at` are as they were
unfoldable pub Below : (at : ℕ) → (ds cs : List ℕ) → Type 0
Below at ds cs = (p : ℕ) → p < at → get_or cs p 0 ≡ get_or ds p 0

-- n codes from place `at` on are put on the line of station j, from step u on
unfoldable pub codes_put : (j u : ℕ) → (cs : List ℕ) → (at n : ℕ) → List ℕ → List ℕ
codes_put j u cs at n x = turns (λ s y. with_symbol y j (u + s) (get_or cs (at + s) 0)) n x
