-- Check 2: whether a work area holds what no call would leave (document 01, refusal 2). The laws are in
-- AreaCheckLaws. Assumes nothing.
use Rattle.std.specs.Prelude.{ℕ, ◌+◌, ◌*◌, Bool, true, false, ◌||◌, List, ltb, leb, eqb, length, get_or}
use Rattle.octets.specs.Base.{pick, some, outside}
use Rattle.sheet_layout.specs.declared.Figures.{Figures}
use Rattle.sheet_layout.specs.Layout.{gap_of}
use Rattle.sheet_layout.specs.Check.{refusal_of}
use Rattle.area.specs.Offsets.{area_size, ring}
use Rattle.area.specs.Area.{clock_at, depth_at, figures_at, count_at, layout_at, record_at, frame_at, buffer_at}
use Rattle.area.specs.Area.{symbol_at, max_code}
use Rattle.sheet_layout.specs.Limits.{last_clock}
use Rattle.frame_build.specs.Limits.{min_frame, max_frame, buffer_octets}
use Rattle.frame_open.specs.Open.{value_of}
use Rattle.area_record.specs.Words.{deference_word, stretch_word, gap_word, phase_word, deferred_word, emitted_word}
use Rattle.area_record.specs.Words.{reception_word, frame_word, attempts_word, draw_word}
use Rattle.area_record.specs.Words.{phase_number_word, receiver_word, receiver_number_word, spoiled_word}

-- ---- a record's words w, in use where the state that carries them stands; a flag over 1, a code past the last, stands
-- for nothing

-- "gap 1..G"
unfoldable pub deference_wrong : Figures → List ℕ → Bool
deference_wrong f w =
    pick (ltb 2 (get_or w deference_word 0)) true
    (pick (eqb (get_or w deference_word 0) 0) false
    (pick (ltb 1 (get_or w stretch_word 0)) true
    (pick (eqb (get_or w deference_word 0) 1) false
    (outside (get_or w gap_word 0) 1 (gap_of f)))))

-- "attempts 0..limit (below it while a frame waits, 1 or more while one goes out)": a frame in backoff waits too
unfoldable pub attempts_wrong : (limit code n : ℕ) → Bool
attempts_wrong limit code n = pick (eqb code 0) (ltb limit n) (pick (leb code 2) (leb limit n) (outside n 1 limit))

-- "packet bit 1..64 + 8 × frame, jam left 1..jam, wait 1..slot × 1023"
unfoldable pub number_wrong : Figures → (code n frame : ℕ) → Bool
number_wrong f code n frame =
    pick (eqb code 1) false
    (pick (eqb code 2) (outside n 1 (f.slot * 1023))
    (pick (leb code 4) (outside n 1 (64 + 8 * frame))
    (outside n 1 f.jam)))

-- the last code of a transmitter's phase: 6, jamming before the frame's end, only where late collisions close frames
unfoldable pub last_phase : Figures → ℕ
last_phase f = pick (eqb f.ends 0) 5 6

-- "frame 64..1518", with N3 up to 1522; by its value in heldWrong
unfoldable pub transmitter_wrong : Figures → List ℕ → Bool
transmitter_wrong f w =
    pick (ltb (last_phase f) (get_or w phase_word 0)) true
    (pick (attempts_wrong f.limit (get_or w phase_word 0) (get_or w attempts_word 0)) true
    (pick (eqb (get_or w phase_word 0) 0) false
    (pick (outside (get_or w frame_word 0) 64 buffer_octets) true
    (pick (ltb 1 (get_or w deferred_word 0)) true
    (number_wrong f (get_or w phase_word 0) (get_or w phase_number_word 0) (get_or w frame_word 0))))))

-- "collected bits up to the clock"; a readable frame is a frame, 64..1522, by its value in
-- readableWrong; a row is 1..511
unfoldable pub receiver_wrong : (clock : ℕ) → List ℕ → Bool
receiver_wrong t w =
    pick (ltb 3 (get_or w receiver_word 0)) true
    (pick (eqb (get_or w receiver_word 0) 0) false
    (pick (eqb (get_or w receiver_word 0) 1) (outside (get_or w receiver_number_word 0) 64 buffer_octets)
    (pick (ltb 1 (get_or w spoiled_word 0)) true
    (pick (ltb 1 (get_or w reception_word 0)) true
    (pick (eqb (get_or w receiver_word 0) 2) (outside (get_or w receiver_number_word 0) 1 511)
    (ltb t (get_or w receiver_number_word 0)))))))

-- "draw place below D"
unfoldable pub record_wrong : Figures → (depth clock : ℕ) → List ℕ → Bool
record_wrong f depth t w =
    pick (deference_wrong f w) true
    (pick (transmitter_wrong f w) true
    (pick (receiver_wrong t w) true
    (pick (leb depth (get_or w draw_word 0)) true
    (ltb 1 (get_or w emitted_word 0)))))

-- ---- the area

-- N3: "the frame range in the work area, which reach 1522 for that value alone": the value that stands in the octets of
-- a frame that is held, and of one that can be read
unfoldable pub held_wrong : List ℕ → ℕ → Bool
held_wrong a i =
    pick (eqb (get_or (record_at a i) phase_word 0) 0) false
    (ltb (max_frame (value_of (frame_at a i min_frame))) (get_or (record_at a i) frame_word 0))

unfoldable pub readable_wrong : List ℕ → ℕ → Bool
readable_wrong a i =
    pick (eqb (get_or (record_at a i) receiver_word 0) 1)
    (ltb (max_frame (value_of (buffer_at a i))) (get_or (record_at a i) receiver_number_word 0))
    false

-- "a .. symbol code that stands for nothing": one over 4, at place u of station i's delay line
unfoldable pub symbol_wrong : List ℕ → ℕ → ℕ → Bool
symbol_wrong a i u = ltb max_code (symbol_at a i u)

unfoldable pub station_wrong : List ℕ → ℕ → Bool
station_wrong a i =
    record_wrong (figures_at a) (depth_at a) (clock_at a) (record_at a i)
    || (held_wrong a i || (readable_wrong a i || some (symbol_wrong a i) ring))

-- 2: "The work area holds layout values that 5 to 8 would refuse, D outside 1..16, or a record field in use out of
-- range: .., clock 0..16,777,216, ..; or a state or symbol code that stands for nothing." Records of stations N and up
-- are not in use.
unfoldable pub area_wrong : List ℕ → Bool
area_wrong a =
    pick (eqb (refusal_of (layout_at a)) 0)
    (pick (outside (depth_at a) 1 16) true
    (pick (ltb last_clock (clock_at a)) true
    (some (station_wrong a) (count_at a))))
    true

-- The number of the check, 1 or 2, that refuses a work area, 0 where none does. 1: "The work area is shorter than
-- 57,344 octets."
unfoldable pub area_refusal : List ℕ → ℕ
area_refusal a = pick (ltb (length a) area_size) 1 (pick (area_wrong a) 2 0)
