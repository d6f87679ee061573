-- Reading a received frame (document 01: "The frame of a receiveOK can be read, whole with its check sequence, until
-- that station's next reception begins"; refusals 1, 2, 10, 14, 15). The laws are in ReadLaws. Assumes nothing.
use Rattle.std.specs.Prelude.{ℕ, Bool, true, false, List, [], ◌∷◌, ltb, leb, eqb, length, take}
use Rattle.std.proofs.lemmas.List.Edits.{sets}
use Rattle.octets.specs.Base.{pick, refused, accepted, Outcome, outcome}
use Rattle.station_state.specs.declared.Receiver.{Receiver}
use Rattle.station_state.specs.declared.Receiver.TheVariants.{Listening, Readable, Seeking, Collecting}
use Rattle.station_spec.specs.Count.{octets_in}
use Rattle.area.specs.Area.{count_at, station_at, buffer_at}
use Rattle.area_check.specs.Valid.{area_refusal}

-- "That station holds no readable frame."
abbrev pub is_readable : Receiver → Bool
is_readable Listening = false
is_readable (Readable n) = true
is_readable (Seeking row spoiled own) = false
is_readable (Collecting n spoiled own) = false

-- the answer, and the lent output afterwards: "Octets past what is written stay."
unfoldable pub frame_read : (a : List ℕ) (i : ℕ) (out : List ℕ) → Outcome
frame_read a i out =
    pick (eqb (area_refusal a) 0)
    (pick (leb (count_at a) i) (outcome (refused 10) out)
    (pick (is_readable (station_at a i).receiver)
    (pick (ltb (length out) (octets_in (station_at a i).receiver)) (outcome (refused 15) out)
    (outcome (accepted (octets_in (station_at a i).receiver ∷ []))
    (sets out 0 (take (octets_in (station_at a i).receiver) (buffer_at a i)))))
    (outcome (refused 14) out)))
    (outcome (refused (area_refusal a)) out)
