-- The theorem: section 4.2's processes, run a bit time at a time, show in every bit time what document 01's station
-- shows. Assumes nothing.
use Rattle.std.specs.Prelude.{ℕ, ◌≤◌, ◌≡◌, refl, List, [], ◌∷◌, length}
use Rattle.std.proofs.Common.{ap₂, arith}
use Rattle.frame_build.specs.Limits.{buffer_octets}
use Rattle.sheet_layout.specs.declared.Figures.{Figures}
use Rattle.station_state.specs.declared.Station.{Station}
use Rattle.standard.specs.Language.{Draws}
use Rattle.standard.specs.Interpreter.{kept_in, execute}
use Rattle.standard.specs.Reading.{Machine, Input, bit_time, Output, executed}
use Rattle.standard.specs.Initialize.{initialize}
use Rattle.standard.specs.Seen.{Ranges, fresh_station, step_of, seen}
use Rattle.standard.specs.DeferenceLaws.{quiet}
use Rattle.standard.specs.TransmitLaws.{idle}
use Rattle.standard.specs.TogetherLaws.{Agrees, one_bit_time}
use Rattle.standard.specs.ReceiveLaws.{seeks}

-- ---- every list of bit times

pub list_agrees : (f : Figures) → Ranges f → (draws : Draws) (s : Station) (buffer : List ℕ) (x : Machine)
    → Agrees f draws s buffer x → (l : List Input) → executed x l ≡ seen f draws s buffer l
unfolding executed seen
list_agrees f ok draws s buffer x k [] = refl
list_agrees f ok draws s buffer x k (i ∷ l) =
    let b = one_bit_time f ok draws s buffer x i k in
    ap₂ (λ (o : Output) (r : List Output). o ∷ r) b.shows
    (list_agrees f ok draws (step_of f draws s buffer i).station (kept_in buffer (step_of f draws s buffer i).stored)
    (bit_time i x) b.agrees l)

-- ---- from a fresh start

pub fresh_agrees : (f : Figures) (address : List ℕ) (draws : Draws) (incoming : List ℕ)
    → buffer_octets ≤ length incoming
    → Agrees f draws (fresh_station address) incoming (initialize f address draws incoming)
unfolding initialize fresh_station execute
fresh_agrees f address draws incoming h =
    record {
      deference = quiet refl refl refl refl;
      transmitter = idle refl refl refl refl refl refl refl;
      receiver = seeks refl refl refl (omega arith) refl refl refl refl;
      listens = refl;
      emitted = refl;
      octets = refl;
      numbers = refl;
      room = h;
    }

-- The theorem.
pub page_is_document_01 : (f : Figures) → Ranges f → (address : List ℕ) (draws : Draws) (incoming : List ℕ)
    → buffer_octets ≤ length incoming → (l : List Input)
    → executed (initialize f address draws incoming) l ≡ seen f draws (fresh_station address) incoming l
page_is_document_01 f ok address draws incoming h l =
    list_agrees f ok draws (fresh_station address) incoming (initialize f address draws incoming)
    (fresh_agrees f address draws incoming h) l
