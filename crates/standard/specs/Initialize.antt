-- Initialize (4.2.7.5): all flags are down, and every process goes up to where it first waits. Nothing is said of what
-- incomingFrame holds before the first reception. Assumes nothing.
use Rattle.std.specs.Prelude.{ℕ, false, List, [], ◌∷◌, None}
use Rattle.sheet_layout.specs.declared.Figures.{Figures}
use Rattle.station_symbols.specs.declared.Heard.TheVariants.{Nothing}
use Rattle.station_symbols.specs.declared.Emission.TheVariants.{Rest}
use Rattle.standard.specs.Language.{Variables, Draws, Store, store}
use Rattle.standard.specs.Interpreter.{execute, enough}
use Rattle.standard.specs.Reading.{Machine, machine}
use Rattle.standard.specs.Deference.{deference}
use Rattle.standard.specs.FrameTransmitter.{frame_transmitter}
use Rattle.standard.specs.BitTransmitter.{bit_transmitter}
use Rattle.standard.specs.FrameReceiver.{frame_receiver}
use Rattle.standard.specs.BitReceiver.{bit_receiver}

abbrev pub blank : Variables
blank = record { flags = λ x. false; numbers = λ x. 0 }

abbrev pub blank_store : Draws → List ℕ → Store
blank_store draws incoming =
    store blank (record { variables = blank; emission = Rest; sent = None })
    (record { variables = blank; row = []; incoming = incoming; got = None; stored = None })
    (record { heard = Nothing; emitted = false; draws = draws; offered = 0 })

unfoldable pub initialize : Figures → (address : List ℕ) → Draws → (incoming : List ℕ) → Machine
initialize f address draws incoming =
    let ft = execute enough (frame_transmitter f ∷ []) (blank_store draws incoming) in
    let fr = execute enough (frame_receiver address ∷ []) ft.result in
    let bt = execute enough (bit_transmitter f ∷ []) fr.result in
    let br = execute enough (bit_receiver ∷ []) bt.result in
    let df = execute enough (deference f ∷ []) br.result in
    machine df.result ft.place fr.place bt.place br.place df.place
