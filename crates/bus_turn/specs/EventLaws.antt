-- Events that are not there need not be stored. Assumes nothing.
use Rattle.std.specs.Prelude.{ℕ, ◌≡◌, refl, Bool, true, false, ◌||◌, List, get_or, set, Option, Some, None}
use Rattle.std.specs.Option.{is_some}
use Rattle.std.proofs.Common.{sym, ◌∙◌, ap, true≢false, add-zero}
use Rattle.std.proofs.lemmas.List.{set-get_or}
use Rattle.octets.specs.Filled.{filled_past}
use Rattle.sheet_layout.specs.declared.Figures.{Figures}
use Rattle.station_spec.specs.declared.ReceiveEvent.{ReceiveEvent}
use Rattle.station_spec.specs.declared.TransmitEvent.{TransmitEvent}
use Rattle.bus_spec.specs.declared.Events.{Events}
use Rattle.bus_spec.specs.BitTime.{no_events, events_of, act_in, events_in}

none_there : (x : Option TransmitEvent) (y : Option ReceiveEvent) → (is_some x || is_some y) ≡ false
    → ◌≡◌ {A = Events} (record { sent = x; got = y }) no_events
none_there None None p = refl
none_there (Some a) y p = absurd (true≢false p)
none_there None (Some b) p = absurd (true≢false p)

pub none_kept : (es : List Events) (i : ℕ) (e : Events) → (is_some e.sent || is_some e.got) ≡ false
    → get_or es i no_events ≡ no_events → es ≡ set es i e
none_kept es i e p q = sym (ap (set es i) (none_there e.sent e.got p ∙ sym q) ∙ set-get_or es i no_events)

-- a station's place is blank until its turn
pub place_blank : (f : Figures) (d t : ℕ) (a : List ℕ) (i : ℕ) (es : List Events) → es ≡ events_in f d t a i
    → get_or es i no_events ≡ no_events
unfolding events_in
place_blank f d t a i es p =
    rw p (ap (λ (k : ℕ). get_or (events_in f d t a i) k no_events) (sym (add-zero i))
    ∙ filled_past no_events (λ j. events_of (act_in f d t a j)) i 0)
