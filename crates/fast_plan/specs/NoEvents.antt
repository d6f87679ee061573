-- What has no event: a turn that reports nothing, and a step of which all stations report nothing. Assumes nothing.
use Rattle.std.specs.Prelude.{ℕ, zero, suc, ◌+◌, ◌-◌, ◌≡◌, refl, List, ltb, get_or, Option}
use Rattle.std.proofs.Common.{◌∙◌, ap, arith, ltb-true, ltb-false}
use Rattle.octets.specs.BaseLaws.{by_test}
use Rattle.octets.specs.Filled.{filled, filled_at, filled_past}
use Rattle.octets.specs.Turns.{turns}
use Rattle.sheet_layout.specs.declared.Figures.{Figures}
use Rattle.station_symbols.specs.declared.Heard.{Heard}
use Rattle.station_symbols.specs.declared.Symbol.TheVariants.{Silence}
use Rattle.station_symbols.specs.declared.Emission.{Emission}
use Rattle.station_symbols.specs.declared.Emission.TheVariants.{Rest}
use Rattle.station_symbols.specs.Packet.{symbol_of}
use Rattle.station_spec.specs.declared.Stored.{Stored}
use Rattle.station_spec.specs.Transmit.{octets_held}
use Rattle.station_tally.specs.Tally.{counted}
use Rattle.station_state.specs.declared.Station.{Station}
use Rattle.station_spec.specs.declared.Stepped.{Stepped}
use Rattle.area.specs.Area.{station_at, frame_at}
use Rattle.bus_spec.specs.declared.Act.{Act}
use Rattle.bus_spec.specs.BitTime.{events_of, no_events}
use Rattle.bus_spec.specs.Run.{tallied}
use Rattle.bus_quick.specs.Quick.{quietly}
use Rattle.fast_plan.specs.Own.{act_on}

pub quiet_events : (r : Act) (s : Station) (e : Emission) (o : Option Stored) → r.outcome ≡ quietly s e o
    → events_of r ≡ no_events
unfolding quietly
quiet_events r s e o h = ap (λ (c : Stepped). record { sent = c.sent; got = c.got }) h

pub rest_symbol : (f : Figures) (d i : ℕ) (h : Heard) (x : List ℕ) (s : Station) (o : Option Stored)
    → (act_on f d i h x).outcome ≡ quietly s Rest o → (act_on f d i h x).symbol ≡ Silence
unfolding act_on quietly
rest_symbol f d i h x s o e = ap
    (λ (c : Stepped). symbol_of (frame_at x i (octets_held (station_at x i).transmitter (station_at x i).frame))
    c.emission) e

pub none_at : (n k : ℕ) → get_or (filled no_events (λ i. no_events) n) k no_events ≡ no_events
none_at n k =
    by_test (ltb k n)
    (λ c. filled_at no_events (λ i. no_events) n k no_events (ltb-true k n c))
    (λ c. let g = ltb-false k n c in
    let z : k ≡ n + (k - n) = omega arith in ap (λ (m : ℕ). get_or (filled no_events (λ i. no_events) n) m no_events) z
    ∙ filled_past no_events (λ i. no_events) n (k - n))

pub nothing_tallied : (n m : ℕ) (ws : List ℕ) → tallied (filled no_events (λ i. no_events) n) m ws ≡ ws
unfolding tallied turns counted
nothing_tallied n zero ws = refl
nothing_tallied n (suc m) ws = rw (none_at n m) (nothing_tallied n m ws)
