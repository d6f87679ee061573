-- A station that rests goes on in closed form: each further step is one step of the station. The closed form is in the
-- specs' Rested. Assumes nothing.
use Rattle.std.specs.Prelude.{ℕ, suc, ◌-◌, ◌≤◌, ◌<◌, ◌≡◌, Bool, true, false, List, eqb, ltb, None}
use Rattle.std.proofs.Common.{sym, ◌∙◌, ap, true≢false, arith, ltb-false}
use Rattle.octets.specs.Base.{pick}
use Rattle.octets.specs.BaseLaws.{by_test}
use Rattle.sheet_layout.specs.declared.Figures.{Figures}
use Rattle.sheet_layout.specs.Layout.{gap_of}
use Rattle.station_symbols.specs.declared.Heard.TheVariants.{Nothing}
use Rattle.station_symbols.specs.declared.Emission.TheVariants.{Rest}
use Rattle.station_state.specs.declared.Deference.{Deference}
use Rattle.station_state.specs.declared.Transmitter.{Transmitter}
use Rattle.station_state.specs.declared.Transmitter.TheVariants.{NoFrame, Waiting, BackingOff, Sending, Heading}
use Rattle.station_state.specs.declared.Transmitter.TheVariants.{Jamming}
use Rattle.station_state.specs.declared.Station.{Station}
use Rattle.station_spec.specs.Transmit.{waits}
use Rattle.station_spec.specs.Step.{tries_after, draw_after, deferred_after, stepped, next_station}
use Rattle.bus_quick.specs.Quick.{quietly}
use Rattle.fast_silence.specs.Rested.{rested_transmitter, has_waited, rested, rests_for, Lasts, Rests, defer_goes}
use Rattle.fast_silence.specs.Rested.{lasts_none, transmit_goes, waited_more, deferred_more, idle_ends}

-- ---- transmitter

-- in K steps a frame that waits does not start
pub waits_rests : (f : Figures) (K m : ℕ) (d : Deference) (x : Transmitter) → Lasts f K d x → m < K
    → waits (rested_transmitter m x) ≡ true → m < rests_for f d
unfolding rested_transmitter
waits_rests f K m d NoFrame l h e = absurd (true≢false (sym e))
waits_rests f K m d Waiting l h e = omega arith
waits_rests f K m d (BackingOff w) l h e =
    by_test (ltb m w)
    (λ c. absurd (true≢false (sym (sym (ap (λ (b : Bool). waits (pick b (BackingOff (w - m)) Waiting)) c) ∙ e))))
    (λ c. let g = ltb-false m w c in omega arith)
waits_rests f K m d (Sending k) l h e = absurd l
waits_rests f K m d (Heading k) l h e = absurd l
waits_rests f K m d (Jamming k ends) l h e = absurd l

-- ---- the step

pub rested_step : (f : Figures) (K m : ℕ) (s : Station) (d draw : ℕ) (buf : List ℕ) → 1 ≤ gap_of f → Rests f K s → m < K
    → stepped f (rested f m s) d draw buf Nothing ≡ quietly (rested f (suc m) s) Rest None
unfolding stepped next_station tries_after draw_after deferred_after quietly rested
rested_step f K m s d draw buf g l h =
    rw (
      defer_goes f s.deference m (waits (rested_transmitter m s.transmitter)) g
          (waits_rests f K m s.deference s.transmitter l.lasts h),
      transmit_goes f m s.transmitter s.frame s.attempts draw false
          (lasts_none f K s.deference s.transmitter l.lasts),
      idle_ends s.address buf s.receiver false l.idle,
      waited_more m s.transmitter,
      deferred_more s.deferred (eqb s.attempts 0) (has_waited m s.transmitter)
          (waits (rested_transmitter m s.transmitter)),
    )
