-- A station that moves on by itself stays in range: after m turns it is what its turns made of it. Assumes nothing.
use Rattle.std.specs.Prelude.{ℕ, zero, suc, ◌+◌, ◌*◌, ◌≤◌, ◌<◌, ◌≡◌, refl, List, length}
use Rattle.std.proofs.Common.{sym, ◌∙◌, ap, subst, arith}
use Rattle.sheet_layout.specs.declared.Figures.{Figures}
use Rattle.sheet_layout.specs.CheckLaws.{Figured}
use Rattle.station_symbols.specs.declared.Heard.{Heard}
use Rattle.station_state.specs.declared.Station.{Station}
use Rattle.station_spec.specs.declared.Stepped.{Stepped}
use Rattle.station_spec.specs.Step.{stepped, next_station}
use Rattle.area_record.specs.Codec.{decoded}
use Rattle.area.specs.Places.{layout, station, Keeps}
use Rattle.area.specs.Area.{draw_at, address_at, station_at, buffer_at, with_station}
use Rattle.area.specs.AreaLaws.{keeps_trans, station_by, address_by, station_same, length_station}
use Rattle.bus_spec.specs.declared.Act.{Act}
use Rattle.bus_spec.specs.BitTime.{with_stored, with_counted}
use Rattle.bus_spec.specs.InPlace.{Kept, length_stored, length_counted, stored_keeps, counted_keeps}
use Rattle.bus_spec.specs.Range.{Fine, fine_room, fine_fit, fine_stepped, held_small}
use Rattle.bus_spec.specs.Ready.{CanAct, Able}
use Rattle.fast_plan.specs.Own.{outcome_on, act_on, own_left, own_turn, by_itself, by_itself_more, by_itself_none, on_kept}
use Rattle.fast_plan.specs.Own.{length_itself, itself_stays}
use Rattle.area.specs.Offsets.{area_size}
use Rattle.frame_build.specs.Limits.{buffer_octets}
use Rattle.sheet_layout.specs.Limits.{max_stations, max_draws}

-- Station i of area x, at clock t, is in range, and so are the figures and D.
pub record Moves (f : Figures) (D i t : ℕ) (x : List ℕ) : Type 0 where
  pub figured : Figured f
  pub depth : (1 ≤ D) × (D ≤ max_draws)
  pub index : i < max_stations
  pub room : area_size ≤ length x
  pub fine : Fine f D t (station_at x i)

module _ (f : Figures) (D i t : ℕ) (x : List ℕ) (v : Moves f D i t x) where
  pub moves_able : t < 4294967295 → Able f x i
  unfolding Able
  moves_able h =
      record {
        room = fine_room f v.figured D t (station_at x i) v.depth.1 h v.fine buffer_octets (omega arith);
        draw = omega (arith, v.fine.draw, v.depth);
        held = held_small (station_at x i).frame (station_at x i).transmitter v.fine.frame;
      }

-- what a turn leaves of the record
left_station : (i : ℕ) (o : Stepped) (x : List ℕ) → i < max_stations → area_size ≤ length x → Kept o.stored
    → station_at (with_station x i o.station) i ≡ o.station
    → station_at (own_left i o x) i ≡ o.station
unfolding own_left
left_station i o x hi room k e =
    let y = with_station x i o.station in
    let w = with_counted i o y in
    let z = with_stored i o.stored w in
    let ly : length y ≡ length x = length_station x i o.station in
    let lw : length w ≡ length y = length_counted i o y in
    let lz : length z ≡ length w = length_stored i o.stored w in
    station_by z y i hi (omega arith) (omega arith)
    (keeps_trans layout z w y (stored_keeps layout i o.stored w k (λ p q. omega arith))
    (counted_keeps layout i o y (λ p q. omega arith)))
    (keeps_trans (station i) z w y (stored_keeps (station i) i o.stored w k (λ p q. omega arith))
    (counted_keeps (station i) i o y (λ p q. omega arith)))
    ∙ e

address_on : (f : Figures) (D i : ℕ) (h : Heard) (x : List ℕ)
    → (act_on f D i h x).outcome.station.address ≡ (station_at x i).address
unfolding act_on outcome_on stepped next_station
address_on f D i h x = refl

pub address_in : (x : List ℕ) (i : ℕ) → (station_at x i).address ≡ address_at x i
unfolding station_at decoded
address_in x i = refl

module _ (f : Figures) (D i : ℕ) (h : Heard) (t : ℕ) (x : List ℕ) (v : Moves f D i t x) (early : t < 4294967294) where
  fine_on : Fine f D (suc t) (act_on f D i h x).outcome.station
  unfolding act_on outcome_on
  fine_on =
      fine_stepped f v.figured D t (station_at x i) (draw_at x i (station_at x i).draw) (buffer_at x i) h v.fine

  pub turn_station : station_at (own_turn f D i h x) i ≡ (act_on f D i h x).outcome.station
  unfolding own_turn
  turn_station =
      let o = (act_on f D i h x).outcome in
      left_station i o x v.index v.room (on_kept f D i h x)
      (station_same x v.room i o.station v.index
      (fine_fit f v.figured D (suc t) o.station v.depth.1 (omega arith) fine_on)
      (address_on f D i h x ∙ address_in x i))

-- m turns
pub itself_moves : (f : Figures) (D i : ℕ) (H : ℕ → Heard) (m t : ℕ) (x : List ℕ) → t + m < 4294967295 → Moves f D i t x
    → Moves f D i (t + m) (by_itself f D i H m x)
itself_moves f D i H zero t x h v =
    let e : t + 0 ≡ t = omega arith in
    subst (λ (k : ℕ). Moves f D i k (by_itself f D i H 0 x)) (sym e)
    (subst (Moves f D i t) (sym (by_itself_none f D i H x)) v)
itself_moves f D i H (suc m) t x h v =
    let y = by_itself f D i H m x in
    let w : Moves f D i (t + m) y = itself_moves f D i H m t x (omega arith) v in
    let e : t + suc m ≡ suc (t + m) = omega arith in
    subst (λ (k : ℕ). Moves f D i k (by_itself f D i H (suc m) x)) (sym e)
    (record {
      figured = v.figured;
      depth = v.depth;
      index = v.index;
      room = omega (arith, length_itself f D i H (suc m) x, v.room);
      fine = subst (λ (z : List ℕ). Fine f D (suc (t + m)) (station_at z i)) (sym (by_itself_more f D i H m x))
          (subst (Fine f D (suc (t + m))) (sym (turn_station f D i (H m) (t + m) y w (omega arith)))
          (fine_on f D i (H m) (t + m) y w (omega arith)));
    })
