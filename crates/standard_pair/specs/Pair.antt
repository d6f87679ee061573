-- Every station of the pair, in every step of every execution, does what section 4.2's processes do on the offers that
-- it accepts and on what it hears. Assumes nothing.
use Rattle.std.specs.Prelude.{ℕ, zero, suc, ◌≤◌, ◌<◌, ◌≡◌, refl, Bool, false, ◌&&◌, Option, None, Some}
use Rattle.std.proofs.Math.Path.{sym, ap, ap₂, subst₂}
use Rattle.std.proofs.Common.{◌∙◌, inl, inr, arith}
use Rattle.std.proofs.Math.Bool.{true, and-false}
use mathlib.Core.List.{List}
use Rattle.std.proofs.Math.Dec.{ltb}
use Rattle.std.proofs.Math.ListN.{length}
use borrow.Author.Tests.{lt-ltb}
use Rattle.octets.specs.Base.{pick}
use Rattle.area.specs.Area.{octet_with}
use Rattle.station_state.specs.declared.Station.{Station}
use Rattle.station_state.specs.declared.Transmitter.{Transmitter}
use Rattle.station_state.specs.declared.Transmitter.TheVariants.{NoFrame, Waiting, BackingOff, Sending, Heading}
use Rattle.station_state.specs.declared.Transmitter.TheVariants.{Jamming}
use Rattle.station_spec.specs.declared.Stepped.{Stepped}
use Rattle.station_spec.specs.declared.Stored.{Stored}
use Rattle.station_spec.specs.Step.{stepped}
use Rattle.bus_offer.specs.Offer.{holds, offered_station}
use Rattle.bus_spec.specs.After.{stored_in}
use Rattle.bus_meeting.specs.Net.{Net}
use Rattle.trace.specs.World.{Offer, before, fresh}
use Rattle.trace.specs.World.{fresh_station as freshAt}
use Rattle.trace.specs.Run.{state, out_at, sees, Sound, Kept, ready_kept, ready_buffer, station_suc, buffer_suc}
use Rattle.trace.specs.Run.{out_is, made_size}
use Rattle.standard.specs.Language.{Draws}
use Rattle.standard.specs.Interpreter.{kept_in}
use Rattle.standard.specs.Reading.{Machine, Input, bit_time, output_of}
use Rattle.standard.specs.Initialize.{initialize}
use Rattle.standard.specs.Seen.{fresh_station, is_free, takes, offered_to, step_of, shown}
use Rattle.standard.specs.TogetherLaws.{Agrees, one_bit_time}
use Rattle.standard.specs.Theorem.{fresh_agrees}
use Rattle.standard.specs.Points.{figured_ranges}

-- ---- what station i is given

-- the octets of the frame that it accepted just before step t, 0 if it accepted none
unfoldable pub offered_in : (P : Net) → (ℕ → List (Offer P)) → (i t : ℕ) → ℕ
offered_in P inp i t =
    pick (is_free ((before P inp t).station i).transmitter)
    (pick (holds (state P inp t i).transmitter) (state P inp t i).frame 0) 0

unfoldable pub input_at : (P : Net) → (ℕ → List (Offer P)) → (i t : ℕ) → Input
input_at P inp i t = record { offered = offered_in P inp i t; heard = sees P inp i t }

abbrev pub draws_of : Net → ℕ → Draws
draws_of P i = record { value = P.draw i; depth = P.depth }

-- section 4.2's processes at station i, before step t
unfoldable pub page_at : (P : Net) → (ℕ → List (Offer P)) → (i t : ℕ) → Machine
page_at P inp i zero = initialize P.fig (P.address i) (draws_of P i) (P.blank i)
page_at P inp i (suc t) = bit_time (input_at P inp i t) (page_at P inp i t)

-- ---- offers and buffers are the repository's

none_taken : (s : Station) (z : ℕ) → takes s z ≡ false → offered_to s z ≡ s
unfolding offered_to
none_taken s z e =
    ap (λ (b : Bool). record {
      address = s.address;
      deference = s.deference;
      transmitter = pick b Waiting s.transmitter;
      receiver = s.receiver;
      frame = pick b z s.frame;
      attempts = pick b 0 s.attempts;
      draw = s.draw;
      deferred = pick b false s.deferred;
      emitted = s.emitted;
    }) e

one_taken : (s : Station) (z : ℕ) → takes s z ≡ true → offered_to s z ≡ offered_station s z
unfolding offered_to offered_station
one_taken s z e =
    ap (λ (b : Bool). record {
      address = s.address;
      deference = s.deference;
      transmitter = pick b Waiting s.transmitter;
      receiver = s.receiver;
      frame = pick b z s.frame;
      attempts = pick b 0 s.attempts;
      draw = s.draw;
      deferred = pick b false s.deferred;
      emitted = s.emitted;
    }) e

kept_is : (l : List ℕ) (b : Option Stored) → kept_in l b ≡ stored_in l b
unfolding octet_with
kept_is l None = refl
kept_is l (Some b) = refl

nothing_new : (x : Transmitter) (z : ℕ) → pick (is_free x) (pick (holds x) z 0) 0 ≡ 0
nothing_new NoFrame z = refl
nothing_new Waiting z = refl
nothing_new (BackingOff w) z = refl
nothing_new (Sending k) z = refl
nothing_new (Heading k) z = refl
nothing_new (Jamming n ends) z = refl

module _ (P : Net) (inp : ℕ → List (Offer P)) (span : ℕ) (L : Sound P span) (i : ℕ) (hi : i < P.n) where
  abbrev station_in : ℕ → Station
  station_in t = (before P inp t).station i

  abbrev octets_in : ℕ → List ℕ
  octets_in t = (before P inp t).buffer i

  abbrev new_in : ℕ → Station → ℕ
  new_in t r = pick (is_free (station_in t).transmitter) (pick (holds r.transmitter) r.frame 0) 0

  offered_by : (t : ℕ) (r : Station) (F G : List ℕ) → Kept P (inp t) i (station_in t) r F G
      → r ≡ offered_to (station_in t) (new_in t r)
  unfolding offered_station
  offered_by t r F G (inl (e, g)) =
      let z : new_in t r ≡ 0 = ap (new_in t) e ∙ nothing_new (station_in t).transmitter (station_in t).frame in
      e ∙ sym (ap (offered_to (station_in t)) z ∙ none_taken (station_in t) 0 (and-false (is_free
      (station_in t).transmitter)))
  offered_by t r F G (inr (n, e, m)) =
      let z : new_in t r ≡ length G = ap (new_in t) e ∙ ap (λ (y : Transmitter). pick (is_free y) (length G) 0) n in
      let l : 64 ≤ length G = (made_size P span L (inp t) i hi G m).0 in
      let k : takes (station_in t) (length G) ≡ true =
      ap (λ (y : Transmitter). is_free y && ltb 0 (length G)) n ∙ lt-ltb 0 (length G) (omega arith) in
      e ∙ sym (ap (offered_to (station_in t)) z ∙ one_taken (station_in t) (length G) k)

  offered_is : (t : ℕ) → state P inp t i ≡ offered_to (station_in t) (offered_in P inp i t)
  unfolding offered_in
  offered_is t = offered_by t (state P inp t i) _ _ (ready_kept P inp t i)

  step_is : (t : ℕ)
      → step_of P.fig (draws_of P i) (station_in t) (octets_in t) (input_at P inp i t) ≡ out_at P inp i t
  unfolding step_of input_at offered_to
  step_is t =
      sym (out_is P inp span L i hi t
      ∙ ap₂ (λ (r : Station) (b : List ℕ). stepped P.fig r P.depth (P.draw i r.draw) b (sees P inp i t))
      (offered_is t) (ready_buffer P inp t i))

  -- ---- station and processes agree in every step

  abbrev AgreesAt : ℕ → Type 0
  AgreesAt t = Agrees P.fig (draws_of P i) (station_in t) (octets_in t) (page_at P inp i t)

  agrees_first : AgreesAt 0
  unfolding before fresh freshAt fresh_station page_at
  agrees_first = fresh_agrees P.fig (P.address i) (draws_of P i) (P.blank i) (L.room i hi)

  agrees_next : (t : ℕ) → AgreesAt t → AgreesAt (suc t)
  unfolding page_at
  agrees_next t k =
      let b = one_bit_time P.fig (figured_ranges P.fig L.figures) (draws_of P i) (station_in t) (octets_in t)
      (page_at P inp i t) (input_at P inp i t) k in
      let e : (step_of P.fig (draws_of P i) (station_in t) (octets_in t) (input_at P inp i t)).station ≡ station_in
      (suc t) =
      ap (λ (o : Stepped). o.station) (step_is t) ∙ sym (station_suc P inp t i) in
      let g : kept_in (octets_in t)
      (step_of P.fig (draws_of P i) (station_in t) (octets_in t) (input_at P inp i t)).stored ≡ octets_in (suc t) =
      ap (λ (o : Stepped). kept_in (octets_in t) o.stored) (step_is t)
      ∙ kept_is (octets_in t) (out_at P inp i t).stored
      ∙ ap (λ (l : List ℕ). stored_in l (out_at P inp i t).stored) (sym (ready_buffer P inp t i))
      ∙ sym (buffer_suc P inp t i) in
      subst₂ (λ (r : Station) (l : List ℕ).
      Agrees P.fig (draws_of P i) r l (bit_time (input_at P inp i t) (page_at P inp i t))) e g b.agrees

  pub agrees_at : (t : ℕ) → AgreesAt t
  agrees_at zero = agrees_first
  agrees_at (suc t) = agrees_next t (agrees_at t)

  -- what station i shows in step t is what the processes show
  pub station_is_page : (t : ℕ) → output_of (page_at P inp i (suc t)).state ≡ shown (out_at P inp i t)
  unfolding page_at
  station_is_page t =
      (one_bit_time P.fig (figured_ranges P.fig L.figures) (draws_of P i) (station_in t) (octets_in t)
      (page_at P inp i t) (input_at P inp i t) (agrees_at t)).shows
      ∙ ap shown (step_is t)
