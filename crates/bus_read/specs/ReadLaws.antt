-- A law for each way through the code of a reading. Assumes nothing.
use Rattle.std.specs.Prelude.{ℕ, ◌≤◌, ◌<◌, ◌≡◌, List, length, take}
use Rattle.std.proofs.Math.Path.{sym, ap}
use Rattle.std.proofs.Common.{◌∙◌, arith}
use Rattle.std.proofs.lemmas.List.Edits.{sets}
use Rattle.octets.specs.BaseLaws.{refusal_numbered}
use Rattle.octets.specs.NumberLaws.{Octets}
use Rattle.octets.specs.Store.{length_part}
use Rattle.station_state.specs.declared.Receiver.{Receiver}
use Rattle.station_state.specs.declared.Receiver.TheVariants.{Listening, Readable, Seeking, Collecting}
use Rattle.station_state.specs.declared.Station.{Station}
use Rattle.station_spec.specs.Count.{octets_in}
use Rattle.area.specs.Area.{count_at, station_at, buffer_at}
use Rattle.std.proofs.lemmas.Bool.Decides.{nat_tests}
use Rattle.std.proofs.lemmas.Result.{err_from_is_err_and}
use Rattle.area_check.specs.AreaCheckLaws.{passes_long, passes_count}
use Rattle.area_check.specs.Valid.{area_refusal}
use Rattle.bus_spec.specs.Range.{ReceiverIn}
use Rattle.bus_spec.specs.Passes.{passes_ready}
use Rattle.area.specs.Offsets.{area_size, from, the_buffer}
use Rattle.frame_build.specs.Limits.{buffer_octets}
use Rattle.sheet_layout.specs.Limits.{max_stations}

pub copied_is : (a out x b : List ℕ) (i n : ℕ) → x ≡ sets out 0 (take n b) → b ≡ buffer_at a i
    → x ≡ sets out 0 (take n (buffer_at a i))
copied_is a out x b i n p q = p ∙ rw q

pub buffer_room : (a b : List ℕ) (i n : ℕ) → b ≡ buffer_at a i → i < max_stations → area_size ≤ length a → n ≤ buffer_octets
    → n ≤ length b
unfolding buffer_at
buffer_room a b i n p h g l =
    let e : length b ≡ buffer_octets = ap length p
    ∙ length_part a (from (the_buffer i)) buffer_octets (omega arith) in omega arith

in_range : (t : ℕ) (x : Receiver) → ReceiverIn t x → octets_in x ≤ buffer_octets
in_range t Listening v = omega arith
in_range t (Readable n) v = v.1
in_range t (Seeking row sp own) v = omega arith
in_range t (Collecting n sp own) v = omega arith

-- what an area that passes has to be read
pub read_room : (a : List ℕ) (m i n : ℕ) (s : Station) → 0 ≡ area_refusal a → Octets a → m ≡ count_at a → i < m
    → s ≡ station_at a i → n ≡ octets_in s.receiver → n ≤ buffer_octets
read_room a m i n s e o em hi es en =
    let r = (passes_ready a o (sym e)).ready in
    let v = (r.fine i (omega arith)).receiver in
    let z : n ≡ octets_in (station_at a i).receiver = en ∙ ap (λ (x : Station). octets_in x.receiver) es in
    omega (arith, in_range _ (station_at a i).receiver v)

pub ruleset reading = (nat_tests, err_from_is_err_and, refusal_numbered, passes_long, passes_count, read_room)
