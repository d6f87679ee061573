-- A law for each way through the code of an offer. Assumes nothing.
use Rattle.std.specs.Prelude.{ℕ, ◌+◌, ◌≤◌, ◌<◌, max, ◌≡◌, List, length}
use Rattle.std.proofs.Math.Path.{sym, ap}
use Rattle.std.proofs.Common.{◌∙◌, arith}
use Rattle.std.proofs.Math.Bool.{false}
use Rattle.octets.specs.Base.{Answer, Outcome, outcome}
use Rattle.octets.specs.BaseLaws.{refusal_numbered}
use Rattle.octets.specs.Store.{length_part}
use Rattle.frame_build.specs.Limits.{refuses_data}
use Rattle.frame_build.specs.Build.{frame_of}
use Rattle.frame_build.specs.BuildLaws.{frame_size, data_within}
use Rattle.area.specs.Area.{address_at, with_frame, frame_built}
use Rattle.std.proofs.lemmas.Bool.Decides.{nat_tests}
use Rattle.std.proofs.lemmas.Result.{err_from_is_err_and}
use Rattle.area_check.specs.AreaCheckLaws.{passes_long, passes_count}
use Rattle.bus_offer.specs.Offer.{with_held, with_offered, with_offer}
use Rattle.area.specs.Offsets.{area_size, address_from}
use Rattle.sheet_layout.specs.Limits.{max_stations}

-- what is built where the data are not refused
frame_placed : (a b d : List ℕ) (v : ℕ) (x : List ℕ) (i : ℕ) (r : Answer) → refuses_data v (length x) ≡ false
    → outcome r b ≡ frame_built a i d v x
    → b ≡ with_frame a i (frame_of d (address_at a i) v x)
unfolding frame_built
frame_placed a b d v x i r h p = ap (λ (o : Outcome). o.octets) (rw h at p)

pub accepted_is : (a b c e d : List ℕ) (v : ℕ) (x : List ℕ) (i n : ℕ) (r : Answer) → e ≡ with_offered c i
    → c ≡ with_held b i n → n ≡ max 46 (length x) + 18
    → outcome r b ≡ frame_built a i d v x → refuses_data v (length x) ≡ false → length d ≡ 6 → length (address_at a i) ≡ 6
    → e ≡ with_offer a i d v x
unfolding with_offer
accepted_is a b c e d v x i n r p q en eb h hd hs =
    let f : b ≡ with_frame a i (frame_of d (address_at a i) v x) = frame_placed a b d v x i r h eb in
    let z : n ≡ length (frame_of d (address_at a i) v x) = en ∙ sym (frame_size d (address_at a i) v x hd hs) in
    p ∙ rw (q, f, z)

pub address_six : (a : List ℕ) (i : ℕ) → i < max_stations → area_size ≤ length a → length (address_at a i) ≡ 6
unfolding address_at
address_six a i h g = length_part a (address_from i) 6 (omega arith)

pub data_small : (v : ℕ) (x : List ℕ) → refuses_data v (length x) ≡ false → length x ≤ 65535
data_small v x h = let w = data_within v (length x) h in omega arith

pub ruleset offering = (nat_tests, err_from_is_err_and, refusal_numbered, passes_long, passes_count)
