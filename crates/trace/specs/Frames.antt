-- The frame of an accepted offer: each of its octets is below 256, the check sequence's too, and it opens with
-- receiveOK; a whole packet carries such a frame. Assumes nothing.
use Rattle.std.specs.Prelude.{ℕ, zero, suc, ◌+◌, ◌-◌, ◌/◌, ◌%◌, ◌<◌, ◌≡◌, refl, ◌||◌, length, get_or, replicate}
use Rattle.std.specs.Int.{byte_at, bytes_low_first}
use Rattle.std.proofs.Common.{sym, ◌∙◌, inl, arith, get_or-append-add}
use Rattle.std.proofs.Math.Path.{ap, subst}
use Rattle.std.proofs.Math.Bool.{false}
use mathlib.Core.List.{List, [], ◌∷◌, ◌++◌}
use Rattle.std.proofs.Math.ListN.{get_or-append}
use Rattle.octets.specs.Equal.{equal}
use Rattle.octets.specs.Number.{spelled}
use Rattle.octets.specs.NumberLaws.{Octets}
use Rattle.frame_crc.specs.Crc.{crc_of, check_sequence}
use Rattle.frame_crc.specs.Division.{sequence_is}
use Rattle.frame_build.specs.Build.{header, padded, covered, frame_of}
use Rattle.frame_open.specs.Open.{destination_of, source_of, receive_ok, Opening, opened}
use Rattle.frame_open.specs.RoundTrip.{handed_back, received, opens_frame}
use Rattle.station_spec.specs.Receive.{addressed}
use Rattle.trace.specs.Basic.{by_le}
use Rattle.bus_meeting.specs.Net.{Net}
use Rattle.trace.specs.World.{Offer, frame_for}
use Rattle.trace.specs.Run.{Sound, Made}
use Rattle.trace.specs.Inv.{Whole}
use Rattle.trace.specs.Attempts.{reported}

-- ---- octets

octets_none : Octets []
unfolding Octets
octets_none k = omega arith

octets_cons : (x : ℕ) (l : List ℕ) → x < 256 → Octets l → Octets (x ∷ l)
unfolding Octets
octets_cons x l h o zero = h
octets_cons x l h o (suc k) = o k

octets_append : (a b : List ℕ) → Octets a → Octets b → Octets (a ++ b)
unfolding Octets
octets_append a b o p k =
    by_le (length a) k
    (λ h. let e : k ≡ length a + (k - length a) = omega arith in
    subst (λ (x : ℕ). x < 256) (sym (ap (λ (i : ℕ). get_or (a ++ b) i 0) e ∙ get_or-append-add a b (k - length a) 0))
    (p (k - length a)))
    (λ h. subst (λ (x : ℕ). x < 256) (sym (get_or-append a b 0 k h)) (o k))

pub octets_replicate : (n x : ℕ) → x < 256 → Octets (replicate n x)
octets_replicate zero x h = octets_none
octets_replicate (suc n) x h = octets_cons x (replicate n x) h (octets_replicate n x h)

octets_spelled : (w v : ℕ) → Octets (spelled w v)
unfolding spelled
octets_spelled zero v = octets_none
octets_spelled (suc w) v =
    octets_append (spelled w (v / 256)) (v % 256 ∷ []) (octets_spelled w (v / 256))
    (octets_cons (v % 256) [] (omega arith) octets_none)

byte_small : (i v : ℕ) → byte_at i v < 256
byte_small zero v = omega arith
byte_small (suc i) v = omega arith

octets_low : (k i v : ℕ) → Octets (bytes_low_first i k v)
octets_low zero i v = octets_none
octets_low (suc k) i v = octets_cons (byte_at i v) (bytes_low_first (suc i) k v) (byte_small i v) (octets_low k (suc i) v)

octets_check : (l : List ℕ) → Octets (check_sequence l)
octets_check l = subst Octets (sequence_is l (crc_of l) refl) (octets_low 4 0 (crc_of l))

octets_frame : (d s : List ℕ) (v : ℕ) (x : List ℕ) → Octets d → Octets s → Octets x → Octets (frame_of d s v x)
unfolding frame_of covered header padded
octets_frame d s v x od os ox =
    octets_append (covered d s v x) (check_sequence (covered d s v x))
    (octets_append (header d s v) (padded x)
    (octets_append (d ++ s) (spelled 2 v) (octets_append d s od os) (octets_spelled 2 v))
    (octets_append x (replicate (46 - length x) 0) ox (octets_replicate (46 - length x) 0 (omega arith))))
    (octets_check (covered d s v x))

-- the octets of client data that opening a frame gives
unfoldable pub client_in : List ℕ → ℕ
client_in F = length (opened false F 0).client_data

client_of : (F y : List ℕ) → opened false F 0 ≡ received y
    → ((opened false F 0).status ≡ receive_ok (client_in F)) × (client_in F ≡ length y)
unfolding client_in
client_of F y e =
    let z : length (opened false F 0).client_data ≡ length y = ap (λ (o : Opening). length o.client_data) e in
    (ap (λ (o : Opening). o.status) e ∙ ap receive_ok (sym z), z)

-- ---- the frame of an offer to a station

module _ (P : Net) (span : ℕ) (L : Sound P span) (os : List (Offer P)) (i : ℕ) (hi : i < P.n) (F : List ℕ)
    (m : Made P os i F) where
  source_six : length (P.address m.offer.to) ≡ 6
  source_six = ap (λ (k : ℕ). length (P.address k)) m.to ∙ L.address i hi

  source_wide : Octets (P.address m.offer.to)
  source_wide = subst (λ (k : ℕ). Octets (P.address k)) (sym m.to) (L.wide i hi)

  -- each of its octets is below 256
  pub made_octets : Octets F
  unfolding frame_for
  made_octets =
      let o = m.offer in
      subst Octets (sym m.is) (octets_frame o.destination (P.address o.to) o.value o.payload
      o.octets source_wide o.contents)

  -- it opens with receiveOK, with the offer's data, under a type with their padding
  pub made_opens : opened false F 0 ≡ received (handed_back m.offer.value m.offer.payload)
  unfolding frame_for
  made_opens =
      let o = m.offer in
      ap (λ (f : List ℕ). opened false f 0) m.is
      ∙ (opens_frame o.destination (P.address o.to) o.value o.payload 0 o.six source_six o.small
      o.allowed (omega arith)).opens

  pub made_status : (opened false F 0).status ≡ receive_ok (client_in F)
  made_status = (client_of F (handed_back m.offer.value m.offer.payload) made_opens).0

  pub made_client : client_in F ≡ length (handed_back m.offer.value m.offer.payload)
  made_client = (client_of F (handed_back m.offer.value m.offer.payload) made_opens).1

  pub made_destination : destination_of F ≡ m.offer.destination
  unfolding frame_for
  made_destination =
      let o = m.offer in
      ap destination_of m.is
      ∙ (opens_frame o.destination (P.address o.to) o.value o.payload 0 o.six source_six o.small
      o.allowed (omega arith)).destination

  pub made_source : source_of F ≡ P.address i
  unfolding frame_for
  made_source =
      let o = m.offer in
      ap source_of m.is ∙ (opens_frame o.destination (P.address o.to) o.value o.payload 0
      o.six source_six o.small o.allowed (omega arith)).source
      ∙ ap P.address m.to

  -- whom it is for: "destination .. own" or "broadcast"
  pub made_addressed : (A : List ℕ)
      → addressed A F ≡ (equal m.offer.destination A || equal m.offer.destination (replicate 6 255))
  unfolding addressed
  made_addressed A = ap (λ (x : List ℕ). equal x A || equal x (replicate 6 255)) made_destination

-- ---- the frame of a whole packet

module _ (P : Net) (inp : ℕ → List (Offer P)) (span : ℕ) (L : Sound P span) (i a e : ℕ) (hi : i < P.n)
    (w : Whole P inp i a e) where
  -- whose offer it is
  pub whole_made : (since : ℕ) × Made P (inp since) i w.frame
  whole_made =
      let r = reported P inp span L i hi e w.attempts (inl w.sent) in
      (r.since, subst (Made P (inp r.since) i) (w.held e (omega (arith, w.long)) (omega arith)) r.made)

  pub whole_octets : Octets w.frame
  whole_octets = made_octets P span L (inp whole_made.0) i hi w.frame whole_made.1

  pub whole_status : (opened false w.frame 0).status ≡ receive_ok (client_in w.frame)
  whole_status = made_status P span L (inp whole_made.0) i hi w.frame whole_made.1
