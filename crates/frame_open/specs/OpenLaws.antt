-- A law for each way through the opener, and what a receiveOK says of the client data. Assumes nothing.
use Rattle.std.specs.Prelude.{ℕ, ◌+◌, ◌-◌, ◌≤◌, max, ◌≡◌, refl, Result, Ok, Err, Bool, true, false, not, List, [], ◌∷◌, ltb, leb, eqb, get_or, take, drop, ◌<◌}
use Rattle.std.proofs.Common.{sym, ◌∙◌, ap, length-take, length-drop, take-take}
use native.Mathlib.Omega.{arith}
use borrow.Author.Tests.{ltb-false, eqb-true, not-false, lt-ltb}
use Rattle.std.proofs.Math.ListN.{length}
use Rattle.octets.specs.Base.{pick, Answer, refused, accepted, values_of, refusal_number}
use Rattle.octets.specs.Store.{part}
use Rattle.frame_build.specs.Limits.{max_length, min_data, min_type, max_frame}
use Rattle.octets.specs.declared.Refusal.{Refusal}
use Rattle.frame_open.specs.declared.ReceiveStatus.{ReceiveStatus}
use Rattle.frame_open.specs.declared.ReceiveStatus.TheVariants.{Fragment, FrameTooLong, FrameCheckError}
use Rattle.frame_open.specs.declared.ReceiveStatus.TheVariants.{AlignmentError, LengthError, ReceiveOk}
use Rattle.frame_open.specs.Open.{status_answer, value_of, data_field, fragment, frame_too_long, frame_check_error}
use Rattle.frame_open.specs.Open.{alignment_error, length_error, receive_ok, Opening, without, check_wrong}
use Rattle.frame_open.specs.Open.{check_error, length_wrong, client_size, unpadded, opened}

-- ---- the length and padding rules, for the code

pub unpadded_status : (v : ℕ) (field : List ℕ) → (unpadded v field).status
    ≡ pick (pick (leb v max_length) (not (eqb (length field) (max min_data v))) (ltb v min_type)) length_error
    (receive_ok (pick (leb v max_length) v (length field)))
unfolding unpadded length_wrong client_size
unpadded_status v field = go (length_wrong v (length field)) (client_size v (length field))
  where
    go : (t : Bool) (n : ℕ) → (pick t (without length_error) (record { status = receive_ok n; client_data = take n field })).status
        ≡ pick t length_error (receive_ok n)
    go true n = refl
    go false n = refl

-- ---- what a status says of the client data

-- with receiveOK they are the n octets from octet 14 on, and the check sequence follows them in the frame
pub record Handed (f : List ℕ) (n : ℕ) (o : Opening) : Type 0 where
  pub octets : o.client_data ≡ part f 14 n
  pub room : 18 + n ≤ length f

-- without it there are none
pub record Fair (f : List ℕ) (o : Opening) : Type 0 where
  pub handed : (n : ℕ) → o.status ≡ receive_ok n → Handed f n o
  pub none : ((n : ℕ) → o.status ≡ receive_ok n → ⊥) → [] ≡ o.client_data

-- by the test of a choice
by_test : (P : Opening → Type 0) (t : Bool) (a b : Opening) → (t ≡ true → P a) → (t ≡ false → P b) → P (pick t a b)
by_test P true a b p q = p refl
by_test P false a b p q = q refl

fair_without : (f : List ℕ) (r : Answer) → ((n : ℕ) → r ≡ receive_ok n → ⊥) → Fair f (without r)
fair_without f r h = record { handed = λ n p. absurd (h n p); none = λ q. refl }

-- the first value of an answer, which numbers the status
first : Answer → ℕ
first r = get_or (values_of r) 0 0

pub other_status : (k n : ℕ) → (k ≡ 5 → ⊥) → accepted (k ∷ []) ≡ receive_ok n → ⊥
unfolding first
other_status k n h p = h (ap first p)

pub refused_status : (k n : ℕ) → refused k ≡ receive_ok n → ⊥
unfolding first
refused_status k n p = let z : ◌≡◌ {A = ℕ} 0 5 = ap first p in omega arith

fair_check : (f : List ℕ) (e : ℕ) → Fair f (without (check_error e))
unfolding check_error
fair_check f e = go (eqb e 0)
  where
    go : (t : Bool) → Fair f (without (pick t frame_check_error alignment_error))
    go true = fair_without f frame_check_error (λ n. other_status 2 n (λ z. omega arith))
    go false = fair_without f alignment_error (λ n. other_status 3 n (λ z. omega arith))

length_field : (f : List ℕ) → length (data_field f) ≡ length f - 18
unfolding data_field
length_field f = length-take (length f - 18) (drop 14 f) ∙ omega (arith, length-drop 14 f)

-- the client data lie within the data field
client_within : (v n : ℕ) → length_wrong v n ≡ false → client_size v n ≤ n
unfolding length_wrong client_size
client_within v n h = go (leb v 1500) h
  where
    go : (t : Bool) → pick t (not (eqb n (max 46 v))) (ltb v min_type) ≡ false → pick t v n ≤ n
    go true p = let e : n ≡ max 46 v = eqb-true n (max 46 v) (not-false (eqb n (max 46 v)) p) in omega arith
    go false p = omega arith

part_field : (f : List ℕ) (n : ℕ) → n ≤ length f - 18 → take n (data_field f) ≡ part f 14 n
unfolding data_field
part_field f n h = take-take n (length f - 18) (drop 14 f) h

fair_ok : (f : List ℕ) (m : ℕ) → 64 ≤ length f → m ≤ length f - 18
    → Fair f (record { status = receive_ok m; client_data = take m (data_field f) })
fair_ok f m h k =
    record {
      handed = λ n p. let e : m ≡ n = ap (λ (r : Answer). get_or (values_of r) 1 0) p in
          record { octets = part_field f m k ∙ ap (part f 14) e; room = omega arith };
      none = λ q. absurd (q m refl);
    }

fair_rules : (f : List ℕ) (v : ℕ) → 64 ≤ length f → Fair f (unpadded v (data_field f))
unfolding unpadded
fair_rules f v h =
    by_test (Fair f) (length_wrong v (length (data_field f))) _ _
    (λ p. fair_without f length_error (λ n. other_status 4 n (λ z. omega arith)))
    (λ p. fair_ok f (client_size v (length (data_field f))) h
    (omega (arith, client_within v (length (data_field f)) p, length_field f)))

pub fair : (s : Bool) (f : List ℕ) (e : ℕ) → Fair f (opened s f e)
unfolding opened
fair s f e =
    by_test (Fair f) (ltb 7 e) _ _ (λ p. fair_without f (refused 5) (λ n. refused_status 5 n))
    (λ p. by_test (Fair f) (ltb (length f) 64) _ _
    (λ q. fair_without f fragment (λ n. other_status 0 n (λ z. omega arith)))
    (λ q. by_test (Fair f) (ltb (max_frame (value_of f)) (length f)) _ _
    (λ r. fair_without f frame_too_long (λ n. other_status 1 n (λ z. omega arith)))
    (λ r. by_test (Fair f) (check_wrong s f) _ _ (λ t. fair_check f e)
    (λ t. fair_rules f (value_of f) (ltb-false (length f) 64 q)))))

-- ---- the client data in the code

module _ (f : List ℕ) (e : ℕ) (r : Result ReceiveStatus Refusal) (p : status_answer r ≡ (opened false f e).status) where
  client_handed : (n : ℕ) (t : ReceiveStatus) → r ≡ Ok t → t ≡ ReceiveOk n → Handed f n (opened false f e)
  client_handed n t q g = (fair false f e).handed n (sym p ∙ ap status_answer (q ∙ ap Ok g))

  pub client_room : (n : ℕ) (t : ReceiveStatus) → r ≡ Ok t → t ≡ ReceiveOk n → 14 + n ≤ length f
  client_room n t q g = let h : 18 + n ≤ length f = (client_handed n t q g).room in omega arith

  pub client_ok : (n : ℕ) (t : ReceiveStatus) → r ≡ Ok t → t ≡ ReceiveOk n
      → take (14 + n - 14) (drop 14 f) ≡ (opened false f e).client_data
  client_ok n t q g = let z : 14 + n - 14 ≡ n = omega arith in rw z (sym (client_handed n t q g).octets)

  -- a refusal, or another status
  pub client_refused : (k : Refusal) → r ≡ Err k → [] ≡ (opened false f e).client_data
  client_refused k q =
      (fair false f e).none (λ n g. refused_status (refusal_number k) n (sym (ap status_answer q) ∙ p ∙ g))

  pub client_none : (t : ReceiveStatus) → r ≡ Ok t → ((n : ℕ) → t ≡ ReceiveOk n → ⊥) → [] ≡ (opened false f e).client_data
  client_none t q h = (fair false f e).none (λ n g. other t h n (sym (ap status_answer q) ∙ p ∙ g))
    where
      other : (t : ReceiveStatus) → ((n : ℕ) → t ≡ ReceiveOk n → ⊥) → (n : ℕ) → status_answer (Ok t) ≡ receive_ok n → ⊥
      other Fragment h n q = other_status 0 n (λ z. omega arith) q
      other FrameTooLong h n q = other_status 1 n (λ z. omega arith) q
      other FrameCheckError h n q = other_status 2 n (λ z. omega arith) q
      other AlignmentError h n q = other_status 3 n (λ z. omega arith) q
      other LengthError h n q = other_status 4 n (λ z. omega arith) q
      other (ReceiveOk k) h n q = absurd (h k refl)

-- "so too excess bits over 7"
pub opened_refused : (s : Bool) (f : List ℕ) (e : ℕ) → 7 < e → refused 5 ≡ (opened s f e).status
unfolding opened
opened_refused s f e h = rw (lt-ltb 7 e h)
