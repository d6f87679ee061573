-- The receiver's step by itself: what it decides of a frame that was collected whole, what a receiveOK says of the step
-- and of the one before it, and what leaves a frame readable. Assumes nothing.
use Rattle.std.specs.Prelude.{ℕ, ◌*◌, ◌/◌, ◌%◌, ◌≤◌, ◌≡◌, refl, Bool, true, false, ◌||◌, List, ◌⊎◌, ltb, eqb, get_or, None, Some}
use Rattle.std.proofs.Math.Path.{sym, ap}
use Rattle.std.proofs.Common.{◌∙◌, ap₂, subst, inl, inr, take-take}
use native.Mathlib.Omega.{arith}
use Rattle.std.proofs.Math.ListN.{length, take}
use borrow.Author.Tests.{le-ltb, eqb-true}
use Rattle.octets.specs.Base.{pick, Answer, refused, values_of}
use Rattle.octets.specs.BaseLaws.{by_test}
use Rattle.frame_open.specs.Open.{destination_of, value_of, fragment, frame_too_long, frame_check_error}
use Rattle.frame_open.specs.Open.{alignment_error}
use Rattle.frame_open.specs.Open.{receive_ok, Opening, check_wrong, check_error, opened}
use Rattle.frame_build.specs.Limits.{max_frame, buffer_octets, shortest_frame}
use Rattle.station_symbols.specs.declared.Heard.{Heard}
use Rattle.station_symbols.specs.declared.Heard.TheVariants.{Nothing, Clean, Spoiled}
use Rattle.station_spec.specs.declared.ReceiveEvent.TheVariants.{GotOk}
use Rattle.station_state.specs.declared.Receiver.{Receiver}
use Rattle.station_state.specs.declared.Receiver.TheVariants.{Listening, Readable, Seeking, Collecting}
use Rattle.station_spec.specs.Receive.{seek_bit, seek, collect_bit, collect, hear, addressed, open_answer, got_event}
use Rattle.station_spec.specs.Receive.{readable_after, deciding, opening, decide, ended, receive, next_row}
use Rattle.trace.specs.Basic.{clash}
use Rattle.trace.specs.Listen.{Idle, ended_idle}

-- ---- what is decided of a frame that was collected whole

module _ (A B F : List ℕ) (k : ℕ) (lo : 64 ≤ length F) (hi : length F ≤ buffer_octets) (b : take (length F) B ≡ F) where
  destination_same : addressed A B ≡ addressed A F
  unfolding addressed destination_of
  destination_same =
      let e : take 6 B ≡ take 6 F = sym (take-take 6 (length F) B (omega arith)) ∙ ap (take 6) b in rw e

  whole_octets : 8 * length F / 8 ≡ length F
  whole_octets = omega arith

  answer_is : (opened false F 0).status ≡ receive_ok k → open_answer B (8 * length F) false ≡ receive_ok k
  unfolding open_answer
  answer_is s =
      let r : 8 * length F % 8 ≡ 0 = omega arith in
      rw (whole_octets, r, le-ltb buffer_octets (length F) hi, b) s

  opening_is : (opened false F 0).status ≡ receive_ok k
      → opening B (8 * length F) false ≡ deciding (Readable (length F)) (Some (GotOk k))
  unfolding opening got_event readable_after
  opening_is s = rw (answer_is s, whole_octets)

  pub decide_for : (opened false F 0).status ≡ receive_ok k → addressed A F ≡ true
      → decide A B (8 * length F) false false ≡ deciding (Readable (length F)) (Some (GotOk k))
  unfolding decide
  decide_for s d = rw (le-ltb (8 * length F) shortest_frame (omega arith), destination_same, d) (opening_is s)

  pub decide_else : addressed A F ≡ false → decide A B (8 * length F) false false ≡ deciding Listening None
  unfolding decide
  decide_else d = rw (le-ltb (8 * length F) shortest_frame (omega arith), destination_same, d)

pub ended_collecting : (A B : List ℕ) (n : ℕ) (s o : Bool) → ended A B (Collecting n s o) ≡ decide A B n s o
unfolding ended
ended_collecting A B n s o = refl

-- ---- what a receiveOK says of the step

pub no_ok : (m : ℕ) → None ≡ Some (GotOk m) → ⊥
no_ok m e = let z : ◌≡◌ {A = ℕ} 0 1 = cc in omega arith

-- an answer that is not reported as receiveOK
abbrev Not : ℕ → Answer → Type 0
Not m r = (n : ℕ) → got_event r n ≡ Some (GotOk m) → ⊥

not_status : (m : ℕ) (r : Answer) → eqb (get_or (values_of r) 0 0) 5 ≡ false → Not m r
unfolding got_event
not_status m r h n e =
    by_test (eqb (get_or (values_of r) 0 0) 1) (λ c. let z : ◌≡◌ {A = ℕ} 0 1 = cc (rw c at e) in omega arith)
    (λ c. by_test (eqb (get_or (values_of r) 0 0) 2) (λ d. let z : ◌≡◌ {A = ℕ} 0 1 = cc (rw (c, d) at e) in omega arith)
    (λ d. by_test (eqb (get_or (values_of r) 0 0) 3) (λ f. let z : ◌≡◌ {A = ℕ} 0 1 = cc (rw (c, d, f) at e) in omega arith)
    (λ f. by_test (eqb (get_or (values_of r) 0 0) 4)
    (λ g. let z : ◌≡◌ {A = ℕ} 0 1 = cc (rw (c, d, f, g) at e) in omega arith)
    (λ g. no_ok m (rw (c, d, f, g, h) at e)))))

not_choice : (m : ℕ) (t : Bool) (x y : Opening) → Not m x.status → Not m y.status → Not m (pick t x y).status
not_choice m true x y p q = p
not_choice m false x y p q = q

not_check : (m e : ℕ) → Not m (check_error e)
unfolding check_error
not_check m e =
    by_test (eqb e 0) (λ c. rw c (not_status m frame_check_error refl)) (λ c. rw c (not_status m alignment_error refl))

-- a spoiled reception
spoiled_not : (m : ℕ) (f : List ℕ) (e : ℕ) → Not m (opened true f e).status
unfolding opened check_wrong
spoiled_not m f e =
    not_choice m (ltb 7 e) _ _ (not_status m (refused 5) refl)
    (not_choice m (ltb (length f) 64) _ _ (not_status m fragment refl)
    (not_choice m (ltb (max_frame (value_of f)) (length f)) _ _ (not_status m frame_too_long refl) (not_check m e)))

spoiled_answer : (m : ℕ) (B : List ℕ) (n : ℕ) → Not m (open_answer B n true)
unfolding open_answer
spoiled_answer m B n =
    by_test (ltb buffer_octets (n / 8)) (λ c. rw c (not_status m frame_too_long refl))
    (λ c. rw c (spoiled_not m (take (n / 8) B) (n % 8)))

opening_clean : (m : ℕ) (B : List ℕ) (n : ℕ) (s : Bool) → (opening B n s).event ≡ Some (GotOk m) → s ≡ false
unfolding opening
opening_clean m B n true e = absurd (spoiled_answer m B n (n / 8) e)
opening_clean m B n false e = refl

decide_ok : (A B : List ℕ) (n : ℕ) (s o : Bool) (m : ℕ) → (decide A B n s o).event ≡ Some (GotOk m)
    → (s ≡ false) × (o ≡ false)
unfolding decide
decide_ok A B n s o m e =
    by_test (ltb n shortest_frame) (λ c. absurd (no_ok m (rw c at e)))
    (λ c. by_test o (λ d. absurd (no_ok m (rw (c, d) at e)))
    (λ d. by_test (addressed A B) (λ f. (opening_clean m B n s (rw (c, d, f) at e), d))
    (λ f. absurd (no_ok m (rw (c, d, f) at e)))))

-- in a reception nothing is reported
seek_none : (row : ℕ) (s o c b : Bool) → (seek row s o c b).event ≡ None
unfolding seek seek_bit
seek_none row s o true b = refl
seek_none row s o false b = refl

hear_none : (r : Receiver) (c b e : Bool) → (hear r c b e).event ≡ None
unfolding hear collect collect_bit
hear_none Listening c b e = seek_none 1 false e c b
hear_none (Readable n) c b e = seek_none 1 false e c b
hear_none (Seeking row s o) c b e = seek_none row s (o || e) c b
hear_none (Collecting n s o) c b e = refl

-- A receiveOK: nothing is heard, and what was collected is clean, the station silent meanwhile.
pub record Ok (r : Receiver) (h : Heard) : Type 0 where
  pub bits : ℕ
  pub silence : h ≡ Nothing
  pub collected : r ≡ Collecting bits false false

ended_ok : (A B : List ℕ) (r : Receiver) (m : ℕ) → (ended A B r).event ≡ Some (GotOk m) → Ok r Nothing
unfolding ended
ended_ok A B Listening m e = absurd (no_ok m e)
ended_ok A B (Readable n) m e = absurd (no_ok m e)
ended_ok A B (Seeking row s o) m e = absurd (no_ok m e)
ended_ok A B (Collecting n s o) m e =
    let d = decide_ok A B n s o m e in record { bits = n; silence = refl; collected = ap₂ (Collecting n) d.0 d.1 }

pub receive_ok_lem : (A B : List ℕ) (r : Receiver) (h : Heard) (x : Bool) (m : ℕ)
    → (receive A B r h x).event ≡ Some (GotOk m)
    → Ok r h
unfolding receive
receive_ok_lem A B r Nothing x m e = ended_ok A B r m e
receive_ok_lem A B r (Clean b) x m e = absurd (no_ok m (sym (hear_none r true b x) ∙ e))
receive_ok_lem A B r Spoiled x m e = absurd (no_ok m (sym (hear_none r false false x) ∙ e))

-- after a step that was not clean, what is collected is not clean
or_not : (s : Bool) → (s || true) ≡ false → ⊥
or_not true e = clash refl e
or_not false e = clash refl e

spoils : (r : Receiver) (x : Bool) (n : ℕ) (o : Bool) → (hear r false false x).receiver ≡ Collecting n false o → ⊥
unfolding hear seek collect collect_bit
spoils Listening x n o e = let z : ◌≡◌ {A = ℕ} 0 1 = cc in omega arith
spoils (Readable k) x n o e = let z : ◌≡◌ {A = ℕ} 0 1 = cc in omega arith
spoils (Seeking row s p) x n o e = let z : ◌≡◌ {A = ℕ} 0 1 = cc in omega arith
spoils (Collecting k s p) x n o e = or_not s cc

pub last_clean : (A B : List ℕ) (r : Receiver) (h : Heard) (x : Bool) (n : ℕ) (o : Bool)
    → (receive A B r h x).receiver ≡ Collecting n false o → (b : Bool) × (h ≡ Clean b)
unfolding receive
last_clean A B r Nothing x n o e = absurd (subst Idle e (ended_idle A B r))
last_clean A B r (Clean b) x n o e = (b, refl)
last_clean A B r Spoiled x n o e = absurd (spoils r x n o e)

-- ---- the step that makes a frame readable, or leaves it so

-- what leaves the receiver with n readable octets: nothing is heard, and they were so before, or a frame is got
pub record Leaves (A B : List ℕ) (r : Receiver) (h : Heard) (x : Bool) (n : ℕ) : Type 0 where
  pub silence : h ≡ Nothing
  pub why : (r ≡ Readable n) ⊎ ((m : ℕ) × ((receive A B r h x).event ≡ Some (GotOk m)))

got_five : (B : List ℕ) (n : ℕ) (s : Bool) → get_or (values_of (open_answer B n s)) 0 0 ≡ 5
    → (opening B n s).event ≡ Some (GotOk (get_or (values_of (open_answer B n s)) 1 0))
unfolding opening got_event
got_five B n s e = rw e

opening_reads : (B : List ℕ) (n : ℕ) (s : Bool) (k : ℕ) → (opening B n s).receiver ≡ Readable k
    → (m : ℕ) × ((opening B n s).event ≡ Some (GotOk m))
unfolding opening readable_after
opening_reads B n s k e =
    by_test (eqb (get_or (values_of (open_answer B n s)) 0 0) 5)
    (λ c. (
      get_or (values_of (open_answer B n s)) 1 0,
      got_five B n s
          (eqb-true (get_or (values_of (open_answer B n s)) 0 0) 5 c),
    ))
    (λ c. absurd (let z : ◌≡◌ {A = ℕ} 0 1 = cc (rw c at e) in omega arith))

decide_reads : (A B : List ℕ) (n : ℕ) (s o : Bool) (k : ℕ) → (decide A B n s o).receiver ≡ Readable k
    → (m : ℕ) × ((decide A B n s o).event ≡ Some (GotOk m))
unfolding decide
decide_reads A B n s o k e =
    by_test (ltb n shortest_frame) (λ c. absurd (let z : ◌≡◌ {A = ℕ} 0 1 = cc (rw c at e) in omega arith))
    (λ c. by_test o (λ d. absurd (let z : ◌≡◌ {A = ℕ} 0 1 = cc (rw (c, d) at e) in omega arith))
    (λ d. by_test (addressed A B)
    (λ f. rw (c, d, f) (opening_reads B n s k (rw (c, d, f) at e)))
    (λ f. absurd (let z : ◌≡◌ {A = ℕ} 0 1 = cc (rw (c, d, f) at e) in omega arith))))

seek_reads : (row : ℕ) (s o c b : Bool) (k : ℕ) → (seek row s o c b).receiver ≡ Readable k → ⊥
unfolding seek seek_bit
seek_reads row s o true b k e =
    by_test (eqb (next_row row b) 427)
    (λ c. let z : ◌≡◌ {A = ℕ} 0 1 = cc (rw c at e) in omega arith)
    (λ c. let z : ◌≡◌ {A = ℕ} 0 1 = cc (rw c at e) in omega arith)
seek_reads row s o false b k e = let z : ◌≡◌ {A = ℕ} 0 1 = cc in omega arith

hear_reads : (r : Receiver) (c b x : Bool) (k : ℕ) → (hear r c b x).receiver ≡ Readable k → ⊥
unfolding hear collect collect_bit
hear_reads Listening c b x k e = seek_reads 1 false x c b k e
hear_reads (Readable n) c b x k e = seek_reads 1 false x c b k e
hear_reads (Seeking row s o) c b x k e = seek_reads row s (o || x) c b k e
hear_reads (Collecting n s o) c b x k e = let z : ◌≡◌ {A = ℕ} 0 1 = cc in omega arith

ended_reads : (A B : List ℕ) (r : Receiver) (k : ℕ) → (ended A B r).receiver ≡ Readable k
    → (r ≡ Readable k) ⊎ ((m : ℕ) × ((ended A B r).event ≡ Some (GotOk m)))
unfolding ended
ended_reads A B Listening k e = absurd (let z : ◌≡◌ {A = ℕ} 0 1 = cc in omega arith)
ended_reads A B (Readable n) k e = inl e
ended_reads A B (Seeking row s o) k e = absurd (let z : ◌≡◌ {A = ℕ} 0 1 = cc in omega arith)
ended_reads A B (Collecting n s o) k e = inr (decide_reads A B n s o k e)

pub receive_reads : (A B : List ℕ) (r : Receiver) (h : Heard) (x : Bool) (k : ℕ)
    → (receive A B r h x).receiver ≡ Readable k → Leaves A B r h x k
unfolding receive
receive_reads A B r Nothing x k e = record { silence = refl; why = ended_reads A B r k e }
receive_reads A B r (Clean b) x k e = absurd (hear_reads r true b x k e)
receive_reads A B r Spoiled x k e = absurd (hear_reads r false false x k e)

pub ended_readable : (A B : List ℕ) (n : ℕ) → ended A B (Readable n) ≡ deciding (Readable n) None
unfolding ended
ended_readable A B n = refl
