-- The words of a run by a plan, station by station: counting is the same in any order. Assumes nothing.
use Prim.Native.Nat.{ℕ, zero, suc, ◌+◌, ◌-◌, ◌≤◌, ◌<◌}
use Rattle.std.specs.Prelude.{◌≡◌, Bool, true, false, List, eqb, ltb, get_or, set}
use Rattle.std.proofs.Math.Path.{refl, sym, ap}
use Rattle.std.proofs.Common.{◌∙◌, ap₂, arith, ltb-true, ltb-false, get_or-set_other}
use Rattle.std.proofs.lemmas.List.{set_comm}
use Rattle.octets.specs.Base.{pick}
use Rattle.octets.specs.BaseLaws.{by_test, by_eq}
use Rattle.octets.specs.Filled.{filled, filled_at, filled_past}
use Rattle.octets.specs.Turns.{turns}
use Rattle.area.specs.Area.{count_at}
use Rattle.station_tally.specs.Tally.{bumped, counted, sent_counted, got_counted}
use Rattle.station_tally.specs.Words.{transmit_word, receive_word}
use Rattle.bus_spec.specs.declared.Events.{Events}
use Rattle.bus_spec.specs.BitTime.{events_of, no_events, event_at}
use Rattle.bus_spec.specs.Run.{tallied}
use Rattle.fast_plan.specs.Plan.{Plan, act_after}
use Rattle.fast_plan.specs.Runs.{events_by, tallied_by}

-- ---- two words, in either order

bumped_swap : (ws : List ℕ) (k l : ℕ) → bumped (bumped ws k) l ≡ bumped (bumped ws l) k
unfolding bumped
bumped_swap ws k l =
    by_eq k l (λ e. rw e)
    (λ e. rw (
      get_or-set_other ws k l (get_or ws k 0 + 1) 0 (λ q. e (sym q)),
      get_or-set_other ws l k (get_or ws l 0 + 1) 0 e,
    )
    (set_comm ws k l (get_or ws k 0 + 1) (get_or ws l 0 + 1) e))

counted_swap : (ws : List ℕ) (v w : ℕ) → counted (counted ws v) w ≡ counted (counted ws w) v
unfolding counted
counted_swap ws v w =
    by_test (eqb v 0)
    (λ p. by_test (eqb w 0) (λ q. rw (p, q)) (λ q. rw (p, q)))
    (λ p. by_test (eqb w 0) (λ q. rw (p, q)) (λ q. rw (p, q) (bumped_swap ws (v - 1) (w - 1))))

-- both events of a station in a step
unfoldable pub entered : Events → List ℕ → List ℕ
entered e ws = got_counted (sent_counted ws e.sent) e.got

pub entered_swap : (e g : Events) (ws : List ℕ) → entered g (entered e ws) ≡ entered e (entered g ws)
unfolding entered
entered_swap e g ws =
    let a = transmit_word e.sent in
    let b = receive_word e.got in
    let c = transmit_word g.sent in
    let d = receive_word g.got in
    ap (λ (x : List ℕ). counted x d) (counted_swap (counted ws a) b c)
    ∙ counted_swap (counted (counted ws a) c) b d
    ∙ ap (λ (x : List ℕ). counted (counted x d) b) (counted_swap ws a c)
    ∙ ap (λ (x : List ℕ). counted x b) (counted_swap (counted ws c) a d)

pub entered_none : (ws : List ℕ) → entered no_events ws ≡ ws
unfolding entered counted
entered_none ws = refl

-- ---- two loops, in either order, where their turns may change places

module _ {A : Type 0} where
  -- a turn after a loop, or before it
  turn_through : (g : A → A) (f : ℕ → A → A) (n : ℕ) (x : A) → ((i : ℕ) (y : A) → g (f i y) ≡ f i (g y))
      → g (turns f n x) ≡ turns f n (g x)
  unfolding turns
  turn_through g f zero x c = refl
  turn_through g f (suc n) x c = c n (turns f n x) ∙ ap (f n) (turn_through g f n x c)

  -- two loops of n turns are one
  turns_merged : (f g : ℕ → A → A) (n : ℕ) (x : A) → ((i j : ℕ) (y : A) → g j (f i y) ≡ f i (g j y))
      → turns g n (turns f n x) ≡ turns (λ i y. g i (f i y)) n x
  unfolding turns
  turns_merged f g zero x c = refl
  turns_merged f g (suc n) x c =
      ap (g n) (sym (turn_through (f n) g n (turns f n x) (λ i y. sym (c n i y))))
      ∙ ap (λ (y : A). g n (f n y)) (turns_merged f g n x c)

  turns_same : (f g : ℕ → A → A) (n : ℕ) (x : A) → ((i : ℕ) (y : A) → i < n → f i y ≡ g i y)
      → turns f n x ≡ turns g n x
  unfolding turns
  turns_same f g zero x h = refl
  turns_same f g (suc n) x h =
      ap (f n) (turns_same f g n x (λ i y l. h i y (omega arith))) ∙ h n (turns g n x) (omega arith)

  nothing_turns : (n : ℕ) (x : A) → x ≡ turns (λ i y. y) n x
  unfolding turns
  nothing_turns zero x = refl
  nothing_turns (suc n) x = nothing_turns n x

  pub turns_exchanged : (F : ℕ → ℕ → A → A) (K n : ℕ) (x : A)
      → ((s i t j : ℕ) (y : A) → F t j (F s i y) ≡ F s i (F t j y))
      → turns (λ s y. turns (λ i z. F s i z) n y) K x ≡ turns (λ i y. turns (λ s z. F s i z) K y) n x
  unfolding turns
  turns_exchanged F zero n x c = nothing_turns n x
  turns_exchanged F (suc K) n x c =
      ap (turns (λ i z. F K i z) n) (turns_exchanged F K n x c)
      ∙ turns_merged (λ i y. turns (λ s z. F s i z) K y) (λ i z. F K i z) n x
      (λ i j y. turn_through (λ z. F K j z) (λ s z. F s i z) K y (λ s z. c s i K j z))

-- ---- the run's words

-- those of station i in K steps
unfoldable pub words_by : List ℕ → Plan → (i K : ℕ) → List ℕ → List ℕ
words_by a P i K ws = turns (λ s w. entered (events_of (act_after a P i s)) w) K ws

event_at_lem : (a : List ℕ) (P : Plan) (s i : ℕ) → i < count_at a → event_at (events_by a P s) i ≡ events_of (act_after a P i s)
unfolding events_by
event_at_lem a P s i h = filled_at no_events (λ j. events_of (act_after a P j s)) (count_at a) i no_events h

event_past : (a : List ℕ) (P : Plan) (s i : ℕ) → count_at a ≤ i → event_at (events_by a P s) i ≡ no_events
unfolding events_by
event_past a P s i h =
    let e : i ≡ count_at a + (i - count_at a) = omega arith in
    ap (λ (m : ℕ). get_or (filled no_events (λ j. events_of (act_after a P j s)) (count_at a)) m no_events) e
    ∙ filled_past no_events (λ j. events_of (act_after a P j s)) (count_at a) (i - count_at a)

tallied_entered : (es : List Events) (n : ℕ) (ws : List ℕ) → tallied es n ws ≡ turns (λ i w. entered (event_at es i) w) n ws
unfolding tallied turns entered
tallied_entered es zero ws = refl
tallied_entered es (suc n) ws =
    ap (λ (x : List ℕ). got_counted (sent_counted x (event_at es n).sent) (event_at es n).got) (tallied_entered es n ws)

-- what no station past the last has
past_same : (a : List ℕ) (P : Plan) (K i : ℕ) (ws : List ℕ) → count_at a ≤ i
    → turns (λ s w. entered (event_at (events_by a P s) i) w) K ws ≡ ws
unfolding turns
past_same a P zero i ws h = refl
past_same a P (suc K) i ws h =
    ap₂ (λ (e : Events) (x : List ℕ). entered e x) (event_past a P K i h) (past_same a P K i ws h) ∙ entered_none ws

-- Theorem 4: the words of K steps are those of the stations, one station after the other
pub words_by_station : (a : List ℕ) (P : Plan) (K : ℕ) (ws : List ℕ)
    → tallied_by a P K ws ≡ turns (λ i w. pick (ltb i (count_at a)) (words_by a P i K w) w) 16 ws
unfolding tallied_by words_by
words_by_station a P K ws =
    turns_same (λ s w. tallied (events_by a P s) 16 w)
    (λ s w. turns (λ i z. entered (event_at (events_by a P s) i) z) 16 w) K ws
    (λ s w l. tallied_entered (events_by a P s) 16 w)
    ∙ turns_exchanged (λ s i z. entered (event_at (events_by a P s) i) z) K 16 ws
    (λ s i t j y. entered_swap (event_at (events_by a P s) i) (event_at (events_by a P t) j) y)
    ∙ turns_same (λ i w. turns (λ s z. entered (event_at (events_by a P s) i) z) K w)
    (λ i w. pick (ltb i (count_at a)) (turns (λ s z. entered (events_of (act_after a P i s)) z) K w) w) 16 ws
    (λ i w l. by_test (ltb i (count_at a))
    (λ c. rw c (turns_same (λ s z. entered (event_at (events_by a P s) i) z)
    (λ s z. entered (events_of (act_after a P i s)) z) K w
    (λ s z m. ap (λ (e : Events). entered e z) (event_at_lem a P s i (ltb-true i (count_at a) c)))))
    (λ c. rw c (past_same a P K i w (ltb-false i (count_at a) c))))
