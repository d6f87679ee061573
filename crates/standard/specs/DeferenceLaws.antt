-- A turn of the Deference process is document 01's deference. Assumes nothing.
use Rattle.std.specs.Prelude.{ℕ, ◌+◌, ◌≤◌, ◌<◌, ◌≡◌, Bool, ◌||◌, ◌&&◌, List, [], ◌∷◌}
use Rattle.std.proofs.Math.Path.{refl, sym, subst}
use Rattle.std.proofs.Common.{◌∙◌, ap, ap₂, subst₂, true≢false}
use Rattle.std.proofs.Math.Bool.{true, false, not, and-false}
use native.Mathlib.Omega.{arith}
use Rattle.std.proofs.Math.Dec.{ltb}
use borrow.Author.Tests.{ltb-true, ltb-false, lt-ltb, le-ltb, le-leb, lt-leb}
use Rattle.octets.specs.Base.{pick}
use Rattle.station_symbols.specs.Packet.{hears_any}
use Rattle.sheet_layout.specs.declared.Figures.{Figures}
use Rattle.sheet_layout.specs.Layout.{gap_of}
use Rattle.station_state.specs.declared.Deference.{Deference}
use Rattle.station_state.specs.declared.Deference.TheVariants.{Quiet, Busy, Gap}
use Rattle.station_state.specs.declared.Transmitter.{Transmitter}
use Rattle.station_state.specs.declared.Transmitter.TheVariants.{NoFrame, Waiting, BackingOff, Sending, Heading}
use Rattle.station_state.specs.declared.Transmitter.TheVariants.{Jamming}
use Rattle.station_spec.specs.declared.Deferred.{Deferred}
use Rattle.station_spec.specs.Defer.{to, quiet_rule, busy_rule, goes_back, gap_rule, defer}
use Rattle.station_spec.specs.Defer.{gap_over as gapOverRule}
use Rattle.standard.specs.Language.{Variables, with_number, Transmission, Reception, Signals, store, Statement}
use Rattle.standard.specs.Language.{look, deferring, was_transmitting, transmitting, frame_waiting, real_time}
use Rattle.standard.specs.Language.{test, skip, while, flag}
use Rattle.standard.specs.Interpreter.{Place, waiting, ran}
use Rattle.standard.specs.RunLaws.{Turns, goes, rest, set, num, seq, pass, stay, leave, again, round, yes₁, no₁}
use Rattle.standard.specs.Reading.{real_time_delay, start_real_time_delay, nothing}
use Rattle.standard.specs.Deference.{deference, watch_carrier, pass_frame, busy, gap, last_gap, let_start, restart}
use Rattle.standard.specs.Deference.{first_part, second_part}

-- ---- the places

abbrev pub in_quiet : Figures → Place
in_quiet f = waiting look (watch_carrier ∷ busy f ∷ deference f ∷ [])

abbrev pub in_busy : Figures → Place
in_busy f = waiting look (pass_frame ∷ gap f ∷ deference f ∷ [])

abbrev pub in_own_gap : Figures → Place
in_own_gap f = waiting look (while (real_time_delay f.gap1) nothing ∷ last_gap f ∷ deference f ∷ [])

-- what is left of the first part after others
abbrev pub until_part : Figures → List Statement
until_part f =
    test (λ s. not (real_time_delay f.gap1 s)) skip (first_part f) ∷ last_gap f ∷ deference f ∷ []

abbrev pub in_other_gap : Figures → Place
in_other_gap f = waiting look (until_part f)

abbrev pub in_restart : Figures → Place
in_restart f =
    waiting look (start_real_time_delay ∷ restart ∷ test (real_time_delay f.gap1) nothing skip ∷ until_part f)

abbrev pub in_last_gap : Figures → Place
in_last_gap f = waiting look (second_part f ∷ let_start ∷ deference f ∷ [])

abbrev pub in_start : Figures → Place
in_start f = waiting look (while (flag frame_waiting) nothing ∷ deference f ∷ [])

-- ---- where the process stands, and what document 01's phase is then

-- whether a packet or jam is going out
abbrev pub sends : Transmitter → Bool
sends NoFrame = false
sends Waiting = false
sends (BackingOff w) = false
sends (Sending k) = true
sends (Heading k) = true
sends (Jamming n ends) = true

-- x is the transmitter, e whether the station emitted in the last bit time
pub data DeferenceAt (f : Figures) (d : Variables) (x : Transmitter) (e : Bool) (p : Deference) (at : Place)
    : Type 0 where
  quiet : p ≡ Quiet → at ≡ in_quiet f → d.flags deferring ≡ false → sends x ≡ e → DeferenceAt f d x e p at
  starting : p ≡ Quiet → at ≡ in_start f → d.flags deferring ≡ false → sends x ≡ true → e ≡ true
      → DeferenceAt f d x e p at
  passing : (own : Bool) → p ≡ Busy own → at ≡ in_busy f → d.flags deferring ≡ true
      → d.flags was_transmitting ≡ own → (e ≡ false → sends x ≡ false) → (own || sends x) ≡ (own || e)
      → DeferenceAt f d x e p at
  restarts : p ≡ Busy false → at ≡ in_restart f → d.flags deferring ≡ true → sends x ≡ false → e ≡ false
      → 0 < f.gap1 → DeferenceAt f d x e p at
  own_gap : (n : ℕ) → p ≡ Gap n true → at ≡ in_own_gap f → d.flags deferring ≡ true → sends x ≡ false → e ≡ false
      → d.numbers real_time + 1 ≡ n → n ≤ f.gap1 → DeferenceAt f d x e p at
  other_gap : (n : ℕ) → p ≡ Gap n false → at ≡ in_other_gap f → d.flags deferring ≡ true → sends x ≡ false → e ≡ false
      → d.numbers real_time + 1 ≡ n → n ≤ f.gap1 → DeferenceAt f d x e p at
  second_gap : (n : ℕ) (own : Bool) → p ≡ Gap n own → at ≡ in_last_gap f → d.flags deferring ≡ true → sends x ≡ false
      → e ≡ false
      → d.numbers real_time + 1 + f.gap1 ≡ n → n ≤ gap_of f → DeferenceAt f d x e p at

-- what the transmitter's step leaves: x is its phase before and y after it, e whether it emits in it
pub record Follows (x : Transmitter) (start : Bool) (y : Transmitter) (e : Bool) : Type 0 where
  pub idle_emits : sends x ≡ false → start ≡ false → e ≡ false
  pub idle_sends : sends x ≡ false → start ≡ false → sends y ≡ false
  pub start_emits : start ≡ true → e ≡ true
  pub start_sends : start ≡ true → sends y ≡ true
  pub emits : sends x ≡ true → e ≡ true
  pub ends : e ≡ false → sends y ≡ false

-- whether a phase lets a frame start
abbrev pub is_quiet : Deference → Bool
is_quiet Quiet = true
is_quiet (Busy own) = false
is_quiet (Gap n own) = false

-- a bit time passes on the timer
abbrev pub ticked : Variables → Variables
ticked d = with_number real_time (d.numbers real_time + 1) d

-- a turn of the process
pub record DeferenceTurn (f : Figures) (d : Variables) (t : Transmission) (r : Reception) (s : Signals)
    (x : Transmitter) (p : Deference) (at : Place) (o : Deferred) : Type 0 where
  pub place : Place
  pub after : Variables
  pub turns : Turns look at (store (ticked d) t r s) (ran place (store after t r s))
  pub defers : after.flags deferring ≡ not (is_quiet o.phase)
  pub stands : (y : Transmitter) (e : Bool) → Follows x o.start y e → DeferenceAt f after y e o.phase place

or_same : (b : Bool) → (b || b) ≡ b
or_same true = refl
or_same false = refl

or_true : (b : Bool) → (b || true) ≡ true
or_true true = refl
or_true false = refl

or_false : (b : Bool) → (b || false) ≡ b
or_false true = refl
or_false false = refl

or_right : (a b : Bool) → (a || b) ≡ false → b ≡ false
or_right true b h = absurd (true≢false h)
or_right false b h = h

-- in a busy stretch
own_rule : (own : Bool) (x y : Transmitter) (e : Bool) → Follows x false y e → (own ≡ false → sends x ≡ false)
    → (own || sends y) ≡ (own || e)
own_rule true x y e k i = refl
own_rule false x y e k i = k.idle_sends (i refl) refl ∙ sym (k.idle_emits (i refl) refl)

module _ (f : Figures) (d : Variables) (t : Transmission) (r : Reception) (s : Signals) (x : Transmitter)
    (gap2 : 0 < f.gap2) where
  abbrev Turn : Deference → Place → Deferred → Type 0
  Turn p at o = DeferenceTurn f d t r s x p at o

  -- from one place to another
  turned : (at to : Place) {p : Deference} {o : Deferred} {v : Variables}
      → Turns look at (store (ticked d) t r s) (ran to (store v t r s)) → v.flags deferring ≡ not (is_quiet o.phase)
      → ((y : Transmitter) (e : Bool) → Follows x o.start y e → DeferenceAt f v y e o.phase to) → Turn p at o
  turned at to {p} {o} {v} a b c = record { place = to; after = v; turns = a; defers = b; stands = c }

  -- from the watch for a carrier, and from behind a gap, into a busy stretch
  module _ (h e : Bool) (hh : hears_any s.heard ≡ h) (he : s.emitted ≡ e)
      (tr : t.variables.flags transmitting ≡ sends x) where
    free : (h || e) ≡ false → not (hears_any s.heard || s.emitted) ≡ true
    free b = ap not (ap₂ ◌||◌ hh he ∙ b)

    taken : (h || e) ≡ true → not (hears_any s.heard || s.emitted) ≡ false
    taken b = ap not (ap₂ ◌||◌ hh he ∙ b)

    heavy : (h || e) ≡ true → (hears_any s.heard || s.emitted) ≡ true
    heavy b = ap₂ ◌||◌ hh he ∙ b

    clear : (h || e) ≡ false → (hears_any s.heard || s.emitted) ≡ false
    clear b = ap₂ ◌||◌ hh he ∙ b

    calm : (h || e) ≡ false → sends x ≡ false
        → ((hears_any s.heard || s.emitted) || t.variables.flags transmitting) ≡ false
    calm b i = ap₂ ◌||◌ (clear b) (tr ∙ i)

    -- the process as it stands in a busy stretch that begins, and in quiet
    into_busy : {v : Variables} → v.flags deferring ≡ true
        → v.flags was_transmitting ≡ (t.variables.flags transmitting || t.variables.flags transmitting)
        → sends x ≡ e → (y : Transmitter) (u : Bool) → Follows x false y u → DeferenceAt f v y u (Busy e) (in_busy f)
    into_busy g wt c y u l =
        passing e refl refl g (wt ∙ ap (λ (a : Bool). a || a) (tr ∙ c) ∙ or_same e) l.ends
        (own_rule e x y u l (λ z. c ∙ z))

    idle_quiet : {v : Variables} → v.flags deferring ≡ false → sends x ≡ false → (y : Transmitter) (u : Bool)
        → Follows x false y u → DeferenceAt f v y u Quiet (in_quiet f)
    idle_quiet g i y u l = quiet refl refl g (l.idle_sends i refl ∙ sym (l.idle_emits i refl))

    -- the first part after others is over
    first_over : (n : ℕ) → d.flags deferring ≡ true → sends x ≡ false → d.numbers real_time + 1 ≡ n → n ≤ f.gap1
        → ltb (d.numbers real_time + 1) f.gap1 ≡ false
        → Turn (Gap n false) (in_other_gap f) (to (Gap (n + 1) false))
    unfolding gap_of
    first_over n g i m k c =
        turned (in_other_gap f) (in_last_gap f)
        (goes (yes₁ (ap not c) (pass (seq (num (seq (stay (lt-ltb 0 f.gap2 gap2) rest))))))) g
        (λ y u l. second_gap (n + 1) false refl refl g (l.idle_sends i refl) (l.idle_emits i refl) (omega
        (arith, ltb-false (d.numbers real_time + 1) f.gap1 c)) (omega arith))

    held : (h || e) ≡ true → ((hears_any s.heard || s.emitted) || t.variables.flags transmitting) ≡ true
    held b = ap (λ (a : Bool). a || t.variables.flags transmitting) (ap₂ ◌||◌ hh he ∙ b)

    -- into a busy stretch, which the station's own emission began or not
    quiet_turn : (w : Bool) → d.flags deferring ≡ false → sends x ≡ e → (b : Bool) → (h || e) ≡ b
        → Turn Quiet (in_quiet f) (pick b (to (Busy e)) (record { phase = Quiet; start = w }))
    quiet_turn w g c true b =
        turned (in_quiet f) (in_busy f)
        (goes (leave (taken b) (seq (set (seq (set (seq (stay (held b) (seq (set rest)))))))))) refl
        (λ y u l. into_busy refl refl c y u l)
    quiet_turn true g c false b =
        turned (in_quiet f) (in_quiet f)
        (goes (stay (free b) rest)) g
        (λ y u l. quiet refl refl g (l.start_sends refl ∙ sym (l.start_emits refl)))
    quiet_turn false g c false b =
        turned (in_quiet f) (in_quiet f)
        (goes (stay (free b) rest)) g
        (λ y u l. idle_quiet g (c ∙ or_right h e b) y u l)

    start_turn : (w : Bool) → t.variables.flags frame_waiting ≡ false → sends x ≡ e → e ≡ true
        → Turn Quiet (in_start f) (to (Busy e))
    start_turn w fw c z =
        let b : (h || e) ≡ true = ap (λ (a : Bool). h || a) z ∙ or_true h in
        turned (in_start f) (in_busy f)
        (goes (leave fw (round (seq (leave (taken b) (seq (set (seq (set (seq (stay (held b) (seq
        (set rest))))))))))))) refl
        (λ y u l. into_busy refl refl c y u l)

    -- the gap begins
    gap_begins : (own : Bool) → (h || e) ≡ false → d.flags deferring ≡ true → d.flags was_transmitting ≡ own
        → sends x ≡ false → (c : Bool) → ltb 0 f.gap1 ≡ c → Turn (Busy own) (in_busy f) (to (Gap 1 own))
    unfolding gap_of
    gap_begins true b g wt i true c =
        turned (in_busy f) (in_own_gap f)
        (goes (leave (calm b i) (seq (yes₁ wt (seq (num (stay c rest))))))) g
        (λ y u l. own_gap 1 refl refl g (l.idle_sends i refl) (l.idle_emits i refl) refl (omega (
          arith,
          ltb-true 0
              f.gap1 c,
        )))
    gap_begins true b g wt i false c =
        turned (in_busy f) (in_last_gap f)
        (goes (leave (calm b i) (seq (yes₁ wt (seq (num (leave c (seq (num (seq (stay (lt-ltb 0
        f.gap2 gap2) rest))))))))))) g
        (λ y u l. second_gap 1 true refl refl g (l.idle_sends i refl) (l.idle_emits i refl) (omega
        (arith, ltb-false 0 f.gap1 c)) (omega arith))
    gap_begins false b g wt i true c =
        turned (in_busy f) (in_other_gap f)
        (goes (leave (calm b i) (seq (no₁ wt (seq (num (again (seq (leave (clear b) (yes₁ c rest)))))))))) g
        (λ y u l. other_gap 1 refl refl g (l.idle_sends i refl) (l.idle_emits i refl) refl (omega
        (arith, ltb-true 0 f.gap1 c)))
    gap_begins false b g wt i false c =
        turned (in_busy f) (in_last_gap f)
        (goes (leave (calm b i) (seq (no₁ wt (seq (num (again (seq (leave (clear b) (no₁ c (pass (yes₁ (ap not c)
        (pass (seq (num (seq (stay (lt-ltb 0 f.gap2 gap2) rest))))))))))))))))) g
        (λ y u l. second_gap 1 false refl refl g (l.idle_sends i refl) (l.idle_emits i refl) (omega
        (arith, ltb-false 0 f.gap1 c)) (omega arith))

    busy_turn : (own : Bool) → d.flags deferring ≡ true → d.flags was_transmitting ≡ own
        → (e ≡ false → sends x ≡ false) → (own || sends x) ≡ (own || e) → (b : Bool) → (h || e) ≡ b
        → Turn (Busy own) (in_busy f) (pick b (to (Busy (own || e))) (to (Gap 1 own)))
    busy_turn own g wt i j true b =
        turned (in_busy f) (in_busy f)
        (goes (stay (held b) (seq (set rest)))) g
        (λ y u l. passing (own || e) refl refl g (ap₂ ◌||◌ wt tr ∙ j) l.ends (own_rule (own || e) x y u l (λ z. i
        (or_right own e z))))
    busy_turn own g wt i j false b =
        gap_begins own b g wt (i (or_right h e b)) (ltb 0 f.gap1) refl

    restart_turn : d.flags deferring ≡ true → sends x ≡ false → 0 < f.gap1 → (b : Bool) → (h || e) ≡ b
        → Turn (Busy false) (in_restart f) (pick b (to (Busy false)) (to (Gap 1 false)))
    restart_turn g i n true b =
        turned (in_restart f) (in_restart f)
        (goes (num (stay (heavy b) (seq rest)))) g
        (λ y u l. restarts refl refl g (l.idle_sends i refl) (l.idle_emits i refl) n)
    restart_turn g i n false b =
        turned (in_restart f) (in_other_gap f)
        (goes (num (leave (clear b) (yes₁ (lt-ltb 0 f.gap1 n) rest)))) g
        (λ y u l. other_gap 1 refl refl g (l.idle_sends i refl) (l.idle_emits i refl) refl (omega arith))

    -- within the gap
    own_gap_turn : (n : ℕ) → d.flags deferring ≡ true → sends x ≡ false → d.numbers real_time + 1 ≡ n → n ≤ f.gap1
        → (c : Bool) → ltb (d.numbers real_time + 1) f.gap1 ≡ c
        → Turn (Gap n true) (in_own_gap f) (to (Gap (n + 1) true))
    unfolding gap_of
    own_gap_turn n g i m k true c =
        turned (in_own_gap f) (in_own_gap f)
        (goes (stay c rest)) g
        (λ y u l. own_gap (n + 1) refl refl g (l.idle_sends i refl) (l.idle_emits i refl) (omega arith) (omega
        (arith, ltb-true (d.numbers real_time + 1) f.gap1 c)))
    own_gap_turn n g i m k false c =
        turned (in_own_gap f) (in_last_gap f)
        (goes (leave c (seq (num (seq (stay (lt-ltb 0 f.gap2 gap2) rest)))))) g
        (λ y u l. second_gap (n + 1) true refl refl g (l.idle_sends i refl) (l.idle_emits i refl) (omega
        (arith, ltb-false (d.numbers real_time + 1) f.gap1 c)) (omega arith))

    other_gap_turn : (n : ℕ) → d.flags deferring ≡ true → sends x ≡ false → d.numbers real_time + 1 ≡ n
        → n ≤ f.gap1 → (c b : Bool) → ltb (d.numbers real_time + 1) f.gap1 ≡ c → (h || e) ≡ b
        → Turn (Gap n false) (in_other_gap f) (pick (b && c) (to (Busy false)) (to (Gap (n + 1) false)))
    unfolding gap_of
    other_gap_turn n g i m k true true c b =
        turned (in_other_gap f) (in_restart f)
        (goes (no₁ (ap not c) (again (seq (stay (heavy b) (seq rest)))))) g
        (λ y u l. restarts refl refl g (l.idle_sends i refl) (l.idle_emits i refl) (omega (
          arith,
          ltb-true
              (d.numbers real_time + 1) f.gap1 c,
        )))
    other_gap_turn n g i m k true false c b =
        turned (in_other_gap f) (in_other_gap f)
        (goes (no₁ (ap not c) (again (seq (leave (clear b) (yes₁ c rest)))))) g
        (λ y u l. other_gap (n + 1) refl refl g (l.idle_sends i refl) (l.idle_emits i refl) (omega arith) (omega
        (arith, ltb-true (d.numbers real_time + 1) f.gap1 c)))
    other_gap_turn n g i m k false true c b = first_over n g i m k c
    other_gap_turn n g i m k false false c b = first_over n g i m k c

    second_gap_turn : (n : ℕ) (own : Bool) → d.flags deferring ≡ true → sends x ≡ false
        → d.numbers real_time + 1 + f.gap1 ≡ n → ltb (d.numbers real_time + 1) f.gap2 ≡ true
        → Turn (Gap n own) (in_last_gap f) (to (Gap (n + 1) own))
    unfolding gap_of
    second_gap_turn n own g i m c =
        turned (in_last_gap f) (in_last_gap f)
        (goes (stay c rest)) g
        (λ y u l. second_gap (n + 1) own refl refl g (l.idle_sends i refl) (l.idle_emits i refl) (omega arith)
        (omega (arith, ltb-true (d.numbers real_time + 1) f.gap2 c)))

    -- the gap is over
    gap_ends : (n : ℕ) (own w : Bool) → sends x ≡ false → e ≡ false → t.variables.flags frame_waiting ≡ w
        → ltb (d.numbers real_time + 1) f.gap2 ≡ false → (b : Bool) → (h || e) ≡ b
        → Turn (Gap n own) (in_last_gap f)
        (pick w (record { phase = Quiet; start = true }) (pick b (to (Busy e))
        (record { phase = Quiet; start = false })))
    gap_ends n own true i z fw c b0 b =
        turned (in_last_gap f) (in_start f)
        (goes (leave c (seq (set (stay fw rest))))) refl
        (λ y u l. starting refl refl refl (l.start_sends refl) (l.start_emits refl))
    gap_ends n own false i z fw c true b =
        turned (in_last_gap f) (in_busy f)
        (goes (leave c (seq (set (leave fw (round (seq (leave (taken b) (seq (set (seq (set (seq (stay (held b) (seq
        (set rest)))))))))))))))) refl
        (λ y u l. into_busy refl refl (i ∙ sym z) y u l)
    gap_ends n own false i z fw c false b =
        turned (in_last_gap f) (in_quiet f)
        (goes (leave c (seq (set (leave fw (round (seq (stay (free b) rest)))))))) refl
        (λ y u l. idle_quiet refl i y u l)

-- ---- document 01's gap

gap_counts : (f : Figures) (n : ℕ) (own h e w : Bool) → n < gap_of f → goes_back f.gap1 n own h ≡ false
    → defer f (Gap n own) h e w ≡ to (Gap (n + 1) own)
unfolding defer gap_rule
gap_counts f n own h e w k b = rw (lt-leb (gap_of f) n k, b)

gap_restarts : (f : Figures) (n : ℕ) (h e w c : Bool) → n < gap_of f → ltb n f.gap1 ≡ c
    → defer f (Gap n false) h e w ≡ pick (h && c) (to (Busy false)) (to (Gap (n + 1) false))
unfolding defer gap_rule goes_back
gap_restarts f n true e w true k b = rw (lt-leb (gap_of f) n k, b)
gap_restarts f n true e w false k b = rw (lt-leb (gap_of f) n k, b)
gap_restarts f n false e w c k b = rw (lt-leb (gap_of f) n k)

gap_over_lem : (f : Figures) (n : ℕ) (own h e w : Bool) → gap_of f ≤ n
    → defer f (Gap n own) h e w
    ≡ pick w (record { phase = Quiet; start = true }) (pick (h || e) (to (Busy e))
    (record { phase = Quiet; start = false }))
unfolding defer gap_rule gapOverRule quiet_rule
gap_over_lem f n own h e w k = rw (le-leb (gap_of f) n k)

back_own : (g n : ℕ) (h : Bool) → goes_back g n true h ≡ false
unfolding goes_back
back_own g n true = and-false (ltb n g)
back_own g n false = refl

back_late : (g n : ℕ) (own h : Bool) → g ≤ n → goes_back g n own h ≡ false
unfolding goes_back
back_late g n own true k = rw (le-ltb n g k)
back_late g n own false k = refl

-- ---- a turn, wherever the process stands

module _ (f : Figures) (d : Variables) (t : Transmission) (r : Reception) (s : Signals) (x : Transmitter)
    (gap2 : 0 < f.gap2) (h e w : Bool) (hh : hears_any s.heard ≡ h) (he : s.emitted ≡ e)
    (tr : t.variables.flags transmitting ≡ sends x) (fw : t.variables.flags frame_waiting ≡ w) where
  abbrev At : Deference → Place → Type 0
  At p at = DeferenceTurn f d t r s x p at (defer f p h e w)

  at_place : (p q : Deference) (at to : Place) → p ≡ q → at ≡ to → At q to → At p at
  at_place p q at to i j k = subst₂ At (sym i) (sym j) k

  by_rule : (p : Deference) (at : Place) (o : Deferred) → defer f p h e w ≡ o → DeferenceTurn f d t r s x p at o
      → At p at
  by_rule p at o i k = subst (λ (a : Deferred). DeferenceTurn f d t r s x p at a) (sym i) k

  quiet_at : d.flags deferring ≡ false → sends x ≡ e → At Quiet (in_quiet f)
  unfolding defer quiet_rule
  quiet_at g c = quiet_turn f d t r s x gap2 h e hh he tr w g c (h || e) refl

  start_at : sends x ≡ true → e ≡ true → w ≡ false → At Quiet (in_start f)
  unfolding defer quiet_rule
  start_at i z k =
      subst (λ (b : Bool). DeferenceTurn f d t r s x Quiet (in_start f) (pick b (to (Busy e))
      (record { phase = Quiet; start = w })))
      (sym (ap (λ (a : Bool). h || a) z ∙ or_true h))
      (start_turn f d t r s x gap2 h e hh he tr w (fw ∙ k) (i ∙ sym z) z)

  busy_at : (own : Bool) → d.flags deferring ≡ true → d.flags was_transmitting ≡ own → (e ≡ false → sends x ≡ false)
      → (own || sends x) ≡ (own || e) → At (Busy own) (in_busy f)
  unfolding defer busy_rule
  busy_at own g wt i j = busy_turn f d t r s x gap2 h e hh he tr own g wt i j (h || e) refl

  restart_at : d.flags deferring ≡ true → sends x ≡ false → e ≡ false → 0 < f.gap1 → At (Busy false) (in_restart f)
  unfolding defer busy_rule
  restart_at g i z n =
      subst (λ (a : Bool). DeferenceTurn f d t r s x (Busy false) (in_restart f) (pick (h || e) (to (Busy a)) (to
      (Gap 1 false))))
      (sym z) (restart_turn f d t r s x gap2 h e hh he tr g i n (h || e) refl)

  own_gap_at : (n : ℕ) → d.flags deferring ≡ true → sends x ≡ false → d.numbers real_time + 1 ≡ n → n ≤ f.gap1
      → At (Gap n true) (in_own_gap f)
  unfolding gap_of
  own_gap_at n g i m k =
      by_rule (Gap n true) (in_own_gap f) (to (Gap (n + 1) true))
      (gap_counts f n true h e w (omega arith) (back_own f.gap1 n h))
      (own_gap_turn f d t r s x gap2 h e hh he tr n g i m k (ltb (d.numbers real_time + 1) f.gap1) refl)

  other_gap_at : (n : ℕ) → d.flags deferring ≡ true → sends x ≡ false → e ≡ false → d.numbers real_time + 1 ≡ n
      → n ≤ f.gap1 → At (Gap n false) (in_other_gap f)
  unfolding gap_of
  other_gap_at n g i z m k =
      by_rule (Gap n false) (in_other_gap f)
      (pick (h && ltb n f.gap1) (to (Busy false)) (to (Gap (n + 1) false)))
      (gap_restarts f n h e w (ltb n f.gap1) (omega arith) refl)
      (other_gap_turn f d t r s x gap2 h e hh he tr n g i m k (ltb n f.gap1) h
      (ap (λ (a : ℕ). ltb a f.gap1) m) (ap (λ (a : Bool). h || a) z ∙ or_false h))

  second_gap_at : (n : ℕ) (own : Bool) → d.flags deferring ≡ true → sends x ≡ false → e ≡ false
      → d.numbers real_time + 1 + f.gap1 ≡ n → (c : Bool) → ltb (d.numbers real_time + 1) f.gap2 ≡ c
      → At (Gap n own) (in_last_gap f)
  unfolding gap_of
  second_gap_at n own g i z m true c =
      by_rule (Gap n own) (in_last_gap f) (to (Gap (n + 1) own))
      (gap_counts f n own h e w (omega (arith, ltb-true (d.numbers real_time + 1) f.gap2 c))
      (back_late f.gap1 n own h (omega arith)))
      (second_gap_turn f d t r s x gap2 h e hh he tr n own g i m c)
  second_gap_at n own g i z m false c =
      by_rule (Gap n own) (in_last_gap f) _
      (gap_over_lem f n own h e w (omega (arith, ltb-false (d.numbers real_time + 1) f.gap2 c)))
      (gap_ends f d t r s x gap2 h e hh he tr n own w i z fw c (h || e) refl)

  pub deference_turn : (p : Deference) (at : Place) → (sends x ≡ true → w ≡ false) → DeferenceAt f d x e p at → At p at
  deference_turn p at v (quiet i j g c) = at_place p Quiet at (in_quiet f) i j (quiet_at g c)
  deference_turn p at v (starting i j g c z) = at_place p Quiet at (in_start f) i j (start_at c z (v c))
  deference_turn p at v (passing own i j g wt k l) = at_place p (Busy own) at (in_busy f) i j (busy_at own g wt k l)
  deference_turn p at v (restarts i j g c z n) = at_place p (Busy false) at (in_restart f) i j (restart_at g c z n)
  deference_turn p at v (own_gap n i j g c z m k) = at_place p (Gap n true) at (in_own_gap f) i j (own_gap_at n g c m k)
  deference_turn p at v (other_gap n i j g c z m k) =
      at_place p (Gap n false) at (in_other_gap f) i j (other_gap_at n g c z m k)
  deference_turn p at v (second_gap n own i j g c z m k) =
      at_place p (Gap n own) at (in_last_gap f) i j
      (second_gap_at n own g c z m (ltb (d.numbers real_time + 1) f.gap2) refl)
