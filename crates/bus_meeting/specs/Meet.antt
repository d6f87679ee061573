-- Symbols that meet on the pair: order and grouping do not matter; and what a step adds to what will be heard. Assumes
-- nothing.
use Rattle.std.specs.Prelude.{ℕ, zero, suc, ◌+◌, ◌-◌, ◌≤◌, ◌<◌, Bool, true, false, ◌≡◌, refl, leb, eqb}
use Rattle.std.proofs.Common.{true≢false, sym, ◌∙◌, ap, ap₂, arith, eq-eqb, ne_eqb, leb-true, leb-false}
use Rattle.octets.specs.Base.{pick}
use Rattle.octets.specs.BaseLaws.{by_test, by_eq}
use Rattle.station_symbols.specs.declared.Heard.{Heard}
use Rattle.station_symbols.specs.declared.Heard.TheVariants.{Nothing, Clean, Spoiled}
use Rattle.station_symbols.specs.declared.Symbol.{Symbol}
use Rattle.station_symbols.specs.declared.Symbol.TheVariants.{Silence, Bit, Jam}
use Rattle.station_symbols.specs.Packet.{hears_any}
use Rattle.area.specs.Area.{alone, met, joined}
use Rattle.bus_meeting.specs.Net.{Net, gathered, reaches, heard, grown}
use Rattle.bus_meeting.specs.Gather.{gathered_none}

pub unheard : (h : Heard) → hears_any h ≡ false → h ≡ Nothing
unheard Nothing e = refl
unheard (Clean b) e = absurd (true≢false e)
unheard Spoiled e = absurd (true≢false e)

pub met_none : (h : Heard) → met h Nothing ≡ h
met_none h = by_test (hears_any h) (λ p. rw p) (λ p. rw p (sym (unheard h p)))

met_swap : (g h : Heard) → met g h ≡ met h g
met_swap g h =
    by_test (hears_any g)
    (λ p. by_test (hears_any h) (λ q. rw (p, q)) (λ q. rw (p, q)))
    (λ p. by_test (hears_any h) (λ q. rw (p, q)) (λ q. rw (p, q) (unheard h q ∙ sym (unheard g p))))

pub met_group : (f g h : Heard) → met (met f g) h ≡ met f (met g h)
met_group f g h =
    by_test (hears_any f)
    (λ p. by_test (hears_any g)
    (λ q. by_test (hears_any h) (λ r. rw (p, q, r)) (λ r. rw (p, q, r, q)))
    (λ q. rw (p, q, p)))
    (λ p. rw p)

swap_mid : (a b c d : Heard) → met (met a b) (met c d) ≡ met (met a c) (met b d)
swap_mid a b c d =
    met_group a b (met c d)
    ∙ ap (met a) (sym (met_group b c d) ∙ ap (λ (x : Heard). met x d) (met_swap b c) ∙ met_group c b d)
    ∙ sym (met_group a c (met b d))

-- where each symbol of f is g's and h's together, so is what they come to
gathered_both : (k : ℕ) (f g h : ℕ → Symbol) → ((i : ℕ) → i < k → alone (f i) ≡ met (alone (g i)) (alone (h i)))
    → gathered k f ≡ met (gathered k g) (gathered k h)
unfolding gathered
gathered_both zero f g h p = refl
gathered_both (suc k) f g h p =
    ap₂ met (gathered_both k f g h (λ i l. p i (omega arith))) (p k (omega arith))
    ∙ swap_mid (gathered k g) (gathered k h) (alone (g k)) (alone (h k))

-- ---- what a step adds to what will be heard

-- the symbol of station i, emitted in step t, where it reaches j in step u
unfoldable pub adds : (d : ℕ → ℕ → ℕ) (t : ℕ) (e : ℕ → Symbol) (j u i : ℕ) → Symbol
adds d t e j u i = pick (eqb i j) Silence (pick (eqb (t + d i j) u) (e i) Silence)

-- E is silent from step t on
abbrev pub Ends : ℕ → (ℕ → ℕ → Symbol) → Type 0
Ends t E = (i s : ℕ) → t ≤ s → E i s ≡ Silence

grown_now : (t : ℕ) (e : ℕ → Symbol) (E : ℕ → ℕ → Symbol) (i s : ℕ) → s ≡ t → grown t e E i s ≡ e i
unfolding grown
grown_now t e E i s h = rw (eq-eqb s t h)

grown_else : (t : ℕ) (e : ℕ → Symbol) (E : ℕ → ℕ → Symbol) (i s : ℕ) → (s ≡ t → ⊥) → grown t e E i s ≡ E i s
unfolding grown
grown_else t e E i s h = rw (ne_eqb s t h)

pub grown_ends : (t : ℕ) (e : ℕ → Symbol) (E : ℕ → ℕ → Symbol) → Ends t E → Ends (suc t) (grown t e E)
grown_ends t e E h i s l = grown_else t e E i s (λ z. omega arith) ∙ h i s (omega arith)

reaches_grown : (d : ℕ → ℕ → ℕ) (t : ℕ) (e : ℕ → Symbol) (E : ℕ → ℕ → Symbol) (j u i : ℕ) → Ends t E
    → alone (reaches d (grown t e E) j u i) ≡ met (alone (reaches d E j u i)) (alone (adds d t e j u i))
unfolding reaches adds
reaches_grown d t e E j u i h =
    by_test (eqb i j)
    (λ b. rw b)
    (λ b. by_test (leb (d i j) u)
    (λ c. let l = leb-true (d i j) u c in
    by_eq (t + d i j) u
    (λ z. let q : u - d i j ≡ t = omega arith in
    rw (b, c, eq-eqb (t + d i j) u z, q, h i t (omega arith)) (ap alone (grown_now t e E i t refl)))
    (λ z. rw (b, c, ne_eqb (t + d i j) u z)
    (ap alone (grown_else t e E i (u - d i j) (λ y. z (omega arith))) ∙ sym (met_none (alone (E i (u - d i j)))))))
    (λ c. let l = leb-false (d i j) u c in
    rw (b, c, ne_eqb (t + d i j) u (λ z. omega arith))))

pub heard_grown : (P : Net) (t : ℕ) (e : ℕ → Symbol) (E : ℕ → ℕ → Symbol) (j u : ℕ) → Ends t E
    → heard P (grown t e E) j u ≡ met (heard P E j u) (gathered P.n (adds P.d t e j u))
unfolding heard
heard_grown P t e E j u h =
    gathered_both P.n (reaches P.d (grown t e E) j u) (reaches P.d E j u) (adds P.d t e j u)
    (λ i l. reaches_grown P.d t e E j u i h)

-- nothing that is emitted before step t takes 256 steps
pub heard_far : (P : Net) (t : ℕ) (E : ℕ → ℕ → Symbol) (j u : ℕ) → Ends t E → ((i : ℕ) → i < P.n → t + P.d i j ≤ u)
    → heard P E j u ≡ Nothing
unfolding heard reaches
heard_far P t E j u h far =
    gathered_none P.n _
    (λ i l. by_test (eqb i j) (λ b. rw b)
    (λ b. by_test (leb (P.d i j) u) (λ c. rw (b, c) (h i (u - P.d i j) (omega (arith, far i l)))) (λ c. rw (b, c))))
