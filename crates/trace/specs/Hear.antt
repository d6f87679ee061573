-- What a station hears in a step, and who emitted it when: both ways. Assumes nothing.
use Rattle.std.specs.Prelude.{ℕ, ◌+◌, ◌-◌, ◌<◌, ◌≡◌, refl, Bool, true, false, leb, eqb}
use Rattle.std.proofs.Common.{sym, ◌∙◌, subst, arith, leb-true}
use Rattle.std.proofs.Math.Path.{ap}
use Rattle.std.proofs.lemmas.Bool.{eqb-false}
use Rattle.octets.specs.BaseLaws.{by_test}
use Rattle.station_symbols.specs.declared.Heard.{Heard}
use Rattle.station_symbols.specs.declared.Heard.TheVariants.{Nothing, Clean, Spoiled}
use Rattle.station_symbols.specs.declared.Symbol.{Symbol}
use Rattle.station_symbols.specs.declared.Symbol.TheVariants.{Silence, Bit, Jam}
use Rattle.station_symbols.specs.Packet.{hears_any}
use Rattle.area.specs.Area.{alone}
use Rattle.trace.specs.Basic.{clash}
use Rattle.trace.specs.Trace.{Hears}
use Rattle.bus_meeting.specs.Net.{Net, reaches, heard}
use Rattle.bus_meeting.specs.Gather.{on, off_is, One, Says, gathered_says, gathered_none, gathered_one}
use Rattle.bus_meeting.specs.Reach.{reach_at, reach_none}

-- Of what reaches station j in step u just one symbol, s, is not silence: station `from` emitted it in step `at`.
pub record Only (n : ℕ) (d : ℕ → ℕ → ℕ) (E : ℕ → ℕ → Symbol) (j u : ℕ) (s : Symbol) : Type 0 where
  pub from : ℕ
  pub at : ℕ
  pub station : from < n
  pub other : from ≡ j → ⊥
  pub delay : at + d from j ≡ u
  pub is : E from at ≡ s
  pub rest : (i y : ℕ) → i < n → (i ≡ j → ⊥) → (i ≡ from → ⊥) → y + d i j ≡ u → E i y ≡ Silence

-- ---- what one station brings

pub reaches_same : (d : ℕ → ℕ → ℕ) (E F : ℕ → ℕ → Symbol) (j u i : ℕ)
    → ((s : ℕ) → (i ≡ j → ⊥) → s + d i j ≡ u → E i s ≡ F i s)
    → reaches d E j u i ≡ reaches d F j u i
unfolding reaches
reaches_same d E F j u i h =
    by_test (eqb i j) (λ e. rw e)
    (λ e. by_test (leb (d i j) u)
    (λ f. let q = leb-true (d i j) u f in rw (e, f) (h (u - d i j) (eqb-false i j e) (omega arith)))
    (λ f. rw (e, f)))

-- the step in which what reaches j from i was emitted
record Came (d : ℕ → ℕ → ℕ) (E : ℕ → ℕ → Symbol) (j u i : ℕ) : Type 0 where
  at : ℕ
  other : i ≡ j → ⊥
  delay : at + d i j ≡ u
  is : E i at ≡ reaches d E j u i

came : (d : ℕ → ℕ → ℕ) (E : ℕ → ℕ → Symbol) (j u i : ℕ) → on (reaches d E j u i) ≡ true → Came d E j u i
unfolding reaches
came d E j u i o =
    by_test (eqb i j)
    (λ e. clash o (rw e))
    (λ e. by_test (leb (d i j) u)
    (λ f. let q = leb-true (d i j) u f in
    record {
      at = u - d i j;
      other = eqb-false i j e;
      delay = omega arith;
      is = sym (reach_at d E j u i (u - d i j) (eqb-false i j e) (omega arith));
    })
    (λ f. clash o (rw (e, f))))

-- ---- hearing

module _ (P : Net) (E : ℕ → ℕ → Symbol) (j u : ℕ) where
  heard_says : Says P.n (reaches P.d E j u) (heard P E j u)
  unfolding heard
  heard_says = gathered_says P.n (reaches P.d E j u)

  says_of : (h : Heard) → heard P E j u ≡ h → Says P.n (reaches P.d E j u) h
  says_of h e = subst (Says P.n (reaches P.d E j u)) e heard_says

  only_of : (s : Symbol) → on s ≡ true → One P.n (reaches P.d E j u) s → Only P.n P.d E j u s
  only_of s o v =
      let c = came P.d E j u v.from (ap on v.is ∙ o) in
      record {
        from = v.from;
        at = c.at;
        station = v.station;
        other = c.other;
        delay = c.delay;
        is = c.is ∙ v.is;
        rest = λ i y l ne nf w. sym (reach_at P.d E j u i y ne w) ∙ v.rest i l nf;
      }

  -- one symbol, clean
  pub heard_clean : (b : Bool) → heard P E j u ≡ Clean b → Only P.n P.d E j u (Bit b)
  heard_clean b e = only_of (Bit b) refl (says_of (Clean b) e)

  pub only_heard : (s : Symbol) → Only P.n P.d E j u s → heard P E j u ≡ alone s
  unfolding heard
  only_heard s v =
      gathered_one P.n (reaches P.d E j u) v.from v.station
      (λ l p q. reach_none P.d E j u l (λ y ne w. v.rest l y p ne q w))
      ∙ ap alone (reach_at P.d E j u v.from v.at v.other v.delay ∙ v.is)

  -- two or more
  from_one : (i : ℕ) → i < P.n → on (reaches P.d E j u i) ≡ true → Hears P.n P.d (λ k y. on (E k y)) j u
  from_one i l o =
      let c = came P.d E j u i o in
      record { from = i; at = c.at; station = l; other = c.other; delay = c.delay; on = ap on c.is ∙ o }

  pub heard_nothing : heard P E j u ≡ Nothing → (i y : ℕ) → i < P.n → (i ≡ j → ⊥) → y + P.d i j ≡ u → E i y ≡ Silence
  heard_nothing e i y l ne w = sym (reach_at P.d E j u i y ne w) ∙ says_of Nothing e i l

  pub nothing_heard : ((i y : ℕ) → i < P.n → (i ≡ j → ⊥) → y + P.d i j ≡ u → E i y ≡ Silence)
      → heard P E j u ≡ Nothing
  unfolding heard
  nothing_heard h =
      gathered_none P.n (reaches P.d E j u) (λ i l. reach_none P.d E j u i (λ y ne w. h i y l ne w))

  -- whether any other is heard
  some_heard : (h : Heard) → hears_any h ≡ true → heard P E j u ≡ h → Hears P.n P.d (λ i y. on (E i y)) j u
  some_heard Nothing o e = clash o refl
  some_heard (Clean b) o e =
      let v = heard_clean b e in record {
        from = v.from;
        at = v.at;
        station = v.station;
        other = v.other;
        delay = v.delay;
        on = ap on v.is;
      }
  some_heard Spoiled o e = let v = says_of Spoiled e in from_one v.from v.station v.is_on

  pub heard_yes : hears_any (heard P E j u) ≡ true → Hears P.n P.d (λ i y. on (E i y)) j u
  heard_yes o = some_heard (heard P E j u) o refl

  pub heard_no : heard P E j u ≡ Nothing → Hears P.n P.d (λ i y. on (E i y)) j u → ⊥
  heard_no e h = clash h.on (ap on (heard_nothing e h.from h.at h.station h.other h.delay))

  pub silence_heard : (Hears P.n P.d (λ i y. on (E i y)) j u → ⊥) → heard P E j u ≡ Nothing
  silence_heard h =
      nothing_heard (λ i y l ne w. by_test (on (E i y))
      (λ o. absurd (h (record { from = i; at = y; station = l; other = ne; delay = w; on = o })))
      (λ o. off_is (E i y) o))
