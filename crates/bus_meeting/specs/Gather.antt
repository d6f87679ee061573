-- Symbols that meet at a station: who is heard, from what is heard, and the other way round. Assumes nothing.
use Rattle.std.specs.Prelude.{ℕ, zero, suc, ◌<◌, ◌≡◌, refl, Bool, true, false}
use Rattle.std.proofs.Common.{sym, ◌∙◌, ap, ap₂, subst, true≢false, arith}
use Rattle.octets.specs.BaseLaws.{by_eq}
use Rattle.station_symbols.specs.declared.Heard.{Heard}
use Rattle.station_symbols.specs.declared.Heard.TheVariants.{Nothing, Clean, Spoiled}
use Rattle.station_symbols.specs.declared.Symbol.{Symbol}
use Rattle.station_symbols.specs.declared.Symbol.TheVariants.{Silence, Bit, Jam}
use Rattle.area.specs.Area.{alone, joined}
use Rattle.bus_meeting.specs.Net.{gathered}

-- whether a symbol is heard
abbrev pub on : Symbol → Bool
on Silence = false
on (Bit b) = true
on Jam = true

pub off_is : (s : Symbol) → on s ≡ false → s ≡ Silence
off_is Silence e = refl
off_is (Bit b) e = absurd (true≢false e)
off_is Jam e = absurd (true≢false e)

pub joined_none : (h : Heard) → joined h Silence ≡ h
joined_none Nothing = refl
joined_none (Clean b) = refl
joined_none Spoiled = refl

-- ---- all alike, none, one

pub gathered_same : (k : ℕ) (f g : ℕ → Symbol) → ((i : ℕ) → i < k → f i ≡ g i) → gathered k f ≡ gathered k g
unfolding gathered
gathered_same zero f g h = refl
gathered_same (suc k) f g h = ap₂ joined (gathered_same k f g (λ i l. h i (omega arith))) (h k (omega arith))

pub gathered_none : (k : ℕ) (c : ℕ → Symbol) → ((i : ℕ) → i < k → c i ≡ Silence) → gathered k c ≡ Nothing
unfolding gathered
gathered_none zero c h = refl
gathered_none (suc k) c h = ap₂ joined (gathered_none k c (λ i l. h i (omega arith))) (h k (omega arith))

pub gathered_one : (k : ℕ) (c : ℕ → Symbol) (i : ℕ) → i < k → ((l : ℕ) → l < k → (l ≡ i → ⊥) → c l ≡ Silence)
    → gathered k c ≡ alone (c i)
unfolding gathered
gathered_one zero c i l h = absurd (omega arith)
gathered_one (suc k) c i l h =
    by_eq i k
    (λ z. ap (λ (x : Heard). joined x (c k)) (gathered_none k c (λ x y. h x (omega arith) (λ q. omega arith))) ∙ ap
    (λ (x : ℕ). alone (c x)) (sym z))
    (λ z. ap (joined (gathered k c)) (h k (omega arith) (λ q. z (sym q))) ∙ joined_none (gathered k c)
    ∙ gathered_one k c i (omega arith) (λ x y q. h x (omega arith) q))

-- ---- and back: what a hearing says of the symbols

-- one of them is s, the others are silent
pub record One (k : ℕ) (c : ℕ → Symbol) (s : Symbol) : Type 0 where
  pub from : ℕ
  pub station : from < k
  pub is : c from ≡ s
  pub rest : (l : ℕ) → l < k → (l ≡ from → ⊥) → c l ≡ Silence

-- one of them is not silent
pub record Some (k : ℕ) (c : ℕ → Symbol) : Type 0 where
  pub from : ℕ
  pub station : from < k
  pub is_on : on (c from) ≡ true

-- what a hearing says of them
abbrev pub Says : ℕ → (ℕ → Symbol) → Heard → Type 0
Says k c Nothing = (i : ℕ) → i < k → c i ≡ Silence
Says k c (Clean b) = One k c (Bit b)
Says k c Spoiled = Some k c

-- one more that is silent
silent_more : (k : ℕ) (c : ℕ → Symbol) (h : Heard) → c k ≡ Silence → Says k c h → Says (suc k) c h
silent_more k c Nothing e v = λ i l. by_eq i k (λ z. rw z e) (λ z. v i (omega arith))
silent_more k c (Clean b) e v =
    record {
      from = v.from;
      station = omega (arith, v.station);
      is = v.is;
      rest = λ l p q. by_eq l k (λ z. rw z e) (λ z. v.rest l (omega arith) q);
    }
silent_more k c Spoiled e v = record { from = v.from; station = omega (arith, v.station); is_on = v.is_on }

-- the first that is not silent, and a further one
first_one : (k : ℕ) (c : ℕ → Symbol) (s : Symbol) → c k ≡ s → ((i : ℕ) → i < k → c i ≡ Silence) → One (suc k) c s
first_one k c s e v = record { from = k; station = omega arith; is = e; rest = λ l p q. v l (omega (arith, q)) }

last_on : (k : ℕ) (c : ℕ → Symbol) (s : Symbol) → on s ≡ true → c k ≡ s → Some (suc k) c
last_on k c s o e = record { from = k; station = omega arith; is_on = ap on e ∙ o }

says_more : (k : ℕ) (c : ℕ → Symbol) (h : Heard) (s : Symbol) → c k ≡ s → Says k c h → Says (suc k) c (joined h s)
says_more k c h Silence e v = subst (Says (suc k) c) (sym (joined_none h)) (silent_more k c h e v)
says_more k c Nothing (Bit b) e v = first_one k c (Bit b) e v
says_more k c Nothing Jam e v = last_on k c Jam refl e
says_more k c (Clean b) (Bit x) e v = last_on k c (Bit x) refl e
says_more k c (Clean b) Jam e v = last_on k c Jam refl e
says_more k c Spoiled (Bit x) e v = last_on k c (Bit x) refl e
says_more k c Spoiled Jam e v = last_on k c Jam refl e

pub gathered_says : (k : ℕ) (c : ℕ → Symbol) → Says k c (gathered k c)
unfolding gathered
gathered_says zero c = λ i l. absurd (omega arith)
gathered_says (suc k) c = says_more k c (gathered k c) (c k) refl (gathered_says k c)

-- where two are not silent, what is heard is spoiled
module _ (k : ℕ) (c : ℕ → Symbol) (i l : ℕ) (hi : i < k) (hl : l < k) (ne : i ≡ l → ⊥) (oi : on (c i) ≡ true)
    (ol : on (c l) ≡ true) where
  not_one : (s : Symbol) → One k c s → ⊥
  not_one s v =
      by_eq i v.from
      (λ z. true≢false (sym ol ∙ ap on (v.rest l hl (λ q. ne (z ∙ sym q)))))
      (λ z. true≢false (sym oi ∙ ap on (v.rest i hi z)))

  says_spoiled : (h : Heard) → Says k c h → h ≡ Spoiled
  says_spoiled Nothing v = absurd (true≢false (sym oi ∙ ap on (v i hi)))
  says_spoiled (Clean b) v = absurd (not_one (Bit b) v)
  says_spoiled Spoiled v = refl

  pub gathered_two : gathered k c ≡ Spoiled
  gathered_two = says_spoiled (gathered k c) (gathered_says k c)
