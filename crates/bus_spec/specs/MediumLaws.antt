-- Laws of the medium: lengths, and ways through its code. What symbols on their way leave as it was, and that the code
-- sends them so, is in proofs/MediumLaws. Assumes nothing.
use Prim.Native.Nat.{ℕ, ◌+◌}
use Rattle.std.specs.Prelude.{◌≡◌, true, false, List, eqb, length}
use Rattle.std.proofs.Math.Path.{refl}
use Rattle.std.proofs.Common.{sym, ◌∙◌, arith}
use Rattle.octets.specs.BaseLaws.{by_test}
use Rattle.octets.specs.Turns.{turns, turns_more, length_turns}
use Rattle.station_symbols.specs.declared.Symbol.{Symbol}
use Rattle.station_symbols.specs.declared.Symbol.TheVariants.{Silence, Bit, Jam}
use Rattle.area.specs.Area.{heard_code, alone}
use Rattle.area.specs.AreaLaws.{length_arrival}
use Rattle.bus_spec.specs.Medium.{send_to, is_silence, pushed, code_to}

-- ---- lengths

length_send : (t i : ℕ) (s : Symbol) (j : ℕ) (x : List ℕ) → length (send_to t i s j x) ≡ length x
unfolding send_to
length_send t i s j x = by_test (eqb j i) (λ e. rw e) (λ e. rw e (length_arrival x j _ _))

pub length_sends : (t i : ℕ) (s : Symbol) (k : ℕ) (x : List ℕ) → length (turns (send_to t i s) k x) ≡ length x
length_sends t i s k x = length_turns (send_to t i s) k x (λ j y. length_send t i s j y)

pub length_pushed : (n t i : ℕ) (s : Symbol) (x : List ℕ) → length (pushed n t i s x) ≡ length x
unfolding pushed
length_pushed n t i s x = by_test (is_silence s) (λ e. rw e) (λ e. rw e (length_sends t i s n x))

-- ---- the code

code_silence : (s : Symbol) → heard_code (alone s) ≡ 0 → is_silence s ≡ true
code_silence Silence h = refl
code_silence (Bit true) h = absurd (omega (arith, h))
code_silence (Bit false) h = absurd (omega (arith, h))
code_silence Jam h = absurd (omega (arith, h))

pub push_none : (n t i : ℕ) (s : Symbol) (a : List ℕ) (c : ℕ) → c ≡ heard_code (alone s) → c ≡ 0 → a ≡ pushed n t i s a
unfolding pushed
push_none n t i s a c e z = rw (code_silence s (sym e ∙ z))

pub push_more : (t i c j : ℕ) (a x b : List ℕ) → b ≡ code_to t i c j x → x ≡ turns (code_to t i c) j a
    → b ≡ turns (code_to t i c) (j + 1) a
push_more t i c j a x b p q = turns_more (code_to t i c) j a x b p q
