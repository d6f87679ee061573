-- What the receiver's pages and document 01 have in different words: the last eight symbols, and the opening of a
-- frame. Assumes nothing.
use Rattle.std.specs.Prelude.{ℕ, zero, suc, ◌+◌, ◌*◌, ◌/◌, ◌%◌, ◌^◌, ◌≤◌, ◌<◌, ◌≡◌, refl, Bool, true, false, not, ◌||◌, List, [], ◌∷◌, ltb, eqb, get_or, take, length, Some}
use Rattle.std.proofs.Common.{sym, ◌∙◌, ap, pow-suc, arith, length-take-le, lt-ltb, le-ltb, eq-eqb, ne_eqb}
use Rattle.octets.specs.Base.{pick}
use Rattle.octets.specs.Bits.{digit}
use Rattle.frame_build.specs.Limits.{buffer_octets, max_frame}
use Rattle.frame_open.specs.Open.{frame_too_long, frame_check_error, alignment_error, length_error, receive_ok, without}
use Rattle.frame_open.specs.Open.{opened, value_of, data_field, check_wrong, check_error, length_wrong, client_size}
use Rattle.frame_open.specs.Open.{unpadded}
use Rattle.station_spec.specs.declared.ReceiveEvent.TheVariants.{GotOk, GotTooLong, GotAlignment, GotCheck}
use Rattle.station_spec.specs.declared.ReceiveEvent.TheVariants.{GotLength}
use Rattle.station_spec.specs.Receive.{next_row, open_answer, got_event}
use Rattle.standard.specs.TransmitLaws.{by_eq, by_le}
use Rattle.standard.specs.BitReceiver.{same_bit, same_bits}

-- ---- the last eight symbols as document 01's number

abbrev pub coded : List Bool → ℕ
coded [] = 1
coded (b ∷ w) = 2 * coded w + digit b

coded_low : (w : List Bool) → 1 ≤ coded w
coded_low [] = omega arith
coded_low (b ∷ w) = let h = coded_low w in omega arith

digit_small : (b : Bool) → digit b ≤ 1
digit_small true = omega arith
digit_small false = omega arith

coded_high : (m : ℕ) (w : List Bool) → length w ≤ m → coded w < 2 ^ suc m
coded_high zero [] h = omega arith
coded_high zero (b ∷ w) h = absurd (omega arith)
coded_high (suc m) [] h = let i = coded_high m [] (omega arith) in omega (arith, pow-suc 2 (suc m))
coded_high (suc m) (b ∷ w) h =
    let i = coded_high m w (omega arith) in let d = digit_small b in omega (arith, pow-suc 2 (suc m))

eqb_as : (a b c d : ℕ) → (a ≡ b → c ≡ d) → (c ≡ d → a ≡ b) → eqb a b ≡ eqb c d
eqb_as a b c d f g =
    by_eq a b (λ e. eq-eqb a b e ∙ sym (eq-eqb c d (f e))) (λ e. ne_eqb a b e ∙ sym (ne_eqb c d (λ i. e (g i))))

same_digits : (a b : ℕ) (x y : Bool) → eqb (2 * a + digit x) (2 * b + digit y) ≡ pick (same_bit x y) (eqb a b) false
same_digits a b true true = eqb_as (2 * a + 1) (2 * b + 1) a b (λ e. omega arith) (λ e. omega arith)
same_digits a b false false = eqb_as (2 * a + 0) (2 * b + 0) a b (λ e. omega arith) (λ e. omega arith)
same_digits a b true false = ne_eqb (2 * a + 1) (2 * b + 0) (λ e. omega arith)
same_digits a b false true = ne_eqb (2 * a + 0) (2 * b + 1) (λ e. omega arith)

pub same_coded : (w u : List Bool) → eqb (coded w) (coded u) ≡ same_bits w u
same_coded [] [] = refl
same_coded [] (y ∷ u) = let h = coded_low u in ne_eqb 1 (2 * coded u + digit y) (λ e. omega arith)
same_coded (x ∷ w) [] = let h = coded_low w in ne_eqb (2 * coded w + digit x) 1 (λ e. omega arith)
same_coded (x ∷ w) (y ∷ u) =
    same_digits (coded w) (coded u) x y ∙ ap (λ (b : Bool). pick (same_bit x y) b false) (same_coded w u)

-- the oldest of m + 1 symbols is left out
twice : (p a c x : ℕ) (b : Bool) → c ≡ a + p * (1 + digit b) → 2 * c + x ≡ 2 * a + x + (p * 2) * (1 + digit b)
twice p a c x true e = omega arith
twice p a c x false e = omega arith

coded_take : (m : ℕ) (w : List Bool) → length w ≡ suc m
    → coded w ≡ coded (take m w) + 2 ^ m * (1 + digit (get_or w m false))
coded_take zero [] h = absurd (omega arith)
coded_take zero (b ∷ []) h = omega arith
coded_take zero (b ∷ c ∷ w) h = absurd (omega arith)
coded_take (suc m) [] h = absurd (omega arith)
coded_take (suc m) (b ∷ w) h =
    rw (pow-suc 2 m) (twice (2 ^ m) (coded (take m w)) (coded w) (digit b) (get_or w m false) (coded_take m w
    (omega arith)))

take_all : (m : ℕ) (w : List Bool) → length w ≤ m → take m w ≡ w
take_all zero [] h = refl
take_all (suc m) [] h = refl
take_all zero (b ∷ w) h = absurd (omega arith)
take_all (suc m) (b ∷ w) h = ap (λ (u : List Bool). b ∷ u) (take_all m w (omega arith))

few_high : (w : List Bool) → length w ≤ 7 → coded w < 256
few_high w h = coded_high 7 w h

row_under : (r x : ℕ) (b : Bool) → x ≡ 2 * r + digit b → x < 512 → x ≡ next_row r b
unfolding next_row
row_under r x b e h = e ∙ rw (lt-ltb (2 * r + digit b) 512 (omega arith))

row_past : (r u : ℕ) (b o : Bool) → r ≡ u + 128 * (1 + digit o) → 128 ≤ u → u < 256
    → 2 * u + digit b ≡ next_row r b
unfolding next_row
row_past r u b o e h k =
    let i = digit_small b in
    rw (le-ltb (2 * r + digit b) 512 (over_row r u b o e h)) (wraps r u b o e h k)
  where
    over_row : (r u : ℕ) (b o : Bool) → r ≡ u + 128 * (1 + digit o) → 128 ≤ u → 512 ≤ 2 * r + digit b
    over_row r u b true e h = omega arith
    over_row r u b false e h = omega arith

    wraps : (r u : ℕ) (b o : Bool) → r ≡ u + 128 * (1 + digit o) → 128 ≤ u → u < 256
        → 2 * u + digit b ≡ 256 + (2 * r + digit b) % 256
    wraps r u true true e h k = omega arith
    wraps r u true false e h k = omega arith
    wraps r u false true e h k = omega arith
    wraps r u false false e h k = omega arith

length_seven : (w : List Bool) → length w ≡ 8 → length (take 7 w) ≡ 7
length_seven w h = length-take-le 7 w (omega arith)

coded_least : (m : ℕ) (w : List Bool) → length w ≡ m → 2 ^ m ≤ coded w
coded_least zero [] h = omega arith
coded_least zero (b ∷ w) h = absurd (omega arith)
coded_least (suc m) [] h = absurd (omega arith)
coded_least (suc m) (b ∷ w) h = let i = coded_least m w (omega arith) in omega (arith, pow-suc 2 m)

pub next_coded : (w : List Bool) (b : Bool) → length w ≤ 8 → coded (b ∷ take 7 w) ≡ next_row (coded w) b
next_coded w b h =
    by_eq (length w) 8
    (λ e. row_past (coded w) (coded (take 7 w)) b (get_or w 7 false) (coded_take 7 w e)
    (coded_least 7 (take 7 w) (length_seven w e)) (few_high (take 7 w) (omega (arith, length_seven w e))))
    (λ e. ap (λ (u : List Bool). 2 * coded u + digit b) (take_all 7 w (omega arith))
    ∙ row_under (coded w) (2 * coded w + digit b) b refl (few_row w b (few_high w (omega arith))))
  where
    few_row : (w : List Bool) (b : Bool) → coded w < 256 → 2 * coded w + digit b < 512
    few_row w b k = let i = digit_small b in omega arith

-- ---- opening a frame

-- document 01's chain of statuses, and the page's
choices : (a c e g h : Bool) (m k : ℕ) (l : List ℕ)
    → got_event
    (pick a frame_too_long
    (pick c (without frame_too_long)
    (pick e (without (pick h frame_check_error alignment_error))
    (pick g (without length_error) (record { status = receive_ok k; client_data = l })))).status) m
    ≡ pick (a || c) (Some (GotTooLong m))
    (pick (not e) (pick (not g) (Some (GotOk k)) (Some (GotLength m))) (pick h (Some (GotCheck m)) (Some (GotAlignment m))))
unfolding got_event
choices true c e g h m k l = refl
choices false true e g h m k l = refl
choices false false true g true m k l = refl
choices false false true g false m k l = refl
choices false false false true h m k l = refl
choices false false false false h m k l = refl

long_event : (m : ℕ) → got_event frame_too_long m ≡ Some (GotTooLong m)
unfolding got_event
long_event m = refl

pub opened_is : (l : List ℕ) (n : ℕ) (spoiled : Bool) (m : ℕ) → m ≡ n / 8 → buffer_octets ≤ length l → 64 ≤ m
    → got_event (open_answer l n spoiled) (n / 8)
    ≡ pick (ltb buffer_octets m || ltb (max_frame (value_of (take m l))) m) (Some (GotTooLong m))
    (pick (not (check_wrong spoiled (take m l)))
    (pick (not (length_wrong (value_of (take m l)) (length (data_field (take m l)))))
    (Some (GotOk (client_size (value_of (take m l)) (length (data_field (take m l)))))) (Some (GotLength m)))
    (pick (eqb (n % 8) 0) (Some (GotCheck m)) (Some (GotAlignment m))))
unfolding open_answer opened unpadded check_error
opened_is l n spoiled m e h k =
    by_le m buffer_octets
    (λ g. rw (← e, le-ltb 7 (n % 8) (omega arith), length-take-le m l (omega arith), le-ltb m 64 k)
    (choices (ltb buffer_octets m) (ltb (max_frame (value_of (take m l))) m) (check_wrong spoiled (take m l))
    (length_wrong (value_of (take m l)) (length (data_field (take m l)))) (eqb (n % 8) 0) m
    (client_size (value_of (take m l)) (length (data_field (take m l)))) _))
    (λ g. rw (← e, lt-ltb buffer_octets m g) (long_event m))
