-- What the proofs of the run program's calls go by: a piece has at most 2048 octets, and the front of a slice is lent.
-- Assumes nothing.
use Rattle.std.specs.Prelude.{ℕ, ◌≤◌, ◌<◌, min, ◌≡◌, ltb, eqb, length, take, drop, List, ◌++◌, Result, Ok, Err, IsErrAnd}
use Rattle.std.proofs.Common.{sym, ◌∙◌, ap, ap₂, arith, ltb-true, ltb-false, le-ltb, ne_eqb, drop_of_length-le, length-take, take_all}
use Rattle.std.proofs.lemmas.Result.{err_from_is_err_and}
use Rattle.octets.specs.Base.{Answer, refused, size_answer, refusal_number}
use Rattle.octets.specs.declared.Refusal.{Refusal}
use Rattle.octets.specs.Words.{put_words}
use Rattle.octets.specs.BaseLaws.{by_test, refusal_numbered}
use Rattle.report_spec.specs.declared.Progress.{Progress}
use Rattle.report_spec.specs.declared.Handed.{Handed}
use Rattle.report_spec.specs.Printed.{printed}
use Rattle.report_spec.specs.Pieces.{Hand, handing, no_progress, move_refusal, advanced_on, advanced, begun}
use Rattle.report_theorem.specs.Whole.{move_size, first_room}
use Rattle.report_whole.specs.Print.{Print, print, printed_into}
use Rattle.c_words.specs.Answers.{refusal_bit, value_of, code_of, reply_of}
use Rattle.c_calls.specs.Calls.{left}
use Rattle.c_text.specs.TextCalls.{plan_octets, most_told, progress_words, progress_in, progress_put, lent, hand_lent}
use Rattle.c_text.specs.TextCalls.{advanced_lent, print_left}
use Rattle.area.specs.Offsets.{area_size}

-- ---- a piece has at most 2048 octets

abbrev pub Small : Answer → Type 0
Small A = value_of A ≤ 2048

pub begun_small : (l a o : List ℕ) → Small (begun l a o).answer
unfolding begun
begun_small l a o =
    by_test (ltb (length a) area_size) (λ p. rw p (omega arith))
    (λ p. by_test (ltb (length o) 2048) (λ q. rw (p, q) (omega arith))
    (λ q. rw (p, q) (first_room l (take area_size a))))

on_small : (l a o : List ℕ) (g : Progress) → Small (advanced_on l a o g).answer
unfolding advanced_on
on_small l a o g =
    by_test (eqb (move_refusal l a (length o) g) 0) (λ p. rw p (move_size l g a)) (λ p. rw p (omega arith))

pub advanced_small : (l a o : List ℕ) (g : Progress) → Small (advanced l a o g).answer
unfolding advanced
advanced_small l a o g =
    by_test (ltb (length a) area_size) (λ p. rw p (omega arith)) (λ p. rw p (on_small l (take area_size a) o g))

module _ (l a o b x : List ℕ) (h : Handed) where
  pub begun_few : handing no_progress (Ok h) b x ≡ begun l a o → h.size < 4294967296
  begun_few e = let n : h.size ≡ value_of (begun l a o).answer = ap (λ (z : Hand). value_of z.answer) e
      in omega (arith, begun_small l a o)

  pub begun_below : handing no_progress (Ok h) b x ≡ begun l a o → h.size < refusal_bit
  begun_below e = let n : h.size ≡ value_of (begun l a o).answer = ap (λ (z : Hand). value_of z.answer) e
      in omega (arith, begun_small l a o)

  pub advanced_few : (g : Progress) → handing g (Ok h) b x ≡ advanced l a o g → h.size < 4294967296
  advanced_few g e = let n : h.size ≡ value_of (advanced l a o g).answer = ap (λ (z : Hand). value_of z.answer) e
      in omega (arith, advanced_small l a o g)

  pub advanced_below : (g : Progress) → handing g (Ok h) b x ≡ advanced l a o g → h.size < refusal_bit
  advanced_below g e = let n : h.size ≡ value_of (advanced l a o g).answer = ap (λ (z : Hand). value_of z.answer) e
      in omega (arith, advanced_small l a o g)

-- ---- the front of a slice is lent

take_min : (l : List ℕ) (k n : ℕ) → n ≡ min (length l) k → take n l ≡ take k l
take_min l k n e =
    by_test (ltb (length l) k)
    (λ b. let h = ltb-true (length l) k b in take_all n l (omega arith) ∙ sym (take_all k l (omega arith)))
    (λ b. let h = ltb-false (length l) k b in let m : n ≡ k = omega arith in ap (λ (i : ℕ). take i l) m)

drop_min : (l : List ℕ) (k n : ℕ) → n ≡ min (length l) k → drop n l ≡ drop k l
drop_min l k n e =
    by_test (ltb (length l) k)
    (λ b. let h = ltb-true (length l) k b in drop_of_length-le l {i = n} (omega arith)
    ∙ sym (drop_of_length-le l {i = k} (omega arith)))
    (λ b. let h = ltb-false (length l) k b in let m : n ≡ k = omega arith in ap (λ (i : ℕ). drop i l) m)

into_fits : (l a o : List ℕ) → value_of (printed_into l a o).answer ≤ length o
unfolding printed_into
into_fits l a o =
    by_test (ltb (length a) area_size) (λ p. rw p (omega arith))
    (λ p. by_test (ltb (length o) (length (printed l))) (λ q. rw (p, q) (omega arith))
    (λ q. rw (p, q) (ltb-false (length o) (length (printed l)) q)))

pub print_few : (l a b o x : List ℕ) (n m : ℕ) → print (size_answer (Ok m)) b x ≡ printed_into l a (take n o)
    → n ≡ min (length o) most_told → m < 4294967296
print_few l a b o x n m e p =
    let k : m ≡ value_of (printed_into l a (take n o)).answer = ap (λ (z : Print). value_of z.answer) e in
    omega (arith, into_fits l a (take n o), length-take n o)

pub print_below : (l a b o x : List ℕ) (n m : ℕ) → print (size_answer (Ok m)) b x ≡ printed_into l a (take n o)
    → n ≡ min (length o) most_told → m < refusal_bit
print_below l a b o x n m e p =
    let k : m ≡ value_of (printed_into l a (take n o)).answer = ap (λ (z : Print). value_of z.answer) e in
    omega (arith, into_fits l a (take n o), length-take n o)

-- ---- what a `?` hands on is told as the refusal is

handed_on : (r : Result ℕ Refusal) (e : Refusal) → IsErrAnd r (λ y. y ≡ e) → reply_of r ≡ reply_of (Err e)
handed_on r e h = let t = err_from_is_err_and r h in rw (t.1, t.2)

-- ---- the next piece

module _ (l a p o b x : List ℕ) (n : ℕ) (g : Progress) (s : g ≡ progress_in p) (k : 16 ≤ length p)
    (m : n ≡ min (length l) plan_octets) where
  advance_by : (y : Hand) → y ≡ advanced (take n l) a o g → hand_lent y p ≡ advanced_lent l a p o
  unfolding advanced_lent
  advance_by y e =
      rw (le-ltb (length p) 16 k)
      (ap (λ (z : Hand). hand_lent z p)
      (e ∙ ap₂ (λ (i : List ℕ) (j : Progress). advanced i a o j) (take_min l plan_octets n m) s))

  pub advance_refused : (r : Result ℕ Refusal) (e : Refusal) → IsErrAnd r (λ y. y ≡ e)
      → handing g (Err e) b x ≡ advanced (take n l) a o g → lent (reply_of r) b p x ≡ advanced_lent l a p o
  unfolding progress_put
  advance_refused r e h q =
      let w : progress_put (refused (refusal_number e)) g p ≡ p = rw (ne_eqb (refusal_number e) 0 (refusal_numbered e)) in
      ap (λ (i : ℕ). lent i b p x) (handed_on r e h) ∙ ap (λ (i : List ℕ). lent (reply_of (Err e)) b i x) (sym w)
      ∙ advance_by (handing g (Err e) b x) q

  pub advance_made : (h : Handed) (q : List ℕ) → q ≡ put_words 4 p 0 (progress_words h.progress)
      → handing g (Ok h) b x ≡ advanced (take n l) a o g → lent (reply_of (Ok h.size)) b q x ≡ advanced_lent l a p o
  unfolding progress_put
  advance_made h q w e =
      ap (λ (i : List ℕ). lent (reply_of (Ok h.size)) b i x) w ∙ advance_by (handing g (Ok h) b x) e

-- ---- the whole

module _ (l a b o x : List ℕ) (n : ℕ) (m : n ≡ min (length o) most_told) where
  print_by : (A : Answer) → print A b x ≡ printed_into l a (take n o)
      → left (code_of A) b (x ++ drop n o) ≡ print_left l a o
  unfolding print_left
  print_by A e =
      ap (λ (j : List ℕ). left (code_of A) b (x ++ j)) (drop_min o most_told n m)
      ∙ ap (λ (z : Print). left (code_of z.answer) z.area (z.out ++ drop most_told o))
      (e ∙ ap (printed_into l a) (take_min o most_told n m))

  pub print_refused : (r : Result ℕ Refusal) (e : Refusal) → IsErrAnd r (λ y. y ≡ e)
      → print (size_answer (Err e)) b x ≡ printed_into l a (take n o)
      → left (reply_of r) b (x ++ drop n o) ≡ print_left l a o
  print_refused r e h q =
      ap (λ (i : ℕ). left i b (x ++ drop n o)) (handed_on r e h) ∙ print_by (size_answer (Err e)) q

  pub print_made : (k : ℕ) → print (size_answer (Ok k)) b x ≡ printed_into l a (take n o)
      → left (reply_of (Ok k)) b (x ++ drop n o) ≡ print_left l a o
  print_made k q = print_by (size_answer (Ok k)) q
