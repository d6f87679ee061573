-- A run on its way: how many octets of what is printed are handed out, and what is still to come. One law for its first
-- piece, one for each piece after it, one for its end. Assumes nothing.
use Rattle.std.specs.Prelude.{ℕ, ◌+◌, ◌-◌, ◌≤◌, ◌<◌, ◌≡◌, refl, true, false, List, [], ◌++◌, length, get_or, take, drop}
use Rattle.std.proofs.Common.{sym, ◌∙◌, ap, subst, true≢false, append-nil, arith, length-append, length-drop, take_at, drop_at, drop-drop, take_all}
use Rattle.std.proofs.lemmas.List.Edits.{sets}
use Rattle.std.proofs.Math.Seq.{length-sets}
use Rattle.octets.specs.Base.{values_of, number_of}
use Rattle.octets.specs.BaseLaws.{by_eq}
use Rattle.octets.specs.Store.{part, take_sets}
use Rattle.plan_read.specs.Plan.{plan_as_read}
use Rattle.report_text.specs.Text.{refused_line}
use Rattle.report_spec.specs.declared.Progress.{Progress}
use Rattle.report_spec.specs.declared.Handed.{Handed}
use Rattle.report_spec.specs.Printed.{Course, course, before, input_course, printed}
use Rattle.report_spec.specs.Pieces.{Moved, moved, move, Hand, handed, given, on_front, advanced}
use Rattle.report_spec.specs.Pieces.{no_progress, first_piece, begun, remaining}
use Rattle.report_theorem.specs.Whole.{Going, next, pieces, remaining_off, course_same, refused_course}
use Rattle.report_theorem.specs.Whole.{started_first, refused_first, start_on, start_going, advance_on, begin_on}
use Rattle.area.specs.Offsets.{area_size}

-- n octets of what is printed for l are handed out, and the run stands at g on area b
pub record Along (l : List ℕ) (n : ℕ) (g : Progress) (b : List ℕ) : Type 0 where
  pub going : g.ended ≡ false → Going l g b
  pub rest : (remaining l g b).text ≡ drop n (printed l)
  pub within : n ≤ length (printed l)

-- piece m is handed out: it stands in what is printed from octet n on, and what is still to come comes after it
pub record Passed (l : List ℕ) (n : ℕ) (m : Moved) : Type 0 where
  pub along : Along l (n + length m.text) m.progress m.octets
  pub here : part (printed l) n (length m.text) ≡ m.text

abbrev shown : List ℕ → Moved → Course
shown l m = before m.text (remaining l m.progress m.octets)

pass : (l : List ℕ) (n : ℕ) (m : Moved) → (m.progress.ended ≡ false → Going l m.progress m.octets)
    → n ≤ length (printed l)
    → (shown l m).text ≡ drop n (printed l) → Passed l n m
pass l n m w h e =
    let c = (remaining l m.progress m.octets).text in
    let t : length m.text + length c ≡ length (printed l) - n = sym (length-append m.text c) ∙ ap length e
    ∙ length-drop n (printed l) in
    record {
      along = record {
        going = w;
        rest =
            sym (drop_at m.text c (length m.text) refl) ∙ ap (drop (length m.text)) e
            ∙ drop-drop (length m.text) n (printed l);
        within = omega arith;
      };
      here = ap (take (length m.text)) (sym e) ∙ take_at m.text c (length m.text) refl;
    }

-- ---- the first piece

first_onward : (l a : List ℕ) → length a ≡ area_size → input_course l a ≡ shown l (first_piece l a)
first_onward l a h =
    by_eq (number_of (plan_as_read l).answer) 0
    (λ e. start_on l a h e ∙ ap (shown l) (sym (started_first l a e)))
    (λ e. refused_course l a e
    ∙ ap (λ (s : List ℕ). course s a) (sym (append-nil (refused_line (number_of (plan_as_read l).answer))))
    ∙ ap (before (refused_line (number_of (plan_as_read l).answer))) (sym (remaining_off l no_progress a refl))
    ∙ ap (shown l) (sym (refused_first l a e)))

first_going : (l a : List ℕ) → length a ≡ area_size → (first_piece l a).progress.ended ≡ false
    → Going l (first_piece l a).progress (first_piece l a).octets
first_going l a h q =
    by_eq (number_of (plan_as_read l).answer) 0
    (λ e. subst (λ (m : Moved). Going l m.progress m.octets) (sym (started_first l a e)) (start_going l a h e))
    (λ e. absurd (true≢false (sym (ap (λ (m : Moved). m.progress.ended) (refused_first l a e)) ∙ q)))

module _ (l a : List ℕ) (h : length a ≡ area_size) (m : Moved) (e : m ≡ first_piece l a) where
  pub first_passed : Passed l 0 m
  first_passed =
      subst (Passed l 0) (sym e)
      (pass l 0 (first_piece l a) (first_going l a h) (omega arith)
      (ap (λ (c : Course). c.text) (sym (first_onward l a h)) ∙ course_same l a h))

  pub first_area : (remaining l m.progress m.octets).octets ≡ (input_course l a).octets
  first_area =
      ap (λ (x : Moved). (remaining l x.progress x.octets).octets) e
      ∙ ap (λ (c : Course). c.octets) (sym (first_onward l a h))

-- ---- a piece after it

module _ (l : List ℕ) (n : ℕ) (g : Progress) (b : List ℕ) (w : Along l n g b) (h : g.ended ≡ false) (m : Moved)
    (e : m ≡ move l g b) where
  pub next_passed : Passed l n m
  next_passed =
      subst (Passed l n) (sym e)
      (pass l n (move l g b) (λ q. (next l g b (w.going h) h).going) w.within
      (ap (λ (c : Course). c.text) (sym (next l g b (w.going h) h).onward) ∙ w.rest))

  pub next_area : (remaining l m.progress m.octets).octets ≡ (remaining l g b).octets
  next_area =
      ap (λ (x : Moved). (remaining l x.progress x.octets).octets) e
      ∙ ap (λ (c : Course). c.octets) (sym (next l g b (w.going h) h).onward)

  pub next_fewer : pieces m.progress < pieces g
  next_fewer = subst (λ (x : Moved). pieces x.progress < pieces g) (sym e) (next l g b (w.going h) h).fewer

-- ---- the end

module _ (l : List ℕ) (n : ℕ) (g : Progress) (b : List ℕ) (h : g.ended ≡ true) where
  pub end_place : Along l n g b → n ≡ length (printed l)
  end_place w =
      let k : 0 ≡ length (printed l) - n = ap (λ (c : Course). length c.text) (sym (remaining_off l g b h))
      ∙ ap length w.rest ∙ length-drop n (printed l) in
      let p = w.within in
      omega arith

  pub end_area : (remaining l g b).octets ≡ b
  end_area = ap (λ (c : Course). c.octets) (remaining_off l g b h)

-- ---- what the calls hand out, on an area of just the octets that one must have

module _ (l b o : List ℕ) (k : 2048 ≤ length o) where
  pub begin_hand : length b ≡ area_size → begun l b o ≡ given o (first_piece l b)
  begin_hand h =
      let t : take area_size b ≡ b = take_all area_size b (omega arith) in
      begin_on 0 l b o (omega arith) k ∙ ap (λ (x : List ℕ). on_front b (given o (first_piece l x))) t
      ∙ rest_none (given o (first_piece l b))
    where
      rest_none : (x : Hand) → on_front b x ≡ x
      rest_none x =
          ap (λ (y : List ℕ). record {
            answer = x.answer;
            progress = x.progress;
            octets = y;
            out = x.out;
          }) (ap (λ (y : List ℕ). x.octets ++ y) none ∙ append-nil x.octets)
        where
          none : drop area_size b ≡ []
          none = ap (drop area_size) (sym (append-nil b)) ∙ drop_at b [] area_size h

  pub advance_hand : (g : Progress) → Going l g b → advanced l b o g ≡ given o (move l g b)
  advance_hand g w =
      ap (λ (x : List ℕ). advanced l x o g) (sym (append-nil b))
      ∙ advance_on l b [] o g w k
      ∙ ap (λ (y : List ℕ). record {
        answer = (given o (move l g b)).answer;
        progress = (move l g b).progress;
        octets = y;
        out = sets o 0 (move l g b).text;
      }) (append-nil (move l g b).octets)

-- what a call hands out, by the octets that it says
module _ (o x b : List ℕ) (m : Moved) (r : Handed) (p : handed r b x ≡ given o m) (q : length m.text ≤ 2048)
    (f : 2048 ≤ length o) where
  size_is : r.size ≡ length m.text
  size_is = ap (λ (h : Hand). get_or (values_of h.answer) 0 0) p

  pub hand_moved : moved (take r.size x) r.progress b ≡ m
  hand_moved =
      let t : take r.size x ≡ m.text = ap (take r.size) (ap (λ (h : Hand). h.out) p)
      ∙ take_sets m.text o r.size size_is (omega arith) in
      (λ i. moved (t i) (p i).progress (p i).octets)

  pub hand_within : r.size ≤ length x
  hand_within =
      let y : length x ≡ length o = ap (λ (h : Hand). length h.out) p
      ∙ length-sets o 0 m.text in omega (arith, size_is)
