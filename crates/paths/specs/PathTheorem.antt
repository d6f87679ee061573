-- Over every list of starts, calls, marks, returns, drops and writes of another hand, refused ones among them, the
-- promise of Paths holds. Assumes nothing.
use Rattle.std.specs.Prelude.{ℕ, ◌+◌, ◌≤◌, ◌<◌, ◌≡◌, refl, Bool, true, false, List, [], ◌∷◌, ◌++◌, ltb, eqb, length, take, drop}
use Rattle.std.proofs.Common.{sym, ◌∙◌, ap, subst, true≢false, arith, le-ltb, ltb-false, eqb-true, length-append, take-append-drop, take_at, length-take-le, ext_get_or}
use Rattle.std.proofs.lemmas.Bool.{eqb-false}
use Rattle.std.proofs.lemmas.List.{length-replicate}
use Rattle.std.proofs.lemmas.List.Edits.{sets}
use Rattle.std.proofs.Math.Seq.{length-sets}
use Rattle.octets.specs.Base.{pick, outside, accepted, number_of}
use Rattle.octets.specs.BaseLaws.{by_test, by_eq, within}
use Rattle.octets.specs.Equal.{equal}
use Rattle.octets.specs.EqualLaws.{equal_true}
use Rattle.octets.specs.NumberLaws.{Octets}
use Rattle.octets.specs.Store.{take_sets}
use Rattle.octets.specs.Turns.{blanked, length_blanked, blanked_same}
use Rattle.sheet_layout.specs.declared.Layout.{Layout}
use Rattle.sheet_layout.specs.Check.{refusal_of}
use Rattle.sheet_layout.specs.CheckLaws.{sound}
use Rattle.sheet_layout.specs.Limits.{max_stations, max_draws}
use Rattle.sheet_read.specs.Sheet.{map_of, stands, layout_in, sheet_size, read_sheet}
use Rattle.sheet_read.specs.SheetTheorems.{read_formed}
use Rattle.area.specs.Offsets.{area_size}
use Rattle.area_check.specs.Valid.{area_wrong, area_refusal}
use Rattle.area_check.specs.AreaCheckLaws.{passes_right}
use Rattle.bus_start.specs.Fresh.{with_plan, fresh}
use Rattle.bus_start.specs.FreshLaws.{Formed, fresh_length}
use Rattle.bus_start.specs.Start.{started}
use Rattle.bus_spec.specs.Passes.{Passing, ready_passes}
use Rattle.marks.specs.Marks.{mark_count, name_size, store_size, copy_at}
use Rattle.marks.specs.Marks.{found, place_for, with_mark, marked, returned, dropped}
use Rattle.marks.specs.MarkTheorems.{found_most, place_most, mark_own, mark_other, drop_copy}
use Rattle.delivery.specs.Calls.{Call, Fair, AllFair, Moment, leaves, end, begin}
use Rattle.delivery.specs.Demand3.{called}
use Rattle.delivery.specs.Passing.{started_passes}
use Rattle.delivery.proofs.Theorem.{call_octets, demand_3}
use Rattle.area_check.specs.Front.{refusal_front}
use Rattle.bus_start.specs.Front.{fresh_front}
use Rattle.paths.specs.Front.{called_front, called_passing, called_length}
use Rattle.paths.specs.Paths.{Path, Known, unknown, along, further, onward, blank, layout_of, beginning, reached}
use Rattle.paths.specs.Paths.{Act, start, call, mark, back, lose, hand, FairAct, AllFairActs, Session, opened}
use Rattle.paths.specs.Paths.{starts, after, after_all, Promise}

-- ---- octets reached along a path

record Reached (p : Path) (l : List ℕ) : Type 0 where
  used : ℕ
  octets : Octets p.sheet
  sheet : (read_sheet p.sheet).answer ≡ accepted (used ∷ [])
  begun : (started blank (layout_of p) p.depth p.draws).answer ≡ accepted []
  fair : AllFair p.calls
  here : l ≡ reached p
  passing : Passing l
  size : length l ≡ area_size

fair_more : (cs : List Call) (c : Call) → AllFair cs → Fair c → AllFair (cs ++ (c ∷ []))
fair_more [] c f g = (g, tt)
fair_more (x ∷ cs) c f g = (f.0, fair_more cs c f.1 g)

end_more : (cs : List Call) (c : Call) (m : Moment) → end (cs ++ (c ∷ [])) m ≡ leaves c (end cs m)
unfolding end
end_more [] c m = refl
end_more (x ∷ cs) c m = end_more cs c (leaves x m)

one_more_lem : (p : Path) (l : List ℕ) (c : Call) → Reached p l → Fair c → Reached (further p c) (called c l)
unfolding reached beginning
one_more_lem p l c r f =
    let m = end p.calls (begin (started blank (layout_of p) p.depth p.draws).octets) in
    let ok : area_refusal m.area ≡ 0 = subst (λ (x : List ℕ). area_refusal x ≡ 0) r.here
    (ready_passes l r.passing) in
    record {
      used = r.used;
      octets = r.octets;
      sheet = r.sheet;
      begun = r.begun;
      fair = fair_more p.calls c r.fair f;
      here = ap (called c) r.here ∙ sym (call_octets c m ok)
          ∙ ap (λ (x : Moment). x.area) (sym (end_more p.calls c (begin _)));
      passing = called_passing l r.passing c f;
      size = called_length l r.passing c f ∙ r.size;
    }

-- ---- of an area, which may be longer

record Leads (p : Path) (a : List ℕ) : Type 0 where
  long : area_size ≤ length a
  front : Reached p (take area_size a)

split : (a : List ℕ) → take area_size a ++ drop area_size a ≡ a
split a = take-append-drop area_size a

lead : (p : Path) (b z x : List ℕ) → x ≡ b ++ z → Reached p b → Leads p x
lead p b z x e r =
    record {
      long = omega (arith, ap length e, length-append b z, r.size);
      front = subst (Reached p) (sym (ap (take area_size) e ∙ take_at b z area_size r.size)) r;
    }

lead_more : (p : Path) (a : List ℕ) (c : Call) → Leads p a → Fair c → Leads (further p c) (called c a)
lead_more p a c v f =
    let b = take area_size a in
    let z = drop area_size a in
    lead (further p c) (called c b) z (called c a)
    (ap (called c) (sym (split a)) ∙ called_front z b v.front.passing c f) (one_more_lem p b c v.front f)

lead_passes : (p : Path) (a : List ℕ) → Leads p a → area_refusal a ≡ 0
lead_passes p a v =
    let b = take area_size a in
    ap area_refusal (sym (split a)) ∙ refusal_front (drop area_size a) b (omega (arith, v.front.size))
    ∙ ready_passes b v.front.passing

-- ---- a fresh start

length_blank : length blank ≡ area_size
unfolding blank
length_blank = length-replicate {A = ℕ} area_size 0

blanked_any : (a b : List ℕ) → length a ≡ area_size → length b ≡ area_size → blanked area_size a ≡ blanked area_size b
blanked_any a b e f =
    let g = length_blanked area_size a in
    let h = length_blanked area_size b in
    ext_get_or 0 (blanked area_size a) (blanked area_size b) (omega arith)
    (λ k l. blanked_same area_size k a (omega arith) (omega arith)
    ∙ sym (blanked_same area_size k b (omega arith) (omega arith)))

fresh_any : (y : Layout) (d : ℕ) (ds : List (List ℕ)) (a b : List ℕ) → length a ≡ area_size → length b ≡ area_size
    → fresh y d ds a ≡ fresh y d ds b
unfolding fresh
fresh_any y d ds a b e f = ap (with_plan y d ds) (blanked_any a b e f)

read_number : (s : List ℕ) → number_of (read_sheet s).answer ≡ 0 → (read_sheet s).answer ≡ accepted (sheet_size s ∷ [])
unfolding read_sheet
read_number s =
    by_test (ltb (length s) (sheet_size s)) (λ c. rw c (λ h. absurd (omega arith)))
    (λ c. by_test (stands (map_of s) 7) (λ e. rw (c, e) (λ h. absurd (omega arith)))
    (λ e. by_test (eqb (refusal_of (layout_in s)) 0) (λ o. rw (c, e, o) (λ h. refl))
    (λ o. rw (c, e, o) (λ h. absurd (eqb-false (refusal_of (layout_in s)) 0 o h)))))

-- what an accepted start is
record Begun (a : List ℕ) (y : Layout) (d : ℕ) (ds : List (List ℕ)) : Type 0 where
  long : area_size ≤ length a
  few : y.count ≤ max_stations
  shallow : d ≤ max_draws
  same : (started a y d ds).octets ≡ fresh y d ds a
  answer : (started blank y d ds).answer ≡ accepted []
  octets : (started blank y d ds).octets ≡ fresh y d ds blank

start_good : (a : List ℕ) (y : Layout) (d : ℕ) (ds : List (List ℕ)) → ltb (length a) area_size ≡ false
    → eqb (refusal_of y) 0 ≡ true → outside d 1 16 ≡ false → Begun a y d ds
unfolding started
start_good a y d ds c e o =
    let n = length_blank in
    let b : ltb (length blank) area_size ≡ false = le-ltb (length blank) area_size (omega arith) in
    record {
      long = ltb-false (length a) area_size c;
      few = (sound y (eqb-true (refusal_of y) 0 e)).count.1;
      shallow = (within d 1 16 o).1;
      same = rw (c, e, o);
      answer = rw (b, e, o);
      octets = rw (b, e, o);
    }

start_begun : (a : List ℕ) (y : Layout) (d : ℕ) (ds : List (List ℕ)) → number_of (started a y d ds).answer ≡ 0
    → Begun a y d ds
unfolding started
start_begun a y d ds =
    by_test (ltb (length a) area_size) (λ c. rw c (λ h. absurd (omega arith)))
    (λ c. by_test (eqb (refusal_of y) 0)
    (λ e. by_test (outside d 1 16) (λ o. rw (c, e, o) (λ h. absurd (omega arith)))
    (λ o h. start_good a y d ds c e o))
    (λ e. rw (c, e) (λ h. absurd (eqb-false (refusal_of y) 0 e h))))

lead_start : (a s : List ℕ) (d : ℕ) (ds : List (List ℕ)) → Octets s → number_of (read_sheet s).answer ≡ 0
    → number_of (started a (read_sheet s).layout d ds).answer ≡ 0
    → Leads (record { sheet = s; depth = d; draws = ds; calls = [] }) (started a (read_sheet s).layout d ds).octets
unfolding reached beginning end
lead_start a s d ds o h g =
    let y = (read_sheet s).layout in
    let n = read_number s h in
    let w = start_begun a y d ds g in
    let formed : Formed y.stations y.count = read_formed s (sheet_size s) n in
    let b = take area_size a in
    let z = drop area_size a in
    let lb : length b ≡ area_size = length-take-le area_size a w.long in
    let lf : length (fresh y d ds blank) ≡ area_size =
    fresh_length y d ds blank (omega (arith, length_blank)) w.few w.shallow formed ∙ length_blank in
    lead (record { sheet = s; depth = d; draws = ds; calls = [] }) (started blank y d ds).octets z _
    (w.same ∙ ap (fresh y d ds) (sym (split a))
    ∙ fresh_front z y d ds b (omega arith) w.few w.shallow formed
    ∙ ap (λ (l : List ℕ). l ++ z) (fresh_any y d ds b blank lb length_blank ∙ sym w.octets))
    (record {
      used = sheet_size s;
      octets = o;
      sheet = n;
      begun = w.answer;
      fair = tt;
      here = refl;
      passing = started_passes blank y d ds formed w.answer;
      size = ap length w.octets ∙ lf;
    })

-- ---- the book

-- every path in it is true

record True (w : Session) : Type 0 where
  area : (p : Path) → w.path ≡ along p → Leads p w.area
  places : (k : ℕ) (p : Path) → k < mark_count → w.places k ≡ along p → Reached p (copy_at w.store k)

abbrev is_unknown : Known → Bool
is_unknown unknown = true
is_unknown (along p) = false

not_known : {C : Type 0} (p : Path) → unknown ≡ along p → C
not_known p e = absurd (true≢false (ap is_unknown e))

abbrev path_in : Known → Path → Path
path_in unknown q = q
path_in (along p) q = p

same_path : (p q : Path) → along p ≡ along q → p ≡ q
same_path p q e = ap (λ (k : Known). path_in k p) e

call_known : (k : Known) (a : List ℕ) (c : Call) → ((p : Path) → k ≡ along p → Leads p a) → Fair c → (p : Path)
    → onward k c ≡ along p → Leads p (called c a)
call_known unknown a c t f p e = not_known p e
call_known (along q) a c t f p e =
    subst (λ (x : Path). Leads x (called c a)) (same_path (further q c) p e) (lead_more q a c (t q refl) f)

start_true : (s : List ℕ) (d : ℕ) (ds : List (List ℕ)) (w : Session) → Octets s → True w → True (after (start s d ds) w)
unfolding after starts
start_true s d ds w o t =
    by_test (eqb (number_of (read_sheet s).answer) 0)
    (λ h. by_test (eqb (number_of (started w.area (read_sheet s).layout d ds).answer) 0)
    (λ g. rw (h, g) (record {
      area = λ p e. subst (λ (x : Path). Leads x (started w.area (read_sheet s).layout d ds).octets)
          (same_path _ p e)
          (lead_start w.area s d ds o (eqb-true _ 0 h) (eqb-true _ 0 g));
      places = t.places;
    }))
    (λ g. rw (h, g) t))
    (λ h. rw h t)

mark_true : (name : List ℕ) (w : Session) → length name ≡ name_size → True w → True (after (mark name) w)
unfolding after marked
mark_true name w eight t =
    by_test (eqb (area_refusal w.area) 0)
    (λ r. by_test (ltb (length w.store) store_size)
    (λ l. rw (r, l) t)
    (λ l. by_test (eqb (place_for w.store name) mark_count)
    (λ f. rw (r, l, f) t)
    (λ f. rw (r, l, f) (record { area = t.area; places = made (eqb-true _ 0 r) (ltb-false _ store_size l) f }))))
    (λ r. by_eq (area_refusal w.area) 0
    (λ z. absurd (eqb-false _ 0 r z))
    (λ z. rw (r, r) t))
  where
    made : area_refusal w.area ≡ 0 → store_size ≤ length w.store → eqb (place_for w.store name) mark_count ≡ false
        → (k : ℕ) (p : Path) → k < mark_count
        → pick (eqb k (place_for w.store name)) w.path (w.places k) ≡ along p
        → Reached p (copy_at (with_mark w.store (place_for w.store name) name w.area) k)
    made r l f k p hk e =
        let at = place_for w.store name in
        let ha : at < mark_count = omega (arith, place_most w.store name, eqb-false at mark_count f) in
        let big = (passes_right w.area r).0 in
        by_test (eqb k at)
        (λ c. subst (Reached p) (sym (ap (copy_at (with_mark w.store at name w.area)) (eqb-true k at c)
        ∙ mark_own w.store name w.area at ha l eight big)) (t.area p (rw c at e)).front)
        (λ c. subst (Reached p) (sym (mark_other w.store name w.area at ha l eight big k hk (eqb-false k at c)))
        (t.places k p hk (rw c at e)))

back_true : (name : List ℕ) (w : Session) → True w → True (after (back name) w)
unfolding after returned
back_true name w t =
    by_test (ltb (length w.area) area_size)
    (λ a. rw a t)
    (λ a. by_test (ltb (length w.store) store_size)
    (λ l. rw (a, l) t)
    (λ l. by_test (eqb (found w.store name) mark_count)
    (λ f. rw (a, l, f) t)
    (λ f. by_test (area_wrong (copy_at w.store (found w.store name)))
    (λ b. rw (a, l, f, b) t)
    (λ b. rw (a, l, f, b) (record {
      area = made (ltb-false _ area_size a) f;
      places = t.places;
    })))))
  where
    made : area_size ≤ length w.area → eqb (found w.store name) mark_count ≡ false → (p : Path)
        → w.places (found w.store name) ≡ along p
        → Leads p (sets w.area 0 (copy_at w.store (found w.store name)))
    made a f p e =
        let k = found w.store name in
        let hk : k < mark_count = omega (arith, found_most w.store name, eqb-false k mark_count f) in
        let r = t.places k p hk e in
        let x = copy_at w.store k in
        record {
          long = omega (arith, length-sets w.area 0 x);
          front = subst (Reached p) (sym (take_sets x w.area area_size (sym r.size) (omega (arith, r.size)))) r;
        }

lose_true : (name : List ℕ) (w : Session) → True w → True (after (lose name) w)
unfolding after dropped
lose_true name w t =
    by_test (ltb (length w.store) store_size)
    (λ l. rw l t)
    (λ l. by_test (eqb (found w.store name) mark_count)
    (λ f. rw (l, f) t)
    (λ f. rw (l, f) (record {
      area = t.area;
      places = λ k p hk e.
          let at = found w.store name in
          subst (Reached p)
          (sym (drop_copy w.store at k (ltb-false _ store_size l)
          (omega (arith, found_most w.store name, eqb-false at mark_count f)) hk))
          (t.places k p hk e);
    })))

hand_true : (s : List ℕ) (w : Session) → True w → True (after (hand s) w)
unfolding after
hand_true s w t =
    record {
      area = t.area;
      places = λ k p hk e.
          by_test (equal (copy_at w.store k) (copy_at s k))
          (λ c. subst (Reached p) (equal_true (copy_at w.store k) (copy_at s k) c) (t.places k p hk (rw c at e)))
          (λ c. not_known p (rw c at e));
    }

after_true : (x : Act) (w : Session) → FairAct x → True w → True (after x w)
unfolding after
after_true (start s d ds) w f t = start_true s d ds w f t
after_true (call c) w f t =
    record { area = call_known w.path w.area c t.area f; places = t.places }
after_true (mark name) w f t = mark_true name w f t
after_true (back name) w f t = back_true name w t
after_true (lose name) w f t = lose_true name w t
after_true (hand s) w f t = hand_true s w t

all_true : (xs : List Act) (w : Session) → AllFairActs xs → True w → True (after_all xs w)
unfolding after_all
all_true [] w f t = t
all_true (x ∷ xs) w f t = all_true xs (after x w) f.1 (after_true x w f.0 t)

promised : (w : Session) → True w → Promise w
unfolding beginning
promised w t =
    record {
      octets = λ p e. (t.area p e).front.here;
      passes = λ p e. lead_passes p w.area (t.area p e);
      demand = λ p e. let r = (t.area p e).front in
          demand_3 p.sheet r.octets r.used r.sheet blank p.depth p.draws r.begun p.calls
          r.fair;
      marks = λ k p hk e. (t.places k p hk e).here;
      returns = λ k p hk e. ready_passes (copy_at w.store k) (t.places k p hk e).passing;
    }

-- whatever area and store it begins with
pub paths_promised : (xs : List Act) (a s : List ℕ) → AllFairActs xs → Promise (after_all xs (opened a s))
paths_promised xs a s f =
    promised (after_all xs (opened a s))
    (all_true xs (opened a s) f (record { area = λ p e. not_known p e; places = λ k p hk e. not_known p e }))
