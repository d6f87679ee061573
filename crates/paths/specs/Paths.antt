-- Runs with marks and returns (document 02, N5): "For a run with returns, the promise about sent and received frames is
-- made of the path that leads to the present state, abandoned steps left out, where that path begins at a fresh start; a
-- mark that the store brought along, or that another hand has written in since it was made, its area reached from no
-- fresh start, carries no such promise." Nothing here is proved; the theorem is in PathTheorem. Assumes nothing.
use Rattle.std.specs.Prelude.{ℕ, ◌<◌, ◌≡◌, Bool, ◌&&◌, List, [], ◌∷◌, ◌++◌, eqb, length, take, replicate}
use Rattle.octets.specs.Base.{pick, accepted, number_of}
use Rattle.octets.specs.Equal.{equal}
use Rattle.octets.specs.NumberLaws.{Octets}
use Rattle.sheet_layout.specs.declared.Layout.{Layout}
use Rattle.sheet_layout.specs.Fit.{fit_of}
use Rattle.sheet_read.specs.Sheet.{read_sheet}
use Rattle.area.specs.Offsets.{area_size}
use Rattle.area_check.specs.Valid.{area_refusal}
use Rattle.bus_start.specs.Start.{started}
use Rattle.marks.specs.Marks.{mark_count, name_size, copy_at, found, place_for, marked, returned, dropped}
use Rattle.delivery.specs.Calls.{Call, Fair, taken, end, begin}
use Rattle.delivery.specs.Demand3.{called, Demand3For}

-- ---- a path

-- a fresh start on the layout of a sheet, with D and draws, and the calls made since, in order
pub record Path : Type 0 where
  pub sheet : List ℕ
  pub depth : ℕ
  pub draws : List (List ℕ)
  pub calls : List Call

-- how octets were reached: not from any fresh start that is known of, or along a path
pub data Known : Type 0 where
  unknown : Known
  along : Path → Known

-- one call more
abbrev pub further : Path → Call → Path
further p c = record { sheet = p.sheet; depth = p.depth; draws = p.draws; calls = p.calls ++ (c ∷ []) }

abbrev pub onward : Known → Call → Known
onward unknown c = unknown
onward (along p) c = along (further p c)

-- What the path alone leaves, on an area of just the octets that check 1 asks for: after the fresh start, and now.
unfoldable pub blank : List ℕ
blank = replicate area_size 0

abbrev pub layout_of : Path → Layout
layout_of p = (read_sheet p.sheet).layout

unfoldable pub beginning : Path → List ℕ
beginning p = (started blank (layout_of p) p.depth p.draws).octets

unfoldable pub reached : Path → List ℕ
reached p = (end p.calls (begin (beginning p))).area

-- ---- acts on one work area and one store

-- start: sheet, D, draws. back: a return. lose: a drop. hand: another hand has written, and the store holds s now
pub data Act : Type 0 where
  start : (s : List ℕ) (d : ℕ) (draws : List (List ℕ)) → Act
  call : Call → Act
  mark back lose : (name : List ℕ) → Act
  hand : (s : List ℕ) → Act

-- what the types of the code's arguments say: a sheet is octets, a name is eight
abbrev pub FairAct : Act → Type 0
FairAct (start s d draws) = Octets s
FairAct (call c) = Fair c
FairAct (mark name) = length name ≡ name_size
FairAct (back name) = Unit {0}
FairAct (lose name) = Unit {0}
FairAct (hand s) = Unit {0}

abbrev pub AllFairActs : List Act → Type 0
AllFairActs [] = Unit {0}
AllFairActs (x ∷ xs) = FairAct x × AllFairActs xs

-- The area and the store between two acts, and beside them the book: how the area was reached, and how each place's
-- area was.
pub record Session : Type 0 where
  pub area : List ℕ
  pub store : List ℕ
  pub path : Known
  pub places : ℕ → Known

-- nothing is known of what was brought along
abbrev pub opened : (area store : List ℕ) → Session
opened a s = record { area = a; store = s; path = unknown; places = λ k. unknown }

-- whether the sheet is read and the fresh start accepted
unfoldable pub starts : (area sheet : List ℕ) (d : ℕ) (draws : List (List ℕ)) → Bool
starts a s d draws =
    taken (number_of (read_sheet s).answer) && taken (number_of (started a (read_sheet s).layout d draws).answer)

-- What an act leaves: the octets by the promise of its call. An accepted start begins a path, and a call goes on along
-- it. An accepted mark gives its place the area's path, an accepted return gives the area its place's. A place keeps
-- its path as long as its area is untouched; octet and name alone do not matter.
unfoldable pub after : Act → Session → Session
after (start s d draws) w =
    pick (starts w.area s d draws)
    (record {
      area = (started w.area (read_sheet s).layout d draws).octets;
      store = w.store;
      path = along (record { sheet = s; depth = d; draws = draws; calls = [] });
      places = w.places;
    })
    w
after (call c) w =
    record { area = called c w.area; store = w.store; path = onward w.path c; places = w.places }
after (mark name) w =
    pick (taken (number_of (marked w.area w.store name).answer))
    (record {
      area = w.area;
      store = (marked w.area w.store name).octets;
      path = w.path;
      places = λ k. pick (eqb k (place_for w.store name)) w.path (w.places k);
    })
    w
after (back name) w =
    pick (taken (number_of (returned w.area w.store name).answer))
    (record {
      area = (returned w.area w.store name).octets;
      store = w.store;
      path = w.places (found w.store name);
      places = w.places;
    })
    w
after (lose name) w =
    record { area = w.area; store = (dropped w.store name).octets; path = w.path; places = w.places }
after (hand s) w =
    record {
      area = w.area;
      store = s;
      path = w.path;
      places = λ k. pick (equal (copy_at w.store k) (copy_at s k)) (w.places k) unknown;
    }

unfoldable pub after_all : List Act → Session → Session
after_all [] w = w
after_all (x ∷ xs) w = after_all xs (after x w)

-- ---- the promise

-- Where the book has a path for the area, its octets are what that path alone leaves, checks 1 and 2 pass, and on a
-- layout that fits demand 3 holds of the path. Where it has one for a place, the area marked there is what that path
-- leaves, and a return to it is not refused under 2.
pub record Promise (w : Session) : Type 0 where
  pub octets : (p : Path) → w.path ≡ along p → take area_size w.area ≡ reached p
  pub passes : (p : Path) → w.path ≡ along p → area_refusal w.area ≡ 0
  pub demand : (p : Path) → w.path ≡ along p → fit_of (layout_of p) ≡ accepted (1 ∷ [])
      → Demand3For (layout_of p) (beginning p) p.calls
  pub marks : (k : ℕ) (p : Path) → k < mark_count → w.places k ≡ along p → copy_at w.store k ≡ reached p
  pub returns : (k : ℕ) (p : Path) → k < mark_count → w.places k ≡ along p → area_refusal (copy_at w.store k) ≡ 0
