-- What holds over every list of calls on any layout, fitting or not, and what is known of the area that a fresh start
-- leaves. The theorems are in proofs/Theorem. Assumes nothing.
use Prim.Native.Nat.{ℕ, suc, ◌+◌, ◌<◌}
use Rattle.std.specs.Prelude.{◌≡◌, Some}
use mathlib.Core.List.{List}
use Rattle.std.proofs.Math.ListN.{length}
use Rattle.octets.specs.NumberLaws.{Octets}
use Rattle.sheet_layout.specs.declared.Layout.{Layout}
use Rattle.sheet_layout.specs.Layout as lay
use Rattle.station_spec.specs.declared.TransmitEvent.TheVariants.{Sent}
use Rattle.station_spec.specs.declared.ReceiveEvent.TheVariants.{GotOk}
use Rattle.area.specs.Area.{count_at, address_at}
use Rattle.area_check.specs.Valid.{area_refusal}
use Rattle.bus_spec.specs.Passes.{Passing}
use Rattle.trace.specs.World as world
use Rattle.delivery.specs.Calls.{Call}
use Rattle.delivery.specs.Calls.{log, end, begin, sent_at, got_at}
use Rattle.delivery.specs.Encode.{Encodes}
use Rattle.delivery.specs.Net.{net_of, span_at, Laid}
use Rattle.delivery.specs.Balance.{AllBalanced}
use Rattle.delivery.specs.Demand3.{apart}

-- ---- on any layout, fitting or not: no refusal under 1 or 2, the balance, and "receiveOK means sent"

pub record Always (y : Layout) (b : List ℕ) (cs : List Call) : Type 0 where
  pub passes : area_refusal (end cs (begin b)).area ≡ 0
  pub balance : AllBalanced (end cs (begin b)).area
  pub sent : (u j k : ℕ) → u < length (log cs (begin b)) → j < y.count → got_at (log cs (begin b)) u j ≡ Some (GotOk k)
      → (i : ℕ) × (e : ℕ) × (n : ℕ) × (i < y.count)
      × ((i ≡ j → ⊥) × (u ≡ suc (e + apart y i j)) × (sent_at (log cs (begin b)) e i ≡ Some (Sent n)))

-- What is known of the area b that a fresh start on the layout y leaves.
pub record Fresh (y : Layout) (b : List ℕ) : Type 0 where
  pub laid : Laid y b
  pub passing : Passing b
  pub octets : (i : ℕ) → i < count_at b → Octets (address_at b i)
  pub encodes : Encodes (net_of b) b (world.fresh (net_of b))
  pub even : AllBalanced b
  pub span : span_at b ≡ lay.span_of y
