-- `bus_quick::heard::quick_heard` meets its contract. Assumes nothing.
use Rattle.bus_quick.specs.Quick.{calm_cleared, hears_room, hears_row, count_number, heard_taken, not_taken}
use mathlib.Core.Path.{refl}
use native.Mathlib.Omega.{arith}
use Rattle.bus_quick.proofs.heard.quick_heard.Goals as goal

pub count_down-requires : goal.count_down-requires
count_down-requires c = (
  omega arith,
  omega arith,
  λ z. calm_cleared _ _ _ _ _ _
      c.requires.i_lt_max_stations.0 c.read_word-c.ensures c.put_arrival.ensures c.calm.ensures c.if-calm.true z,
)

pub receive_on-requires : goal.receive_on-requires
receive_on-requires c = (
  omega arith,
  omega arith,
  omega (
    arith,
    count_number _ _ _
        c.requires.i_lt_max_stations.0 c.requires.i_lt_max_stations.3 c.hears.ensures.octets _ _ _ c.count_down.ensures c.put_arrival.ensures,
    hears_room _ _ _ c.requires.i_lt_max_stations.4 _ _ refl c.hears.ensures.value c.if-hears.true,
  ),
  λ z. omega (
    arith,
    count_number _ _ _
        c.requires.i_lt_max_stations.0 c.requires.i_lt_max_stations.3 c.hears.ensures.octets _ _ _ c.count_down.ensures c.put_arrival.ensures,
    hears_row _ _ _ c.requires.i_lt_max_stations.4 _ _ refl c.hears.ensures.value c.if-hears.true _ c.read_word-r.ensures z,
  ),
)

pub returns-then-calm : goal.returns-then-calm
returns-then-calm c =
    heard_taken _ _ _ _ _ _ c.requires.i_lt_max_stations.0 c.requires.i_lt_max_stations.3 c.hears.ensures.octets c.requires.i_lt_max_stations.5 _ _ _ _ _ _ _ _ c.receive_on.ensures c.count_down.ensures c.put_arrival.ensures (hears_room _ _ _ c.requires.i_lt_max_stations.4 _ _ refl c.hears.ensures.value c.if-hears.true) c.read_word-r.ensures c.read_word-c.ensures c.requires.code_value.0 c.requires.code_value.1 c.hears.ensures.value c.if-hears.true c.calm.ensures c.if-calm.true

pub returns-else-calm : goal.returns-else-calm
returns-else-calm c = search not_taken

pub returns-else-hears : goal.returns-else-hears
returns-else-hears c = search not_taken
