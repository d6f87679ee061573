-- `octets_copies::store` meets its contract. Assumes nothing.
use native.Mathlib.Omega.{arith}
use borrow.Author.Rules.{rules}
use lib.ListN.{length-set}
use Rattle.octets.specs.Store.{stored_more, stored_all_lem}
use Rattle.octets_copies.proofs.store.Goals as goal

pub loop-i-preserved : goal.loop-i-preserved
loop-i-preserved c = (simp length-set (search rules), search stored_more)

pub returns : goal.returns
returns c = search stored_all_lem
