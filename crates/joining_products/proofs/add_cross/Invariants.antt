-- `joining_products::add_cross`: the products with the indices from k on are still to be added.
use lib.ListN.{length}
use Rattle.key_set.specs.Table.{keys_in}
use Rattle.round_laws.specs.Added.{add_lists}
use Rattle.round_laws.specs.Lists.{list_from}
use Rattle.joining_products.specs.Adding.{IndexList}
use Rattle.joining_products.proofs.Adding.{Adding}
use Rattle.joining_products.proofs.add_cross.Given as goal

abbrev pub invariant-loop-k : goal.invariant-loop-k
invariant-loop-k l =
    IndexList (length l.basis.keys.now) l.follow l.k
    × Adding l.basis.exponents.now l.basis.keys.now l.fn.table l.fn.pairs l.len (add_lists l.basis.exponents.now l.basis.keys.now (list_from l.follow l.m.a) (list_from l.follow l.m.b) (keys_in l.len l.fn.table))
    (add_lists l.basis.exponents.now l.basis.keys.now (list_from l.follow l.m.a) (list_from l.follow l.k)) l.n l.table l.index l.pairs

abbrev pub decreases-loop-k : goal.decreases-loop-k
decreases-loop-k l = length (list_from l.follow l.k)
