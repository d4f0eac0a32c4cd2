-- `joining_products::add_row`: the products with the indices from i on are still to be added.
use lib.ListN.{length}
use Rattle.key_set.specs.Table.{keys_in}
use Rattle.round_laws.specs.Added.{add_list}
use Rattle.round_laws.specs.Lists.{list_from}
use Rattle.joining_products.specs.Adding.{IndexList}
use Rattle.joining_products.proofs.Adding.{Adding}
use Rattle.joining_products.proofs.add_row.Given as goal

abbrev pub invariant-loop-i : goal.invariant-loop-i
invariant-loop-i l =
    IndexList (length l.basis.keys.now) l.follow l.i
    × Adding l.basis.exponents.now l.basis.keys.now l.fn.table l.fn.pairs l.len (add_list l.basis.exponents.now l.basis.keys.now l.k (list_from l.follow l.fn.a) (keys_in l.len l.fn.table))
    (add_list l.basis.exponents.now l.basis.keys.now l.k (list_from l.follow l.i)) l.n l.table l.index l.pairs

abbrev pub decreases-loop-i : goal.decreases-loop-i
decreases-loop-i l = length (list_from l.follow l.i)
