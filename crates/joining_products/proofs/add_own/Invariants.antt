-- `joining_products::add_own`: the products of index i with the indices from k on are still to be added.
use lib.ListN.{length}
use Rattle.counting.specs.Counting.{from_to}
use Rattle.key_set.specs.Table.{keys_in}
use Rattle.joining_rule.specs.Extend.{add_pair, add_row}
use Rattle.joining_products.proofs.Growing.{Growing}
use Rattle.joining_products.proofs.add_own.Given as goal

abbrev pub invariant-loop-k : goal.invariant-loop-k
invariant-loop-k l =
    Growing l.fn.table l.len (add_row l.basis.exponents.now l.basis.keys.now l.labels l.i (keys_in l.len l.fn.table))
    (from_to l.k (length l.basis.keys.now) (add_pair l.basis.exponents.now l.basis.keys.now l.labels l.i)) l.n l.table l.index
