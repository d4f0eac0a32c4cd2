-- `joining_products::add_blocks`: the products of the indices from i on are still to be added.
use lib.ListN.{length}
use Rattle.counting.specs.Counting.{from_to}
use Rattle.key_set.specs.Table.{keys_in}
use Rattle.joining_rule.specs.Extend.{add_row, extend}
use Rattle.joining_products.proofs.Growing.{Growing}
use Rattle.joining_products.proofs.add_blocks.Given as goal

abbrev pub invariant-loop-i : goal.invariant-loop-i
invariant-loop-i l =
    Growing l.fn.table l.len (extend l.basis.exponents.now l.basis.keys.now l.labels (keys_in l.len l.fn.table))
    (from_to l.i (length l.basis.keys.now) (add_row l.basis.exponents.now l.basis.keys.now l.labels)) l.n l.table l.index
