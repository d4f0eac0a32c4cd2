-- `joining_products::add_squares`: the products of the indices from b's on with themselves are still to be added.
use Prim.Native.Nat.{◌*◌}
use lib.ListN.{length, get_or}
use Rattle.counting.specs.Counting.{from_to}
use Rattle.key_set.specs.Table.{keys_in}
use Rattle.joining_rule.specs.Extend.{add_terms}
use Rattle.joining_products.specs.Adding.{add_squares}
use Rattle.joining_products.proofs.Growing.{Growing}
use Rattle.joining_products.proofs.add_squares.Given as goal

abbrev pub invariant-loop-b : goal.invariant-loop-b
invariant-loop-b l =
    Growing l.fn.table l.len (add_squares l.basis.exponents.now l.basis.keys.now (keys_in l.len l.fn.table))
    (from_to l.b-index (length l.basis.keys.now) (λ j. add_terms l.basis.exponents.now (2 * get_or l.basis.keys.now j 0))) l.n l.table l.index
