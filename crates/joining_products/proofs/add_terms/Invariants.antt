-- `joining_products::add_terms`: the exponents from the index on are still to be added.
use lib.ListN.{drop}
use Rattle.key_set.specs.Table.{keys_in}
use Rattle.joining_rule.specs.Extend.{add_terms}
use Rattle.joining_products.proofs.Growing.{Growing}
use Rattle.joining_products.proofs.add_terms.Given as goal

abbrev pub invariant-loop-t : goal.invariant-loop-t
invariant-loop-t l =
    Growing l.fn.table l.len (add_terms l.exponents l.s (keys_in l.len l.fn.table)) (add_terms (drop l.t-index l.exponents) l.s) l.n l.table l.index
