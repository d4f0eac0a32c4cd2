-- `closure::put_conditions`: the exponents of the conditions from j on are still to be put in.
use Rattle.counting.specs.Counting.{from_to}
use Rattle.key_set.specs.Table.{keys_in}
use Rattle.joining_rule.specs.Sets.{insert_all}
use Rattle.joining_products.proofs.Growing.{Growing}
use Rattle.joining_bases.specs.Parts.{exponents_in}
use Rattle.closure.proofs.put_conditions.Given as goal

abbrev pub invariant-loop-j : goal.invariant-loop-j
invariant-loop-j l =
    Growing l.fn.table l.len (from_to 1 9 (λ j. insert_all (exponents_in l.keys l.sizes j)) (keys_in l.len l.fn.table)) (from_to l.j 9 (λ j. insert_all (exponents_in l.keys l.sizes j))) l.n l.table l.index
