-- The products of the bases from j on are still to be put in.
use Rattle.key_set.specs.Table.{keys_in}
use Rattle.joining_rule.specs.Rounds.{extend_to}
use Rattle.joining_products.proofs.Growing.{Growing}
use Rattle.joining_bases.specs.Parts.{bases_in, labels_in}
use Rattle.joining_bases.proofs.Noting.{extend_from}
use Rattle.joining_bases.proofs.put_missing.Given as goal

abbrev pub invariant-loop-j : goal.invariant-loop-j
invariant-loop-j l =
    Growing l.fn.table l.fn.support.len (extend_to 9 (bases_in l.keys l.sizes) (labels_in l.sizes l.labels) (keys_in l.fn.support.len l.fn.table))
    (extend_from l.j (bases_in l.keys l.sizes) (labels_in l.sizes l.labels)) l.n l.table l.index
