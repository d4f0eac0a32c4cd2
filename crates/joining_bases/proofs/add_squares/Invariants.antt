-- The squares of the bases from j on are still to be put in.
use Rattle.key_set.specs.Table.{keys_in}
use Rattle.joining_products.proofs.Growing.{Growing}
use Rattle.joining_bases.specs.Parts.{bases_in, squares_to}
use Rattle.joining_bases.proofs.Squares.{squares_from}
use Rattle.joining_bases.proofs.add_squares.Given as goal

abbrev pub invariant-loop-j : goal.invariant-loop-j
invariant-loop-j l =
    Growing l.fn.table l.len (squares_to l.adding (bases_in l.keys l.sizes) (keys_in l.len l.fn.table))
    (squares_from l.adding (bases_in l.keys l.sizes) l.j) l.n l.table l.index
