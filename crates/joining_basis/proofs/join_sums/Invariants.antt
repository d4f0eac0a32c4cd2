-- `join_sums`: the pairs with one of the sums so far are joined.
use Rattle.std.proofs.Common.{take}
use Rattle.round_laws.specs.Joins.{WithSum, SomeOf}
use Rattle.joining_blocks.specs.Tables.{standing_at, SameTables}
use Rattle.joining_basis.proofs.Going.{Going}
use Rattle.joining_basis.proofs.join_sums.Given as goal

abbrev pub invariant-loop-s : goal.invariant-loop-s
invariant-loop-s l =
    Going l.basis.exponents.now l.basis.keys.now (SomeOf (WithSum l.basis.keys.now) (take l.s-index l.sums)) (standing_at l.fn.tables l.fn.start) (standing_at l.tables l.r)
    × SameTables l.fn.tables l.tables
