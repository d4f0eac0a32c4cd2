-- `join_row`: what is linked of i and the indices before k is joined.
use Rattle.joining_blocks.specs.Tables.{standing_at, SameTables}
use Rattle.joining_basis.proofs.InRows.{InRow}
use Rattle.joining_basis.proofs.join_row.Given as goal

abbrev pub invariant-loop-k : goal.invariant-loop-k
invariant-loop-k l =
    InRow l.basis.exponents.now l.basis.keys.now (standing_at l.fn.tables l.fn.start) l.i (standing_at l.tables l.r) l.k
    × SameTables l.fn.tables l.tables
