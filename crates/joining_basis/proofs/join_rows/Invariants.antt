-- `join_rows`: what is linked of the pairs of the rows before i is joined.
use Rattle.joining_blocks.specs.Tables.{standing_at, SameTables}
use Rattle.joining_basis.proofs.InRows.{ToRow}
use Rattle.joining_basis.proofs.join_rows.Given as goal

abbrev pub invariant-loop-i : goal.invariant-loop-i
invariant-loop-i l =
    ToRow l.basis.exponents.now l.basis.keys.now (standing_at l.fn.tables l.fn.start) (standing_at l.tables l.r) l.i
    × SameTables l.fn.tables l.tables
