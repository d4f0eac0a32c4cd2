-- `sum_rows`: after j turns one part of the squares of the rows on the first j bases is added, and the table of sums is
-- empty.
use Rattle.std.proofs.Common.{◌≡◌, false}
use Rattle.identity_rows.specs.Walk.{RoomFor, on_bases, Alone}
use Rattle.identity_rows.specs.Bundles.{rows_in, SummedAt}
use Rattle.identity_rows.proofs.sum_rows.Given as goal

abbrev pub invariant-loop-j : goal.invariant-loop-j
invariant-loop-j l =
    RoomFor l.problem.sizes.now l.g
    × SummedAt (on_bases (rows_in l.rows) l.j l.part) l.problem l.keys l.j l.initial.hi l.initial.lo l.hi l.lo
    × (l.wide ≡ false → Alone (on_bases (rows_in l.rows) l.j))
