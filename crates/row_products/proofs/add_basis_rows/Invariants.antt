-- `add_basis_rows`: the table of sums holds the products of the first r rows on basis j.
use Rattle.certificate_rows.specs.Offsets.{rows_by}
use Rattle.row_products.proofs.Gathering.{Gathering}
use Rattle.row_products.proofs.add_basis_rows.Given as goal

abbrev pub invariant-loop-r : goal.invariant-loop-r
invariant-loop-r l = Gathering l.part (rows_by l.rows.stream.now l.rows.starts.now l.rows.count) l.j l.r l.initial.g l.g l.found
