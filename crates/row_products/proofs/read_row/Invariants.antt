-- `read_row`: the arrays hold the entries before the offset x, and the others stand from there on.
use Rattle.std.proofs.Common.{◌-◌}
use Rattle.certificate_rows.specs.Offsets.{row_at}
use Rattle.row_products.proofs.Gathering.{Filling}
use Rattle.row_products.proofs.read_row.Given as goal

abbrev pub invariant-loop-x : goal.invariant-loop-x
invariant-loop-x l = Filling l.s l.to (row_at l.s l.from l.to).entries l.indices l.factors l.n l.x

abbrev pub decreases-loop-x : goal.decreases-loop-x
decreases-loop-x l = l.to - l.x
