-- `split_place`: the rows from row r on give the answer.
use Rattle.row_blocks.proofs.Splits.{Splitting}
use Rattle.row_blocks.proofs.split_place.Given as goal

abbrev pub invariant-loop-r : goal.invariant-loop-r
invariant-loop-r l = Splitting l.rows.stream.now l.rows.starts.now l.labels l.rows.count l.r
