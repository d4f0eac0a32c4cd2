-- `row_split`: the entries from the offset x on give the answer.
use Prim.Native.Nat.{◌-◌}
use Rattle.row_blocks.proofs.Splits.{Searching}
use Rattle.row_blocks.proofs.row_split.Given as goal

abbrev pub invariant-loop-x : goal.invariant-loop-x
invariant-loop-x l = Searching l.s l.labels l.from l.to l.first l.x

abbrev pub decreases-loop-x : goal.decreases-loop-x
decreases-loop-x l = l.to - l.x
