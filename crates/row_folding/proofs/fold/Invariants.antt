-- `fold`: the places before x are folded, those from x on are as they were.
use Rattle.std.proofs.Common.{◌*◌, ◌-◌}
use Rattle.row_folding.proofs.Folds.{Folding}
use Rattle.row_folding.proofs.fold.Given as goal

abbrev pub invariant-loop-x : goal.invariant-loop-x
invariant-loop-x l = Folding l.basis l.initial.g l.x l.g

abbrev pub decreases-loop-x : goal.decreases-loop-x
decreases-loop-x l = 64 * l.size - l.x
