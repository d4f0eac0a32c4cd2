-- `absolute_sum`: the changes one by one, each of at most 2^31.
use Rattle.adjusted_bound.proofs.Scanned.{Summed}
use Rattle.adjusted_bound.proofs.absolute_sum.Given as goal

abbrev pub invariant-loop-i : goal.invariant-loop-i
invariant-loop-i l = Summed l.changes l.i l.sum
