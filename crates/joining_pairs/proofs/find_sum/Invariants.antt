-- `find_sum`: the pairs with the remainder from place v on have other sums.
use Rattle.joining_pairs.proofs.Pairs.{Seeks}
use Rattle.joining_pairs.proofs.find_sum.Given as goal

abbrev pub invariant-loop-v : goal.invariant-loop-v
invariant-loop-v l = Seeks l.basis l.s l.v

abbrev pub decreases-loop-v : goal.decreases-loop-v
decreases-loop-v l = l.v
