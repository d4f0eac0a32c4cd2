-- `divide_sums`: after k turns the first k sums are divided.
use Rattle.identity_check.specs.Compare.{DividedSums}
use Rattle.identity_check.proofs.divide_sums.Given as goal

abbrev pub invariant-loop-k : goal.invariant-loop-k
invariant-loop-k l = DividedSums l.keys.table.now l.k l.fn.found l.initial.hi l.initial.lo l.hi l.lo l.least
