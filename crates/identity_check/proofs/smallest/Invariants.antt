-- `smallest`: after i turns the first i places are tested.
use Rattle.identity_check.specs.Compare.{Nonzero, Smallest}
use Rattle.identity_check.proofs.smallest.Given as goal

abbrev pub invariant-loop-i : goal.invariant-loop-i
invariant-loop-i l = Smallest (Nonzero l.hi l.lo) l.keys.table.now l.i l.fn.found l.least
