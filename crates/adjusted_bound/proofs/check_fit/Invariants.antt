-- `check_fit`: the changes one by one, up to the first that does not fit.
use Rattle.adjusted_bound.proofs.Scanned.{Unfit}
use Rattle.adjusted_bound.proofs.check_fit.Given as goal

abbrev pub invariant-loop-i : goal.invariant-loop-i
invariant-loop-i l = Unfit l.changes l.n l.i
