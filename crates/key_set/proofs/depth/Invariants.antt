-- `depth`: a walk back, from link to link.
use Rattle.std.proofs.Common.{◌≤◌}
use Rattle.key_set.proofs.depth.Given as goal

abbrev pub invariant-loop-n : goal.invariant-loop-n
invariant-loop-n l = l.v ≤ l.p
