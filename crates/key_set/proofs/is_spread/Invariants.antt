-- `is_spread`: what is left of the keys that may stand before others.
use Rattle.std.proofs.Common.{◌≤◌}
use Rattle.key_set.proofs.is_spread.Given as goal

abbrev pub invariant-loop-p : goal.invariant-loop-p
invariant-loop-p l = l.left ≤ 4096
