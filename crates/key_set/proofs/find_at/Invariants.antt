-- `find_at`: each key with the remainder is looked at, from the last to the first.
use Rattle.std.proofs.Common.{◌+◌, ◌≤◌}
use Rattle.key_set.specs.Table.{divisor_in}
use Rattle.key_set.proofs.Index.{Seeks}
use Rattle.key_set.proofs.find_at.Given as goal

abbrev pub invariant-loop-v : goal.invariant-loop-v
invariant-loop-v l = record { seeks : Seeks (divisor_in l.index) l.table l.len l.key l.v; few : l.steps + l.v ≤ l.len }

abbrev pub decreases-loop-v : goal.decreases-loop-v
decreases-loop-v l = l.v
