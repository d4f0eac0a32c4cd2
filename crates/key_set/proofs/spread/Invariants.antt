-- `spread`: with every divisor that is tried the index is that of the keys.
use Rattle.key_set.specs.Table.{Indexed}
use Rattle.key_set.proofs.spread.Given as goal

abbrev pub invariant-loop-k : goal.invariant-loop-k
invariant-loop-k l = Indexed l.index l.table l.len
