-- `joining_blocks::splice`: the indices from k on have still to be given the number a.
use lib.ListN.{length}
use Rattle.round_laws.specs.Lists.{list_from}
use Rattle.round_laws.proofs.Merging.{Merging}
use Rattle.joining_blocks.proofs.splice.Given as goal

abbrev pub invariant-loop-k : goal.invariant-loop-k
invariant-loop-k l = Merging l.m.a l.m.b l.fn.labels l.follow l.labels l.last l.k

abbrev pub decreases-loop-k : goal.decreases-loop-k
decreases-loop-k l = length (list_from l.follow l.k)
