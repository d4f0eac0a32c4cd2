-- The bases before j are numbered.
use Rattle.joining_bases.proofs.Labels.{NumberedTo}
use Rattle.joining_bases.proofs.start_blocks.Given as goal

abbrev pub invariant-loop-j : goal.invariant-loop-j
invariant-loop-j l = NumberedTo l.sizes l.j l.labels
