-- The pairs of the bases before j are noted.
use Rattle.joining_bases.proofs.Noting.{NotedTo}
use Rattle.joining_bases.proofs.note_all.Given as goal

abbrev pub invariant-loop-j : goal.invariant-loop-j
invariant-loop-j l = NotedTo l.keys l.sizes l.fn.state l.j l.pairs l.state
