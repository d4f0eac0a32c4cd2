-- `gather`: after each turn the parity bytes of one condition more.
use Rattle.sign_symmetries.proofs.Gathering.{GatheredTo}
use Rattle.sign_symmetries.proofs.gather.Given as goal

abbrev pub invariant-loop-j : goal.invariant-loop-j
invariant-loop-j l = GatheredTo l.keys l.sizes l.j l.n l.bytes
