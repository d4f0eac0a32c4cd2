-- `joining_round::round`: the bases before j have joined.
use Rattle.joining_bases.specs.Nine.{nine, stage}
use Rattle.joining_bases.proofs.Turns.{Turn}
use Rattle.joining_round.proofs.round.Given as goal

abbrev pub invariant-loop-j : goal.invariant-loop-j
invariant-loop-j l =
    Turn l.keys l.sizes (nine l.fn.labels l.fn.follow l.fn.pairs l.fn.table l.fn.index l.fn.state l.fn.s) l.j
    (nine l.labels l.follow l.pairs l.table l.index l.state (stage l.fn.s.since l.fn.s.until l.n l.fn.s.adding))
