-- `gather`: the parity bytes of the objective first, and of one condition more with each turn.
use Rattle.std.proofs.Common.{arith}
use Rattle.sign_symmetries.proofs.Gathering.{gathered_first, gathered_next, gathered_all}
use Rattle.sign_symmetries.proofs.gather.Goals as goal

pub loop-j-init : goal.loop-j-init
loop-j-init c =
    let q = rw c.exponents-objective.ensures at c.put_parities-n.ensures in
    gathered_first c.requires.0 _ _ q.0 q.1 q.2

pub loop-j-preserved : goal.loop-j-preserved
loop-j-preserved c =
    let l = c.loop-j in
    let q = rw c.exponents-condition.ensures at c.put_parities-n-in-loop-j.ensures in
    gathered_next c.requires.0 l.j l.n l.bytes l.invariant _ _ (omega (arith, c.loop-j-test.true)) q.0 q.1 q.2

pub returns : goal.returns
returns c =
    let l = c.loop-j in
    gathered_all c.requires.0 l.j l.n l.bytes l.invariant (omega (arith, l.invariant.most, c.loop-j-test.false))
