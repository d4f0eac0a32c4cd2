use Rattle.std.proofs.Common.{arith, ◌≡◌}
use Rattle.identity_check.proofs.Carries.{dividing_start, dividing_room, dividing_exact, dividing_uneven}
use Rattle.identity_check.proofs.divide_sums.Goals as goal
use Rattle.identity_check.proofs.divide_sums.Goals.{then-not-divide, else-not-divide}

pub loop-k-init : goal.loop-k-init
loop-k-init c = dividing_start

pub divide-requires : goal.divide-requires
divide-requires c =
    let v = c.loop-k.invariant in
    let t = c.loop-k-test.true in
    (dividing_room v c.requires.1 t, omega (arith, c.requires.2, v.low.long, t))

pub loop-k-preserved : goal.loop-k-preserved
loop-k-preserved c =
    let v = c.loop-k.invariant in
    elim c.if-not-divide.branch [
      | then-not-divide w ↦ rw (w.least-is, w.smaller.ensures) (dividing_uneven v c.divide.ensures w.if-not-divide.true)
      | else-not-divide w ↦ rw w.least-is (dividing_exact v c.divide.ensures w.if-not-divide.false)
    ]

pub returns : goal.returns
returns c =
    let e : c.loop-k.k ≡ c.args.keys.count = omega arith in
    rw e at c.loop-k.invariant
