use Rattle.std.proofs.Common.{arith, ◌≡◌}
use Rattle.identity_check.proofs.Least.{smallest_start, smallest_not, smallest_more}
use Rattle.identity_check.proofs.smallest.Goals as goal
use Rattle.identity_check.proofs.smallest.Goals.{then-not-is_zero, else-not-is_zero}

pub loop-i-init : goal.loop-i-init
loop-i-init c = smallest_start

pub loop-i-preserved : goal.loop-i-preserved
loop-i-preserved c =
    let v = c.loop-i.invariant in
    elim c.if-not-is_zero.branch [
      | then-not-is_zero w ↦ rw (w.least-is, w.smaller.ensures) (smallest_more v (c.is_zero.ensures.no w.if-not-is_zero.true))
      | else-not-is_zero w ↦ rw w.least-is (smallest_not v (λ f. f (c.is_zero.ensures.yes w.if-not-is_zero.false)))
    ]

pub returns : goal.returns
returns c =
    let e : c.loop-i.i ≡ c.args.keys.count = omega arith in
    rw e at c.loop-i.invariant
