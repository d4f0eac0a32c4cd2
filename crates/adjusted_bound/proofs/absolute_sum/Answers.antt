-- `absolute_sum`: the change at hand, and what the sum is after the last.
use Rattle.std.proofs.Common.{◌≡◌, ap, ◌∙◌, arith, rules, to_z, of_z, w32}
use lib.IntN.{nat_abs}
use Rattle.format.specs.Operands.{signed}
use Rattle.calls.specs.Adjusted.{change_at}
use Rattle.adjusted_bound.proofs.Scanned.{summed_more, summed_all}
use Rattle.adjusted_bound.proofs.absolute_sum.Goals as goal

pub loop-i-preserved : goal.loop-i-preserved
unfolding change_at
loop-i-preserved c =
    let s = c.args.changes.now in
    let change : c.signed32-d.result ≡ (change_at s c.loop-i.i).coefficient = c.signed32-d.ensures ∙ ap (signed 31) c.number_at.ensures.0 in
    let d = c.signed32-d.result in
    let kept : to_z w32 (of_z w32 d) ≡ d = search rules in
    let size = rw kept at c.unsigned_abs-size.ensures.value in
    summed_more s c.loop-i.i c.loop-i.sum c.unsigned_abs-size.result (omega (arith, c.loop-i-test.true)) c.loop-i.invariant
    (size ∙ ap nat_abs change) c.unsigned_abs-size.ensures.bound

pub returns : goal.returns
returns c =
    let s = c.args.changes.now in (
      summed_all s c.loop-i.i c.loop-i.sum (omega (arith, c.loop-i-test.false)) c.loop-i.invariant,
      omega (arith, c.loop-i.invariant.small, c.loop-i.auto.i-end, c.requires),
    )
