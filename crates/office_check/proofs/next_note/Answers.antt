-- `next_note`: each return by the step at hand.
use Rattle.std.proofs.Common.{arith}
use borrow.Author.Tests.{eq-eqb, ne_eqb}
use Rattle.office_check.proofs.Walks.{reached_end, reached_note, step_some, step_inside, walked_on}
use Rattle.office_check.proofs.next_note.Goals as goal

pub bounds-s-at : goal.bounds-s-at
bounds-s-at c =
    let e = c.in-Some.ensures in
    let i = step_inside c.args.s.now c.loop-n.at _ e.0 e.1 in
    omega (arith, i, e.1)

pub returns-then-s-at-eq64-clause-by_index : goal.returns-then-s-at-eq64-clause-by_index
returns-then-s-at-eq64-clause-by_index c m last w =
    let e = c.in-Some.ensures in
    reached_note c.args.s.now c.loop-n.at m last (c.loop-n.invariant.1 m last w) (step_some c.args.s.now c.loop-n.at _ e.0 e.1)
    (eq-eqb _ 0x40 c.if-s-at-eq64.true)

pub overflow_add-at : goal.overflow_add-at
overflow_add-at c =
    let e = c.in-Some.ensures in
    record { fits = omega (arith, step_inside c.args.s.now c.loop-n.at _ e.0 e.1, c.well_formed.0.0) }

pub loop-n-smaller : goal.loop-n-smaller
loop-n-smaller c =
    let e = c.in-Some.ensures in
    omega (arith, step_inside c.args.s.now c.loop-n.at _ e.0 e.1, e.1)

pub loop-n-preserved : goal.loop-n-preserved
loop-n-preserved c =
    let e = c.in-Some.ensures in
    let k = c.loop-n.invariant in
    let i = step_inside c.args.s.now c.loop-n.at _ e.0 e.1 in (
      (omega (arith, k.0.0), i),
      λ m last w. walked_on c.args.s.now c.loop-n.at _ e.0 e.1 m last (ne_eqb _ 0x40 c.if-s-at-eq64.false) (k.1 m last w),
    )

pub returns-clause-by_index : goal.returns-clause-by_index
returns-clause-by_index c m last w =
    reached_end c.args.s.now c.loop-n.at m last (c.loop-n.invariant.1 m last w) c.in_default.ensures
