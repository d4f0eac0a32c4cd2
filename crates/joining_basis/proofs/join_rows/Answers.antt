-- `join_rows`: one more row.
use borrow.Author.Rules.{rules}
use Rattle.std.proofs.Common.{refl, inl, inr, arith}
use Rattle.joining_blocks.proofs.Grew.{grew_full}
use Rattle.joining_basis.proofs.Going.{going_ready}
use Rattle.joining_basis.proofs.InRows.{all_start, all_turn, all_over, all_end}
use Rattle.joining_basis.proofs.join_rows.Goals as goal

pub loop-i-init : goal.loop-i-init
loop-i-init c = (all_start _ _ _ c.requires, search rules)

pub join_row-requires : goal.join_row-requires
join_row-requires c = (going_ready _ _ _ _ _ c.loop-i.invariant.0.going, c.loop-i-test.true)

pub returns-in_err-r-clause-grew : goal.returns-in_err-r-clause-grew
returns-in_err-r-clause-grew c =
    let over = all_over _ _ _ c.requires _ c.loop-i.i c.loop-i.invariant.0 c.loop-i-test.true _ c.in_err-r.ensures.grew (inr (omega arith)) in
    (grew_full _ _ _ _ _ _ _ _ _ _ over refl _ c.from_residual.ensures.0).0

pub returns-then-r-eq1-clause-grew : goal.returns-then-r-eq1-clause-grew
returns-then-r-eq1-clause-grew c =
    all_over _ _ _ c.requires _ c.loop-i.i c.loop-i.invariant.0 c.loop-i-test.true _ c.in_ok-r.ensures.grew (inl c.if-r-eq1.true)

pub loop-i-preserved : goal.loop-i-preserved
loop-i-preserved c =
    (all_turn _ _ _ c.requires _ c.loop-i.i c.loop-i.invariant.0 c.loop-i-test.true _ c.in_ok-r.ensures.grew c.in_ok-r.ensures.room, search rules)

pub returns-clause-grew : goal.returns-clause-grew
returns-clause-grew c =
    all_end _ _ _ c.requires _ c.loop-i.i c.loop-i.invariant.0 c.loop-i-test.false
