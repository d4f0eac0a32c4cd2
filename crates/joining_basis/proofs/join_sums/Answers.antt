-- `join_sums`: one more sum.
use borrow.Author.Rules.{rules}
use Rattle.std.proofs.Common.{◌+◌, length, refl, inl, inr, arith, take_all}
use Rattle.round_laws.specs.Joins.{WithSum}
use Rattle.round_laws.proofs.Fresh.{some_start, some_turn, some_before}
use Rattle.joining_blocks.proofs.Grew.{grew_full}
use Rattle.joining_basis.proofs.Going.{going_start, going_ready, going_then, going_over}
use Rattle.joining_basis.proofs.join_sums.Goals as goal

pub loop-s-init : goal.loop-s-init
loop-s-init c = (going_start _ _ _ _ c.requires.0 (some_start _ _ c.args.sums.now _), search rules)

pub join_sum-requires : goal.join_sum-requires
join_sum-requires c = (going_ready _ _ _ _ _ c.loop-s.invariant.0, c.requires.1)

pub returns-in_err-r-clause-grew : goal.returns-in_err-r-clause-grew
returns-in_err-r-clause-grew c =
    let by = WithSum c.args.basis.keys.now in
    let n = length c.args.basis.keys.now in
    let i = c.loop-s.s-index in
    let over = going_over _ _ _ _ _ c.loop-s.invariant.0 _ _ _ _ c.requires.0 c.in_err-r.ensures.grew
    (some_turn by n c.args.sums.now i c.loop-s-test.true) (some_before by n c.args.sums.now (i + 1)) (inr (omega arith)) in
    (grew_full _ _ _ _ _ _ _ _ _ _ over refl _ c.from_residual.ensures.0).0

pub returns-then-r-eq1-clause-grew : goal.returns-then-r-eq1-clause-grew
returns-then-r-eq1-clause-grew c =
    let by = WithSum c.args.basis.keys.now in
    let n = length c.args.basis.keys.now in
    let i = c.loop-s.s-index in
    going_over _ _ _ _ _ c.loop-s.invariant.0 _ _ _ _ c.requires.0 c.in_ok-r.ensures.grew
    (some_turn by n c.args.sums.now i c.loop-s-test.true) (some_before by n c.args.sums.now (i + 1)) (inl c.if-r-eq1.true)

pub loop-s-preserved : goal.loop-s-preserved
loop-s-preserved c =
    let turn = some_turn (WithSum c.args.basis.keys.now) (length c.args.basis.keys.now) c.args.sums.now c.loop-s.s-index c.loop-s-test.true in
    (going_then _ _ _ _ _ c.loop-s.invariant.0 _ _ _ c.requires.0 c.in_ok-r.ensures.grew c.in_ok-r.ensures.room turn, search rules)

pub returns-clause-grew : goal.returns-clause-grew
returns-clause-grew c =
    rw (take_all c.loop-s.s-index c.args.sums.now c.loop-s-test.false) at c.loop-s.invariant.0.grew
