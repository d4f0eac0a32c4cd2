-- `join_chain`: the links of the pairs with the sum's remainder lead from the last to the first.
use borrow.Author.Rules.{rules}
use Rattle.std.proofs.Common.{sym, ◌∙◌, refl, arith}
use Rattle.joining_pairs.proofs.Places.{pair_order}
use Rattle.joining_blocks.proofs.Grew.{grew_full}
use Rattle.joining_basis.proofs.Going.{going_ready}
use Rattle.joining_basis.proofs.Walking.{walking_start, walking_order, walking_less, walking_hit, walking_miss, walking_over, walking_end, sum_as}
use Rattle.joining_basis.proofs.join_chain.Goals as goal
use Rattle.joining_basis.proofs.join_chain.Goals.{then-sum_at-s+in_ok-r, else-sum_at-s}

pub sum_at-s-requires : goal.sum_at-s-requires
sum_at-s-requires c =
    let o = pair_order _ _ c.requires.2.pair in
    (c.requires.0.basis.basis.basis, omega (arith, o.0, o.1), o.1)

pub overflow_add-v : goal.overflow_add-v
overflow_add-v c = let o = pair_order _ _ c.requires.2.pair in omega (arith, o.0, o.1, c.requires.0.blocks.few)

pub loop-v-init : goal.loop-v-init
loop-v-init c = (rw c.sum_at-s.ensures (walking_start _ _ _ _ c.requires.0 c.requires.1 _ c.requires.2), search rules)

pub sum_at-requires : goal.sum_at-requires
sum_at-requires c =
    let o = walking_order _ _ _ _ c.requires.0 c.requires.1 _ c.loop-v.v c.loop-v.invariant.0 c.loop-v-test.true in
    (c.requires.0.basis.basis.basis, omega (arith, o.0, o.1), o.1)

pub join_two-requires : goal.join_two-requires
join_two-requires c =
    let o = walking_order _ _ _ _ c.requires.0 c.requires.1 _ c.loop-v.v c.loop-v.invariant.0 c.loop-v-test.true in
    (going_ready _ _ _ _ _ c.loop-v.invariant.0.going, omega (arith, o.0, o.1), o.1)

pub returns-in_err-r-clause-grew : goal.returns-in_err-r-clause-grew
returns-in_err-r-clause-grew c =
    let over = walking_over _ _ _ _ c.requires.0 c.requires.1 _ c.loop-v.v c.loop-v.invariant.0 c.loop-v-test.true
    (sym c.sum_at.ensures ∙ c.if-sum_at-s.true) _ c.in_err-r.ensures.grew (omega arith) in
    (grew_full _ _ _ _ _ _ _ _ _ _ (sum_as _ _ _ _ _ _ c.sum_at-s.ensures over) refl _ c.from_residual.ensures.0).0

pub loop-v-smaller : goal.loop-v-smaller
loop-v-smaller c =
    let v = c.loop-v.v in
    let i = c.loop-v.invariant.0 in
    let b = c.loop-v-test.true in
    elim c.if-sum_at-s.branch [
      | then-sum_at-s+in_ok-r w ↦ rw w.tables-is
          (walking_less _ _ _ _ c.requires.0 c.requires.1 _ v i b _ ((w.in_ok-r.ensures.grew.fits w.in_ok-r.ensures.room).ready.index.all c.requires.1))
      | else-sum_at-s w ↦ rw w.tables-is
          (walking_less _ _ _ _ c.requires.0 c.requires.1 _ v i b _ ((going_ready _ _ _ _ _ i.going).index.all c.requires.1))
    ]

pub loop-v-preserved : goal.loop-v-preserved
loop-v-preserved c =
    let v = c.loop-v.v in
    let i = c.loop-v.invariant.0 in
    let b = c.loop-v-test.true in
    elim c.if-sum_at-s.branch [
      | then-sum_at-s+in_ok-r w ↦ rw (w.tables-is, w.r-is)
          (walking_hit _ _ _ _ c.requires.0 c.requires.1 _ v i b (sym c.sum_at.ensures ∙ w.if-sum_at-s.true) _ w.in_ok-r.ensures.grew w.in_ok-r.ensures.room, search rules)
      | else-sum_at-s w ↦ rw (w.tables-is, w.r-is)
          (walking_miss _ _ _ _ c.requires.0 c.requires.1 _ v i b (λ q. w.if-sum_at-s.false (c.sum_at.ensures ∙ q)), c.loop-v.invariant.1)
    ]

pub returns-clause-grew : goal.returns-clause-grew
returns-clause-grew c =
    sum_as _ _ _ _ _ _ c.sum_at-s.ensures (walking_end _ _ _ _ c.requires.0 c.requires.1 _ c.loop-v.v c.loop-v-test.false c.loop-v.invariant.0)
