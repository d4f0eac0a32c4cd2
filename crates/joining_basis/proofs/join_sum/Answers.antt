-- `join_sum`: a sum whose pairs are told to be in one block needs no joining.
use Rattle.std.proofs.Common.{ℕ, ◌≤◌, get_or, sym, refl, subst, arith}
use Rattle.joining_pairs.proofs.Places.{pair_order}
use Rattle.joining_pairs.proofs.Told.{told_low}
use Rattle.joining_blocks.proofs.Grew.{grew_same, grew_full}
use Rattle.joining_basis.proofs.Known.{met_grew}
use Rattle.joining_basis.proofs.Walking.{sum_none, sum_as, last_as}
use Rattle.joining_basis.proofs.join_sum.Goals as goal

pub find_sum-requires : goal.find_sum-requires
find_sum-requires c = (c.requires.0.basis.basis.basis, c.requires.0.index.all c.requires.1, c.remainder.ensures)

pub returns-in_default-clause-grew : goal.returns-in_default-clause-grew
returns-in_default-clause-grew c = sum_none _ _ _ _ c.requires.0 c.in_default.ensures

pub told_at-at-requires : goal.told_at-at-requires
told_at-at-requires c = let o = pair_order _ _ c.in-Some.ensures.pair in omega (arith, o.0, o.1, c.requires.0.blocks.few)

pub bounds-pairs-at : goal.bounds-pairs-at
bounds-pairs-at c =
    omega (arith, told_low _ c.requires.0.blocks.few _ c.in-Some.ensures.pair, (c.requires.0.index.all c.requires.1).remainders.long)

pub returns-then-pairs-at-gt1-clause-grew : goal.returns-then-pairs-at-gt1-clause-grew
returns-then-pairs-at-gt1-clause-grew c =
    let f = c.in-Some.ensures in
    sum_as _ _ _ _ _ _ f.sum
    (grew_same _ _ _ _ c.requires.0
    ((c.requires.0.met c.requires.1).at _ f.pair (subst (λ (z : ℕ). 2 ≤ get_or c.args.tables.now.pairs.now z 0) c.told_at-at.ensures c.if-pairs-at-gt1.true)))

pub join_chain-requires : goal.join_chain-requires
join_chain-requires c =
    let f = c.in-Some.ensures in
    (c.requires.0, c.requires.1, last_as _ _ _ _ (sym f.sum) f)

pub returns-in_err-r-clause-grew : goal.returns-in_err-r-clause-grew
returns-in_err-r-clause-grew c =
    (grew_full _ _ _ _ _ _ _ _ _ _ (sum_as _ _ _ _ _ _ c.in-Some.ensures.sum c.in_err-r.ensures.grew) refl _ c.from_residual.ensures.0).0

pub bounds-tables-at : goal.bounds-tables-at
bounds-tables-at c =
    let after = (c.in_ok-r.ensures.grew.fits c.in_ok-r.ensures.room).ready in
    omega (arith, told_low _ c.requires.0.blocks.few _ c.in-Some.ensures.pair, (after.index.all c.requires.1).remainders.long)

pub returns-clause-grew : goal.returns-clause-grew
returns-clause-grew c =
    let f = c.in-Some.ensures in
    let j = c.in_ok-r.ensures in
    met_grew _ _ _ _ c.requires.1 f.pair f.sum _ _ (sum_as _ _ _ _ _ _ f.sum j.grew) _ c.told_at-at.ensures
