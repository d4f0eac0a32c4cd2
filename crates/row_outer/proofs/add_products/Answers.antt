use Rattle.std.proofs.Common.{◌*◌, ◌^◌, ◌≤◌, get_or, ℤ, pos, nat_abs, ◌*ℤ◌, w32, w64, arith}
use mir.Facts.{to_z-of_z}
use mir.Val.{SFits}
use Rattle.integers.proofs.Ranges.{abs_fits, abs_mul_le}
use Rattle.row_outer.specs.Outer.{weight_most, digit_most, outer_unit}
use Rattle.row_outer.proofs.Outers.{raising_from, raising_more, raising_below, before_none, inner_bound, added_once, added_twice}
use Rattle.row_outer.proofs.add_products.Goals as goal

-- twice the factor of a row, and a digit of one
twice_small : (a : ℤ) → nat_abs a ≤ weight_most * digit_most → nat_abs (pos 2 *ℤ a) ≤ 2 * (weight_most * digit_most)
twice_small a h = abs_mul_le (pos 2) a 2 (weight_most * digit_most) (omega arith) h

twice_fits : (a : ℤ) → nat_abs a ≤ weight_most * digit_most → SFits w64 (pos 2 *ℤ a)
twice_fits a h = abs_fits (omega (arith, twice_small a h))

digit_fits : (f : ℤ) → nat_abs f ≤ digit_most → SFits w32 f
digit_fits f h = abs_fits (omega arith)

pub loop-k-init : goal.loop-k-init
loop-k-init c =
    let p = c.requires in
    let f = digit_fits (get_or c.args.factors.now c.args.first (pos 0)) (p.0.factors_small c.args.first p.2) in
    let r = simp (to_z-of_z, c.ranges.a, f) at (rw c.from-i.ensures at c.add_at.ensures) in
    simp (to_z-of_z, c.ranges.a) (raising_more (raising_from (before_none _ _ _ _ p.0 c.args.first p.2)) (added_once c.args.a _ _ r))

pub add_at-requires-in-loop-k : goal.add_at-requires-in-loop-k
add_at-requires-in-loop-k c =
    let p = c.requires in
    let h = c.loop-k-test.true in
    let turning = simp (to_z-of_z, c.ranges.a) at c.loop-k.invariant in
    let b = raising_below (2 ^ 60) outer_unit turning p.1 (λ y. inner_bound _ _ _ _ p.0 c.args.a p.3 y _ c.loop-k.k (omega arith)) in
    let u = twice_fits c.args.a p.3 in
    let d = p.0.factors_small c.loop-k.k h in
    let f = digit_fits (get_or c.args.factors.now c.loop-k.k (pos 0)) d in (
      omega (arith, p.0.inside c.args.first p.2, p.0.inside c.loop-k.k h, turning.raised.long),
      λ x. omega (arith, b x),
      simp (to_z-of_z, c.ranges.a, u) (omega (arith, twice_small c.args.a p.3)),
      simp (to_z-of_z, f) d,
    )

pub loop-k-preserved : goal.loop-k-preserved
loop-k-preserved c =
    let p = c.requires in
    let h = c.loop-k-test.true in
    let turning = simp (to_z-of_z, c.ranges.a) at c.loop-k.invariant in
    let u = twice_fits c.args.a p.3 in
    let f = digit_fits (get_or c.args.factors.now c.loop-k.k (pos 0)) (p.0.factors_small c.loop-k.k h) in
    let r = simp (to_z-of_z, c.ranges.a, u, f) at (rw (c.from-i.ensures, c.from.ensures) at c.add_at-in-loop-k.ensures) in
    simp (to_z-of_z, c.ranges.a) (raising_more turning (added_twice c.args.a _ _ _ (p.0.rising c.args.first c.loop-k.k (omega arith) h) r))
