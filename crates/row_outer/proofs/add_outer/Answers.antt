use Rattle.std.proofs.Common.{◌≡◌, ◌∙◌, ◌*◌, ◌^◌, ◌≤◌, get_or, ℤ, pos, nat_abs, ◌*ℤ◌, w32, w64, arith}
use mir.Facts.{to_z-of_z, sfits_widen}
use mir.Val.{SFits}
use Rattle.integers.proofs.Ranges.{abs_fits, abs_mul_le}
use Rattle.row_outer.specs.Outer.{weight_most, digit_most, outer_unit, outer_at}
use Rattle.row_outer.proofs.Outers.{raising_start, raising_more, raising_below, raising_end, outer_bound}
use Rattle.row_outer.proofs.add_outer.Goals as goal

-- a weight times a digit
product_small : (w f : ℤ) → nat_abs w ≤ weight_most → nat_abs f ≤ digit_most → nat_abs (w *ℤ f) ≤ weight_most * digit_most
product_small w f h k = abs_mul_le w f weight_most digit_most h k

product_fits : (w f : ℤ) → nat_abs w ≤ weight_most → nat_abs f ≤ digit_most → SFits w64 (w *ℤ f)
product_fits w f h k = abs_fits (omega (arith, product_small w f h k))

digit_fits : (f : ℤ) → nat_abs f ≤ digit_most → SFits w32 f
digit_fits f h = abs_fits (omega arith)

pub loop-k-init : goal.loop-k-init
loop-k-init c = raising_start

pub add_products-requires : goal.add_products-requires
add_products-requires c =
    let p = c.requires in
    let h = c.loop-k-test.true in
    let turning = simp (to_z-of_z, c.ranges.w) at c.loop-k.invariant in
    let f = get_or c.args.left.now c.loop-k.k (pos 0) in
    let d = p.0.factors_small c.loop-k.k h in
    let e : c.from.result ≡ f = c.from.ensures ∙ to_z-of_z (digit_fits f d) in
    let b = raising_below (2 ^ 59) outer_unit turning p.2 (λ y. outer_bound p.0 p.1 c.args.w p.3 y c.loop-k.k (omega arith)) in
    let v : SFits w64 f = sfits_widen tt (digit_fits f d) in
    let u = product_fits c.args.w f p.3 d in
    (rw turning.raised.long p.1, λ x. omega (arith, b x), h, rw e (simp (to_z-of_z, c.ranges.w, v, u) (product_small c.args.w _ p.3 d)))

pub loop-k-preserved : goal.loop-k-preserved
loop-k-preserved c =
    let p = c.requires in
    let f = get_or c.args.left.now c.loop-k.k (pos 0) in
    let d = p.0.factors_small c.loop-k.k c.loop-k-test.true in
    let turning = simp (to_z-of_z, c.ranges.w) at c.loop-k.invariant in
    let e : c.from.result ≡ f = c.from.ensures ∙ to_z-of_z (digit_fits f d) in
    let v : SFits w64 f = sfits_widen tt (digit_fits f d) in
    let u = product_fits c.args.w f p.3 d in
    let r = simp (to_z-of_z, c.ranges.w, v, u) at (rw e at c.add_products.ensures) in
    simp (to_z-of_z, c.ranges.w) (raising_more turning r)

pub returns : goal.returns
unfolding outer_at
returns c =
    let turning = simp (to_z-of_z, c.ranges.w) at c.loop-k.invariant in
    raising_end turning (omega (arith, c.loop-k-test.false))
