-- `add_at`: the product and the sum fit.
use Rattle.std.proofs.Common.{◌∙◌, ℕ, ◌*◌, ◌^◌, ◌≤◌, List, get_or, ℤ, pos, nat_abs, ◌+ℤ◌, ◌*ℤ◌, w64, arith}
use mir.Facts.{to_z-of_z, sfits_widen}
use mir.Val.{SFits}
use Rattle.integers.proofs.Ranges.{abs_fits, abs_sum, abs_mul_le}
use Rattle.row_outer.specs.Frame.{Below}
use Rattle.row_outer.specs.Outer.{weight_most, digit_most}
use Rattle.row_outer.proofs.Outers.{raised_set}
use Rattle.row_outer.proofs.add_at.Goals as goal

module _ (g : List ℤ) (x : ℕ) (a f : ℤ) (below : Below (2 ^ 61) g) (a_small : nat_abs a ≤ 2 * (weight_most * digit_most)) (f_small : nat_abs f ≤ digit_most) where
  there : SFits w64 (get_or g x (pos 0))
  there = abs_fits (omega (arith, below x))

  product : SFits w64 (a *ℤ f)
  product = abs_fits (omega (arith, abs_mul_le a f _ digit_most a_small f_small))

  sum : SFits w64 (get_or g x (pos 0) +ℤ a *ℤ f)
  sum = abs_fits (omega (arith, below x, abs_mul_le a f _ digit_most a_small f_small, abs_sum (get_or g x (pos 0)) (a *ℤ f)))

pub overflow_add-g : goal.overflow_add-g
overflow_add-g c =
    let p = c.requires in
    let e = c.from.ensures ∙ to_z-of_z c.ranges.factor in
    let s = sum c.args.g.now c.args.x c.args.a c.args.factor p.1 p.2 p.3 in
    let t = there c.args.g.now c.args.x c.args.a c.args.factor p.1 p.2 p.3 in
    let w : SFits w64 c.args.factor = sfits_widen tt c.ranges.factor in
    let y = product c.args.g.now c.args.x c.args.a c.args.factor p.1 p.2 p.3 in
    rw e (simp (to_z-of_z, c.ranges.a, w, t, y) s)

pub returns : goal.returns
returns c =
    let p = c.requires in
    let e = c.from.ensures ∙ to_z-of_z c.ranges.factor in
    let s = sum c.args.g.now c.args.x c.args.a c.args.factor p.1 p.2 p.3 in
    let t = there c.args.g.now c.args.x c.args.a c.args.factor p.1 p.2 p.3 in
    let w : SFits w64 c.args.factor = sfits_widen tt c.ranges.factor in
    let y = product c.args.g.now c.args.x c.args.a c.args.factor p.1 p.2 p.3 in
    rw e (simp (to_z-of_z, c.ranges.a, w, t, y, s) (raised_set _ _ _ p.0))
