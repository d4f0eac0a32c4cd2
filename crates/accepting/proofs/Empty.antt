-- Two bounds that cross leave no point: a gap below 0 is the distance of no two points, not even of a point from itself.
use mathlib.Core.Path.{◌≡◌}
use Prim.Native.Nat.{ℕ, ◌*◌, ◌^◌, ◌≤◌}
use native.Mathlib.Nat.{one-le-pow, mul-le-mul_left}
use native.Mathlib.Omega.{arith}
use lib.IntN.{ℤ, pos, negsuc, ◌*ℤ◌, ◌-ℤ◌}
use lib.Signed.{◌≤ℤ◌}
use Rattle.integers.proofs.Ring.{view, diffs, ⊖-le⁻¹}
use Rattle.polynomial.specs.Point.{Point}
use Rattle.format.specs.ProblemRules.{Problem}
use Rattle.accepting.specs.Bounds.{Allowed, objective_value, objective_scale, WithinGap}

-- v/c − v/c is 0, and so at most no number below 0
none_below : (v : ℤ) (c y n : ℕ) → 1 ≤ c → ((v *ℤ pos c -ℤ v *ℤ pos c) *ℤ pos y) ≤ℤ (negsuc n *ℤ pos (c * c)) → ⊥
none_below v c y n one h =
    let k = ⊖-le⁻¹ _ _ _ _ (simp diffs at (rw (view v).eq at h)) in
    let s : 1 ≤ c * c = omega (arith, mul-le-mul_left c one) in
    omega (arith, mul-le-mul_left (c * c) one)

-- where the gap's numerator is below 0, no point is allowed
pub below_zero_empty : (p : Problem) (n y : ℕ) → WithinGap p (negsuc n) y → (a : Point) → Allowed p a → ⊥
unfolding WithinGap
below_zero_empty p n y h a g =
    none_below (objective_value p a) (objective_scale a) y n (one-le-pow 32 a.denominator g.denominator) (h a a g g)
