-- `moved`: the product and the difference fit.
use native.Mathlib.Omega.{arith}
use native.Mathlib.Nat.{mul-le-mul}
use mathlib.Core.Path.{◌≡◌, ap}
use Prim.Native.Nat.{ℕ, ◌*◌, ◌^◌, ◌≤◌}
use lib.IntN.{pos, neg_ℤ, ◌-ℤ◌}
use mir.Syntax.{w64}
use mir.Val.{SFits, of_z, to_z}
use mir.Facts.{to_z-of_z, to_z_pos}
use Rattle.integers.proofs.Ranges.{abs_fits, abs_sum, abs_neg}
use Rattle.calls.specs.Fractions.{fraction}
use Rattle.calls.specs.Adjusted.{moved_bound}
use Rattle.adjusted_bound.proofs.moved.Statement.{statement}
use Rattle.adjusted_bound.proofs.moved.Tie as tie

module _ (c : tie.Start) where
  abbrev product : ℕ
  product = c.args.f.den * c.args.sum

  low : product ≤ 65535 * 2 ^ 39
  low = mul-le-mul {n₂ = 65535} {m₂ = 2 ^ 39} (omega arith) (omega arith)

  fits : SFits w64 (c.args.f.num -ℤ pos product)
  fits =
      abs_fits (omega (arith, low, c.requires.0.num, abs_sum c.args.f.num (neg_ℤ (pos product)), abs_neg (pos product)))

  -- both parts of the difference are numbers of 64 bits
  kept : to_z w64 (of_z w64 c.args.f.num) ≡ c.args.f.num
  kept = to_z-of_z {w = w64} (abs_fits (omega (arith, c.requires.0.num)))

  positive : to_z w64 product ≡ pos product
  positive = to_z_pos w64 (omega (arith, low))

mul-t3 : tie.Need-overflow_mul-result
mul-t3 c = omega (arith, low c.before)

cast-t4 : tie.Need-overflow_cast-result
cast-t4 c = abs_fits (omega (arith, low c.before))

sub-t5 : tie.Need-overflow_sub-result
sub-t5 c = let s = c in simp (kept s.before.before.before, positive s.before.before.before) (fits s.before.before.before)

returns : tie.Need-returns
unfolding moved_bound
returns c =
    let s = c in
    λ l e. simp (kept s.before.before.before, positive s.before.before.before, to_z-of_z (fits s.before.before.before)) (ap (λ (n : ℕ). fraction (s.args.f.num -ℤ pos (s.args.f.den * n)) s.args.f.den) e)

pub moved_spec : {M : Type 1} → statement M
moved_spec = tie.close (tie.spec mul-t3 cast-t4 sub-t5 returns)
