-- What a call of `cross` leaves, at the numbers themselves and not at their bits.
use native.Mathlib.Omega.{arith}
use mathlib.Core.Path.{◌≡◌, ap, ◌∙◌}
use Prim.Native.Nat.{ℕ, ◌^◌, ◌≤◌}
use lib.IntN.{ℤ, pos, neg_ℤ, nat_abs, ◌+ℤ◌, ◌-ℤ◌, ◌*ℤ◌}
use mir.Syntax.{w64}
use mir.Val.{SFits, to_z, of_z}
use mir.Facts.{to_z-of_z}
use Rattle.integers.proofs.Ranges.{abs_fits, abs_sum, abs_neg}

-- a numerator n of a bound, a denominator d, and what `cross` ensured of its result r
pub record Crossed (n : ℤ) (d : ℕ) (r : ℤ) : Type 0 where
  pub small : nat_abs n ≤ 2 ^ 31
  pub ensured : (r ≡ to_z w64 (of_z w64 n) *ℤ pos d) × (nat_abs r ≤ 2 ^ 47)

module _ {n : ℤ} {d : ℕ} {r : ℤ} (k : Crossed n d r) where
  numerator : SFits w64 n
  numerator = abs_fits (omega arith)

  result : SFits w64 r
  result = abs_fits (omega arith)

  plain : r ≡ n *ℤ pos d
  plain = k.ensured.0 ∙ ap (λ (z : ℤ). z *ℤ pos d) (to_z-of_z numerator)

  pub product : to_z w64 (of_z w64 r) ≡ n *ℤ pos d
  product = to_z-of_z result ∙ plain

  product_small : nat_abs (n *ℤ pos d) ≤ 2 ^ 47
  product_small = omega (arith, ap nat_abs plain)

pub difference : {n m : ℤ} {d e : ℕ} {r s : ℤ} → Crossed n d r → Crossed m e s → SFits w64 (n *ℤ pos d -ℤ m *ℤ pos e)
difference {n} {m} {d} {e} k l =
    abs_fits
    (omega (arith, abs_sum (n *ℤ pos d) (neg_ℤ (m *ℤ pos e)), abs_neg (m *ℤ pos e), product_small k, product_small l))

pub total : {n m : ℤ} {d e : ℕ} {r s : ℤ} → Crossed n d r → Crossed m e s → SFits w64 (n *ℤ pos d +ℤ m *ℤ pos e)
total {n} {m} {d} {e} k l =
    abs_fits (omega (arith, abs_sum (n *ℤ pos d) (m *ℤ pos e), product_small k, product_small l))
