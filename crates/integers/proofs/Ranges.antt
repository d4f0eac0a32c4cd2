-- How large an integer is, by its absolute value; when it fits a signed width; and floor division. Each law is over the width or the
-- divisor, so that code at any width, and split at any power of two, cites the same one.
use mathlib.Core.Path.{◌≡◌, refl, sym, ap, ◌∙◌}
use mathlib.Core.Bool.{Bool, true, false, cond}
use Prim.Native.Nat.{ℕ, zero, suc, ◌+◌, ◌*◌, ◌-◌, ◌/◌, ◌%◌, ◌^◌, ◌<◌, ◌≤◌}
use native.Mathlib.Nat.{div-add-mod', mod-lt, mul-le-mul, mul-le-mul_right, div-lt_iff_lt-mul}
use native.Mathlib.Omega.{arith}
use lib.Dec.{ltb}
use lib.IntN.{ℤ, pos, negsuc, neg_ℤ, nat_abs, ◌+ℤ◌, ◌-ℤ◌, ◌*ℤ◌, +ℤ_comm, +ℤ-neg_ℤ_cancel}
use lib.Pow.{pow_pos}
use lib.Signed.{mag, shr_z, nat_abs-le}
use mir.Syntax.{Width}
use mir.Val.{SFits, hbits, of_z, to_z}
use mir.Facts.{to_z-of_z}
use mir.ValLaws.{to_z_pos}
use Rattle.integers.proofs.Ring.{⊖-eq, diffs}

-- ---- the absolute value
pub abs_neg : (a : ℤ) → nat_abs (neg_ℤ a) ≡ nat_abs a
abs_neg (pos zero) = refl
abs_neg (pos (suc n)) = refl
abs_neg (negsuc n) = refl

-- a sum of two signs, whichever of the two is the larger
abs_mixed : (t : Bool) (a b : ℕ) → nat_abs (cond t (negsuc (suc b - suc a)) (pos (a - suc b))) ≤ a + suc b
abs_mixed true a b = omega arith
abs_mixed false a b = omega arith

pub abs_sum : (a b : ℤ) → nat_abs (a +ℤ b) ≤ nat_abs a + nat_abs b
abs_sum (pos a) (pos b) = omega arith
abs_sum (pos a) (negsuc b) = abs_mixed (ltb a (suc b)) a b
abs_sum (negsuc a) (pos b) = omega (arith, abs_mixed (ltb b (suc a)) b a)
abs_sum (negsuc a) (negsuc b) = omega arith

pub abs_mul : (a b : ℤ) → nat_abs (a *ℤ b) ≡ nat_abs a * nat_abs b
abs_mul (pos a) (pos b) = refl
abs_mul (pos a) (negsuc b) = abs_neg (pos (a * suc b))
abs_mul (negsuc a) (pos b) = abs_neg (pos (suc a * b))
abs_mul (negsuc a) (negsuc b) = refl

pub abs_mul_le : (a b : ℤ) (m n : ℕ) → nat_abs a ≤ m → nat_abs b ≤ n → nat_abs (a *ℤ b) ≤ m * n
abs_mul_le a b m n h k = rw abs_mul (mul-le-mul h k)

pub abs_zero : (z : ℤ) → nat_abs z ≡ 0 → z ≡ pos 0
abs_zero (pos n) h = ap pos h
abs_zero (negsuc n) h = absurd (omega arith)

-- ---- signed widths
mag_abs : (z : ℤ) → mag z ≤ nat_abs z
mag_abs (pos n) = omega arith
mag_abs (negsuc n) = omega arith

pub abs_fits : {w : Width} {z : ℤ} → nat_abs z < 2 ^ hbits w → SFits w z
abs_fits {w} {z} h = record { sfits = omega (arith, mag_abs z) }

pub fits_abs : {w : Width} {z : ℤ} → SFits w z → nat_abs z ≤ 2 ^ hbits w
fits_abs {w} {z} f = nat_abs-le z f.sfits

-- below zero a signed width reaches one further
neg_fits : {w : Width} (n : ℕ) → n ≤ 2 ^ hbits w → SFits w (neg_ℤ (pos n))
neg_fits {w} zero h = record { sfits = pow_pos (hbits w) }
neg_fits (suc n) h = record { sfits = h }

-- the number whose bits are all 0
pub zero_bits : {w : Width} {z : ℤ} → SFits w z → of_z w z ≡ 0 → z ≡ pos 0
zero_bits {w} {z} f e = sym (to_z-of_z f) ∙ ap (to_z w) e ∙ to_z_pos w 0 (pow_pos (hbits w))

-- ---- floor division: `shr_z z m` is z / m rounded down, and `mod_z z m` what it leaves
abbrev pub mod_z : ℤ → ℕ → ℕ
mod_z (pos a) m = a % m
mod_z (negsuc a) m = m - suc (a % m)

take_away : (x y z : ℤ) → x +ℤ y ≡ z → z -ℤ x ≡ y
take_away x y z e = ap (λ (v : ℤ). v -ℤ x) (sym e ∙ +ℤ_comm x y) ∙ +ℤ-neg_ℤ_cancel y x

-- the high part of a number that is cut at m is no larger than the number is, over m
pub high_abs : (z hi : ℤ) (lo m : ℕ) → hi *ℤ pos m +ℤ pos lo ≡ z → nat_abs hi * m ≤ nat_abs z + lo
high_abs z hi lo m e =
    let d : nat_abs (z -ℤ pos lo) ≡ nat_abs (hi *ℤ pos m) = ap nat_abs (take_away (pos lo) (hi *ℤ pos m) z (+ℤ_comm (pos lo) (hi *ℤ pos m) ∙ e)) in
    omega (arith, abs_mul hi (pos m), abs_sum z (neg_ℤ (pos lo)), abs_neg (pos lo))

module _ (z : ℤ) (m : ℕ) (h : 0 < m) where
  pub floor_lt : mod_z z m < m
  floor_lt = go z
    where
      go : (z : ℤ) → mod_z z m < m
      go (pos a) = mod-lt a h
      go (negsuc a) = omega arith

  pub floor_is : shr_z z m *ℤ pos m +ℤ pos (mod_z z m) ≡ z
  floor_is = go z
    where
      go : (z : ℤ) → shr_z z m *ℤ pos m +ℤ pos (mod_z z m) ≡ z
      go (pos a) = ap pos (div-add-mod' a m)
      go (negsuc a) = simp diffs (⊖-eq _ _ _ _ (omega (arith, div-add-mod' a m, mod-lt a h)))

  pub floor_rest : z -ℤ shr_z z m *ℤ pos m ≡ pos (mod_z z m)
  floor_rest = take_away (shr_z z m *ℤ pos m) (pos (mod_z z m)) z floor_is

-- the multiple of m at or below a number of the width fits the width, where m divides the width's half
pub floor_fits : {w : Width} (z : ℤ) (m k : ℕ) → 0 < m → k * m ≡ 2 ^ hbits w → SFits w z → SFits w (shr_z z m *ℤ pos m)
floor_fits {w} (pos a) m k h e f = abs_fits (omega (arith, f.sfits, div-add-mod' a m))
floor_fits {w} (negsuc a) m k h e f =
    let q : a / m < k = (div-lt_iff_lt-mul h).1 (omega (arith, f.sfits)) in
    neg_fits (suc (a / m) * m) (omega (arith, mul-le-mul_right m q))
