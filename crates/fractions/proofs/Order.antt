-- The order of two fractions a/c and b/d by the signs of their numerators.
use native.Mathlib.Omega.{arith}
use native.Mathlib.Nat.{mul-zero, mul-one, zero-mul}
use mathlib.Core.Path.{◌≡◌, refl, sym, ap, ◌∙◌}
use mathlib.Core.Bool.{true, false}
use Prim.Native.Nat.{ℕ, zero, suc, ◌*◌, ◌≤◌, ◌<◌}
use lib.Dec.{ltb, leb-suc-suc}
use lib.IntN.{ℤ, pos, negsuc, neg_ℤ, nat_abs, ◌*ℤ◌}
use lib.Signed.{lt_z}
use borrow.Author.Tests.{ltb-true, lt-ltb, le-ltb}
use Rattle.counting.proofs.Cases.{clash}

-- opposites turn the order
turned : (x y : ℕ) → ltb y x ≡ lt_z (neg_ℤ (pos x)) (neg_ℤ (pos y))
turned zero zero = refl
turned zero (suc y) = le-ltb (suc y) 0 (omega arith)
turned (suc x) zero = lt-ltb 0 (suc x) (omega arith)
turned (suc x) (suc y) = leb-suc-suc (suc y) x

-- the opposite of a number is below 0, or is 0
opposite : (x y : ℕ) → 0 < x → true ≡ lt_z (neg_ℤ (pos x)) (pos y)
opposite zero y h = absurd (omega arith)
opposite (suc x) y h = refl

not_opposite : (x y : ℕ) → false ≡ lt_z (pos x) (neg_ℤ (pos y))
not_opposite x zero = sym (le-ltb x 0 (omega arith))
not_opposite x (suc y) = refl

positive : (k d : ℕ) → 0 < d → 0 < suc k * d
positive k d h = omega arith

module _ (c d : ℕ) where
  pub both_below : (a b : ℤ) → lt_z a (pos 0) ≡ true → lt_z b (pos 0) ≡ true
      → ltb (nat_abs b * c) (nat_abs a * d) ≡ lt_z (a *ℤ pos d) (b *ℤ pos c)
  both_below (pos x) b s t = absurd (omega (arith, ltb-true x 0 s))
  both_below (negsuc x) (pos y) s t = absurd (omega (arith, ltb-true y 0 t))
  both_below (negsuc x) (negsuc y) s t = turned (suc x * d) (suc y * c)

  pub across : (a b : ℤ) → lt_z a (pos 0) ≡ true → lt_z b (pos 0) ≡ false → 0 < d
      → true ≡ lt_z (a *ℤ pos d) (b *ℤ pos c)
  across (pos x) b s t h = absurd (omega (arith, ltb-true x 0 s))
  across (negsuc x) (negsuc y) s t h = clash (cc)
  across (negsuc x) (pos y) s t h = opposite (suc x * d) (y * c) (positive x d h)

  pub from_zero : (a b : ℤ) → lt_z a (pos 0) ≡ true → lt_z b (pos 0) ≡ false → d ≤ 0
      → ltb 0 (nat_abs b * c) ≡ lt_z (a *ℤ pos d) (b *ℤ pos c)
  from_zero (pos x) b s t h = absurd (omega (arith, ltb-true x 0 s))
  from_zero (negsuc x) (negsuc y) s t h = clash (cc)
  from_zero (negsuc x) (pos y) s t h =
      let e : suc x * d ≡ 0 = ap (λ (n : ℕ). suc x * n) (let z : d ≡ 0 = omega arith in z) ∙ mul-zero (suc x) in
      rw e refl

  pub not_across : (a b : ℤ) → lt_z a (pos 0) ≡ false → lt_z b (pos 0) ≡ true
      → false ≡ lt_z (a *ℤ pos d) (b *ℤ pos c)
  not_across (negsuc x) b s t = clash (cc)
  not_across (pos x) (pos y) s t = absurd (omega (arith, ltb-true y 0 t))
  not_across (pos x) (negsuc y) s t = not_opposite (x * d) (suc y * c)

  pub neither_below : (a b : ℤ) → lt_z a (pos 0) ≡ false → lt_z b (pos 0) ≡ false
      → ltb (nat_abs a * d) (nat_abs b * c) ≡ lt_z (a *ℤ pos d) (b *ℤ pos c)
  neither_below (negsuc x) b s t = clash (cc)
  neither_below (pos x) (negsuc y) s t = clash (cc)
  neither_below (pos x) (pos y) s t = refl

-- a/c is below 0/1 where a is below 0
pub below_zero : (c : ℕ) (a : ℤ) → lt_z (a *ℤ pos 1) (pos 0 *ℤ pos c) ≡ lt_z a (pos 0)
below_zero c (pos x) = rw (mul-one x, zero-mul c) refl
below_zero c (negsuc x) = rw (mul-one (suc x)) refl
