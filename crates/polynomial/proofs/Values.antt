-- The scaled value at a rational point keeps sums and multiples; and the values of monomials there multiply, within the
-- degrees, so that it keeps products too (RingValues.antt, in the ring of the integers).
use mathlib.Core.Path.{◌≡◌, refl, sym, ap₂, ◌∙◌}
use mathlib.Core.List.{List, [], ◌∷◌, ◌++◌}
use Prim.Native.Nat.{ℕ, ◌+◌, ◌-◌, ◌/◌, ◌%◌, ◌^◌, ◌≤◌}
use native.Mathlib.Nat.{sub-zero, one-mul}
use native.Mathlib.Omega.{arith}
use lib.ListN.{length}
use lib.Pow.{pow-add}
use lib.IntN.{ℤ, pos, ◌+ℤ◌, ◌*ℤ◌}
use Rattle.ordered_rings.proofs.Laws.{*-pairs}
use Rattle.ordered_rings.proofs.Integers.{integer_ring, power_is}
use Rattle.polynomial.specs.Monomial.{degree_of, degree}
use Rattle.polynomial.specs.Terms.{Term}
use Rattle.polynomial.specs.Algebra.{coefficient, scale}
use Rattle.polynomial.specs.Point.{Point, powers, monomial_value, value}
use Rattle.polynomial.specs.RingPoint.{powers_in}
use Rattle.polynomial.proofs.Sums.{sum_append, sum_scale, same_sums}
use Rattle.polynomial.proofs.Products.{degree_add}
use Rattle.polynomial.proofs.RingValues.{Multiplies, powers_add_in, powers_none_in}

-- ---- sums and multiples
pub value_append : (a : Point) (d : ℕ) (P Q : List Term) → value a d (P ++ Q) ≡ value a d P +ℤ value a d Q
unfolding value
value_append a d P Q = sum_append (monomial_value a d) P Q

pub value_scale : (a : Point) (d : ℕ) (x : ℤ) (P : List Term) → value a d (scale x P) ≡ x *ℤ value a d P
unfolding value
value_scale a d x P = sum_scale (monomial_value a d) x P

-- "Equality is per monomial": then the values at every point are equal
pub same_values : (a : Point) (d : ℕ) (P Q : List Term) → ((k : ℕ) → coefficient k P ≡ coefficient k Q) → value a d P ≡ value a d Q
unfolding value
same_values a d P Q e = same_sums P Q e (monomial_value a d)

-- ---- powers, as in any ring
pub powers_is : (xs : List ℤ) (k : ℕ) → powers_in integer_ring xs k ≡ powers xs k
powers_is [] k = refl
powers_is (a ∷ xs) k = ap₂ ◌*ℤ◌ (power_is a (k % 256)) (powers_is xs (k / 256))

pub powers_add : (n : ℕ) (xs : List ℤ) (j k : ℕ) → length xs ≤ n → degree_of n j + degree_of n k ≤ 255
    → powers xs (j + k) ≡ powers xs j *ℤ powers xs k
powers_add n xs j k l h =
    sym (powers_is xs (j + k)) ∙ powers_add_in integer_ring n xs j k l h ∙ ap₂ ◌*ℤ◌ (powers_is xs j) (powers_is xs k)

-- ---- the value of 1 is c^d
pub constant_scaled : (a : Point) (d : ℕ) → monomial_value a d 0 ≡ pos (a.denominator ^ d)
unfolding monomial_value degree degree_of
constant_scaled a d =
    rw (sym (powers_is a.numerators 0) ∙ powers_none_in integer_ring a.numerators, sub-zero, one-mul)

-- ---- the value of a product of monomials, each scaled by its own power of c, at a point of at most 8 coordinates
pub multiplies : (a : Point) → length a.numerators ≤ 8 → Multiplies integer_ring (monomial_value a)
unfolding monomial_value
multiplies a coordinates = record {
  product = λ d e b j k hj hk.
      let s : (d + e) - (degree j + degree k) ≡ (d - degree j) + (e - degree k) = omega arith in
      let p : powers a.numerators (j + k) ≡ powers a.numerators j *ℤ powers a.numerators k =
      unfold degree in powers_add 8 a.numerators j k coordinates (omega arith) in
      rw (degree_add j k (omega arith), s, pow-add a.denominator, p, *-pairs integer_ring);
}
