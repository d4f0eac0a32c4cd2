-- Rational points, and the value of a polynomial at one, scaled to a whole number.
use Rattle.std.specs.Prelude.{List, [], ◌∷◌, ℕ, ◌-◌, ◌/◌, ◌%◌, ◌^◌, ℤ, pos, ◌*ℤ◌}
use Rattle.std.proofs.Math.IntN.{pow}
use Rattle.polynomial.specs.Monomial.{degree}
use Rattle.polynomial.specs.Terms.{Term}
use Rattle.polynomial.specs.Algebra.{sum}

-- "A rational point is whole numbers a_1..a_n over one c ≥ 1"
pub record Point : Type 0 where
  pub numerators : List ℤ
  pub denominator : ℕ

-- the product of a_i ^ e_i, where k is the key of the exponents e_i. "0^0 is 1": pow a 0 is 1 for every a
abbrev pub powers : List ℤ → ℕ → ℤ
powers [] k = pos 1
powers (a ∷ rest) k = pow a (k % 256) *ℤ powers rest (k / 256)

-- the monomial's value, the product of (a_i / c) ^ e_i, scaled by c ^ d, where its degree is at most d
unfoldable pub monomial_value : Point → ℕ → ℕ → ℤ
monomial_value a d k = powers a.numerators k *ℤ pos (a.denominator ^ (d - degree k))

-- "the sum over its terms of coefficient × the product ..", scaled by c ^ d
unfoldable pub value : Point → ℕ → List Term → ℤ
value a d P = sum (monomial_value a d) P
