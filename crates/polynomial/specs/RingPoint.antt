-- The value of a polynomial at a point whose coordinates are numbers of a ring.
use Rattle.std.specs.Prelude.{List, [], ◌∷◌, ℕ, ◌/◌, ◌%◌}
use Rattle.ordered_rings.specs.Rings.{Ring, whole, power}
use Rattle.polynomial.specs.Terms.{Term}
use Rattle.polynomial.specs.Algebra.{sum_by}

module _ {A : Type 0} (R : Ring A) where
  open R use {𝟘, 𝟙, ◌+◌, ◌*◌}

  -- the product of x_i ^ e_i, where k is the key of the exponents e_i; x ^ 0 is 1 for every x
  abbrev pub powers_in : List A → ℕ → A
  powers_in [] k = 𝟙
  powers_in (x ∷ rest) k = power R x (k % 256) * powers_in rest (k / 256)

  -- the sum over its terms of coefficient × the product, the coefficient as a multiple of 1
  unfoldable pub value_in : List A → List Term → A
  value_in x P = sum_by 𝟘 ◌+◌ (λ c v. whole R c * v) (powers_in x) P
