-- Values of products, in a ring with the whole numbers in it. All that is asked of the values of monomials, each scaled
-- for a degree, is that they multiply; so the law is one for the values at a point of a ring, which need no scale, and
-- for those at a rational point, which are scaled by powers of its denominator.
use mathlib.Core.Path.{◌≡◌, refl, sym, ap, ap₂, ◌∙◌}
use mathlib.Core.List.{List, [], ◌∷◌}
use Prim.Native.Nat.{ℕ, zero, suc, ◌+◌ as ◌+ℕ◌, ◌/◌, ◌%◌, ◌≤◌}
use native.Mathlib.Omega.{arith}
use lib.ListN.{length}
use Rattle.ordered_rings.specs.Rings.{Ring, power}
use Rattle.ordered_rings.proofs.Laws.{*-pairs, power-+}
use Rattle.ordered_rings.proofs.Numbers.{Numbers}
use Rattle.polynomial.specs.Monomial.{degree_of, degree}
use Rattle.polynomial.specs.Terms.{Term}
use Rattle.polynomial.specs.Algebra.{◌⊗◌}
use Rattle.polynomial.specs.RingPoint.{powers_in}
use Rattle.polynomial.proofs.Products.{no_carry, keys_map, Degree}
use Rattle.polynomial.proofs.RingSums.{sum_in, ⊗-in, factor_in}

-- m d k is the value of the monomial k, scaled for the degree d
pub record Multiplies {A : Type 0} (R : Ring A) (m : ℕ → ℕ → A) : Type 0 where
  pub product : (d e : ℕ) → d +ℕ e ≤ 255 → (j k : ℕ) → degree j ≤ d → degree k ≤ e
      → m (d +ℕ e) (j +ℕ k) ≡ R.◌*◌ (m d j) (m e k)

-- the value of a product is the product of the values
pub product_in : {A : Type 0} (N : Numbers A) (m : ℕ → ℕ → A) → Multiplies N.ring m → (d e : ℕ) → d +ℕ e ≤ 255
    → (P Q : List Term) → Degree d P → Degree e Q
    → sum_in N (m (d +ℕ e)) (P ⊗ Q) ≡ N.ring.◌*◌ (sum_in N (m d) P) (sum_in N (m e) Q)
product_in N m M d e b P Q v w =
    ⊗-in N (m (d +ℕ e)) P Q
    ∙ factor_in N _ (m d) (sum_in N (m e) Q) P (keys_map _ _ (λ j h. factor_in N _ (m e) (m d j) Q
    (keys_map _ _ (λ k l. M.product d e b j k h l) Q w) ∙ N.ring.*-comm _ _) P v) ∙ N.ring.*-comm _ _

-- ---- at a point of a ring
module _ {A : Type 0} (R : Ring A) where
  open R use {𝟙, ◌*◌, *-one}

  -- adding keys multiplies powers
  pub powers_add_in : (n : ℕ) (xs : List A) (j k : ℕ) → length xs ≤ n → degree_of n j +ℕ degree_of n k ≤ 255
      → powers_in R xs (j +ℕ k) ≡ powers_in R xs j * powers_in R xs k
  unfolding degree_of
  powers_add_in n [] j k l h = sym (*-one 𝟙)
  powers_add_in zero (a ∷ xs) j k l h = absurd (omega arith)
  powers_add_in (suc n) (a ∷ xs) j k l h =
      let c = no_carry j k (omega arith) in
      ap₂ (λ e r. power R a e * powers_in R xs r) c.0 c.1
      ∙ ap₂ ◌*◌ (power-+ R a (j % 256) (k % 256)) (powers_add_in n xs (j / 256) (k / 256) (omega arith) (omega arith))
      ∙ *-pairs R _ _ _ _

  -- every power with exponent 0 is 1
  pub powers_none_in : (xs : List A) → powers_in R xs 0 ≡ 𝟙
  unfolding power
  powers_none_in [] = refl
  powers_none_in (a ∷ xs) = ap (λ x. 𝟙 * x) (powers_none_in xs) ∙ *-one 𝟙

  -- at most 8 coordinates, and no scale
  pub multiplies_in : (xs : List A) → length xs ≤ 8 → Multiplies R (λ d. powers_in R xs)
  unfolding degree
  multiplies_in xs l = record { product = λ d e b j k h g. powers_add_in 8 xs j k l (omega arith) }
