-- Laws of sums in whole numbers: of coefficients, and of values at rational points. They are those of RingSums.antt in
-- the ring of the integers.
use mathlib.Core.Path.{◌≡◌, refl, subst}
use mathlib.Core.Bool.{Bool, true, false, cond}
use mathlib.Core.List.{List, [], ◌∷◌, ◌++◌}
use Prim.Native.Nat.{ℕ, ◌+◌}
use lib.Dec.{T, eqb, eqb→eq}
use lib.IntN.{ℤ, pos, ◌+ℤ◌, ◌*ℤ◌, *ℤ-zero}
use Rattle.ordered_rings.proofs.Integers.{integer_numbers}
use Rattle.polynomial.specs.Terms.{Term}
use Rattle.polynomial.specs.Algebra.{sum, match, coefficient, scale, ◌⊗◌}
use Rattle.polynomial.proofs.Keys.{Keys}
use Rattle.polynomial.proofs.RingSums.{append_in, scale_in, ⊗-in, same_in}

-- ---- the operations
module _ (m : ℕ → ℤ) where
  pub sum_append : (P Q : List Term) → sum m (P ++ Q) ≡ sum m P +ℤ sum m Q
  sum_append = append_in integer_numbers m

  pub sum_scale : (x : ℤ) (P : List Term) → sum m (scale x P) ≡ x *ℤ sum m P
  sum_scale = scale_in integer_numbers m

  -- a product's sum is a sum over both factors' terms
  pub sum-⊗ : (P Q : List Term) → sum m (P ⊗ Q) ≡ sum (λ j. sum (λ k. m (j + k)) Q) P
  sum-⊗ = ⊗-in integer_numbers m

-- the coefficient of a sum is the sum of the coefficients
pub coefficient_append : (k : ℕ) (P Q : List Term) → coefficient k (P ++ Q) ≡ coefficient k P +ℤ coefficient k Q
unfolding coefficient
coefficient_append k P Q = sum_append (match k) P Q

pub coefficient_scale : (k : ℕ) (x : ℤ) (P : List Term) → coefficient k (scale x P) ≡ x *ℤ coefficient k P
unfolding coefficient
coefficient_scale k x P = sum_scale (match k) x P

-- a monomial that no term has has the coefficient 0
pub coefficient_none : (A : ℕ → Type 0) (k : ℕ) (P : List Term) → Keys A P → (A k → ⊥) → coefficient k P ≡ pos 0
unfolding coefficient
coefficient_none A k [] h f = refl
coefficient_none A k (t ∷ P) h f = go (eqb t.key k) (eqb→eq t.key k) (coefficient_none A k P h.1 f)
  where
    go : (b : Bool) → (T b → t.key ≡ k) → sum (match k) P ≡ pos 0 → t.coefficient *ℤ cond b (pos 1) (pos 0) +ℤ sum (match k) P ≡ pos 0
    go true q e = absurd (f (subst A (q tt) h.0))
    go false q e = rw (e, *ℤ-zero t.coefficient)

-- "Equality is per monomial": two polynomials with the same coefficient at every monomial have the same sum under every
-- m, and so the same value at every point
pub same_sums : (P Q : List Term) → ((k : ℕ) → coefficient k P ≡ coefficient k Q) → (m : ℕ → ℤ) → sum m P ≡ sum m Q
same_sums P Q e m = same_in integer_numbers m P Q e
