-- Which monomials a sum, a multiple and a product have, and the degree of a product.
use mathlib.Core.Path.{◌≡◌, refl}
use mathlib.Core.List.{List, [], ◌∷◌, ◌++◌}
use Prim.Native.Nat.{ℕ, zero, suc, ◌+◌, ◌/◌, ◌%◌, ◌≤◌}
use native.Mathlib.Omega.{arith}
use lib.IntN.{ℤ}
use Rattle.polynomial.specs.Monomial.{degree_of, degree}
use Rattle.polynomial.specs.Terms.{Term}
use Rattle.polynomial.specs.Algebra.{scale, shift, ◌⊗◌}
use Rattle.polynomial.proofs.Keys.{Keys}

-- ---- monomials
module _ (A : ℕ → Type 0) where
  pub keys_append : (P Q : List Term) → Keys A P → Keys A Q → Keys A (P ++ Q)
  keys_append [] Q v w = w
  keys_append (t ∷ P) Q v w = (v.0, keys_append P Q v.1 w)

  pub keys_scale : (x : ℤ) (P : List Term) → Keys A P → Keys A (scale x P)
  keys_scale x [] v = tt
  keys_scale x (t ∷ P) v = (v.0, keys_scale x P v.1)

  pub keys_shift : (s : Term) (Q : List Term) → Keys (λ k. A (s.key + k)) Q → Keys A (shift s Q)
  keys_shift s [] w = tt
  keys_shift s (t ∷ Q) w = (w.0, keys_shift s Q w.1)

  -- the monomials of a product are the products of one monomial of each factor
  pub keys-⊗ : (P Q : List Term) → Keys (λ j. Keys (λ k. A (j + k)) Q) P → Keys A (P ⊗ Q)
  keys-⊗ [] Q v = tt
  keys-⊗ (s ∷ P) Q v = keys_append (shift s Q) (P ⊗ Q) (keys_shift s Q v.0) (keys-⊗ P Q v.1)

-- what a property implies
pub keys_map : (A B : ℕ → Type 0) → ((k : ℕ) → A k → B k) → (P : List Term) → Keys A P → Keys B P
keys_map A B f [] v = tt
keys_map A B f (t ∷ P) v = (f t.key v.0, keys_map A B f P v.1)

-- ---- degrees
-- no exponent of a product is above 255, so none is carried over into the next
pub no_carry : (j k : ℕ) → j % 256 + k % 256 ≤ 255 → ((j + k) % 256 ≡ j % 256 + k % 256) × ((j + k) / 256 ≡ j / 256 + k / 256)
no_carry j k h = omega arith

pub degree_of_add : (n j k : ℕ) → degree_of n j + degree_of n k ≤ 255 → degree_of n (j + k) ≡ degree_of n j + degree_of n k
unfolding degree_of
degree_of_add zero j k h = refl
degree_of_add (suc n) j k h =
    let c = no_carry j k (omega arith) in
    let r = degree_of_add n (j / 256) (k / 256) (omega arith) in
    rw (c.0, c.1, r) (omega arith)

pub degree_add : (j k : ℕ) → degree j + degree k ≤ 255 → degree (j + k) ≡ degree j + degree k
unfolding degree
degree_add j k h = degree_of_add 8 j k h

-- a polynomial of total degree at most d
abbrev pub Degree : ℕ → List Term → Type 0
Degree d P = Keys (λ k. degree k ≤ d) P

pub degree-⊗ : (d e : ℕ) → d + e ≤ 255 → (P Q : List Term) → Degree d P → Degree e Q → Degree (d + e) (P ⊗ Q)
degree-⊗ d e b P Q v w = keys-⊗ _ P Q (keys_map _ _ (λ j h. keys_map _ _ (λ k l. let s = degree_add j k (omega arith) in omega arith) Q w) P v)
