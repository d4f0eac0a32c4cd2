-- Polynomials as formal sums: a list of terms, in which a monomial may stand in several terms, which then add up.
use Rattle.std.specs.Prelude.{cond, List, [], ◌∷◌, ◌++◌, ℕ, ◌+◌, eqb, ℤ, pos, ◌+ℤ◌, ◌*ℤ◌}
use Rattle.polynomial.specs.Terms.{Term, term}

-- the sum over the terms of coefficient × m(monomial), in numbers of any kind: with their 0, their sum, and a whole
-- number times one of them
abbrev pub sum_by : {A : Type 0} → A → (A → A → A) → (ℤ → A → A) → (ℕ → A) → List Term → A
sum_by none plus times m [] = none
sum_by none plus times m (t ∷ P) = plus (times t.coefficient (m t.key)) (sum_by none plus times m P)

-- in whole numbers
abbrev pub sum : (ℕ → ℤ) → List Term → ℤ
sum m P = sum_by (pos 0) ◌+ℤ◌ ◌*ℤ◌ m P

abbrev pub match : ℕ → ℕ → ℤ
match k j = cond (eqb j k) (pos 1) (pos 0)

-- the coefficient at a monomial: the sum of the coefficients of the terms that have it
unfoldable pub coefficient : ℕ → List Term → ℤ
coefficient k P = sum (match k) P

-- a number times a polynomial
abbrev pub scale : ℤ → List Term → List Term
scale x [] = []
scale x (t ∷ P) = term t.key (x *ℤ t.coefficient) ∷ scale x P

-- the product with one term, and the product: exponents add, so keys add, and coefficients multiply
abbrev pub shift : Term → List Term → List Term
shift s [] = []
shift s (t ∷ P) = term (s.key + t.key) (s.coefficient *ℤ t.coefficient) ∷ shift s P

infixl 70 ◌⊗◌
abbrev pub ◌⊗◌ : List Term → List Term → List Term
[] ⊗ Q = []
(s ∷ P) ⊗ Q = shift s Q ++ (P ⊗ Q)
