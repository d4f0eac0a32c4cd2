-- Monomials in eight variables. A monomial is its key, the sum of e_i × 256^(i−1) over its exponents e_1 .. e_8.
use Rattle.std.specs.Prelude.{Bool, true, false, cond, List, [], ◌∷◌, ℕ, zero, suc, ◌+◌, ◌-◌, ◌/◌, ◌%◌, ◌^◌, eqb}

-- e_i, the exponent of variable i
unfoldable pub exponent : ℕ → ℕ → ℕ
exponent i k = k / 256 ^ (i - 1) % 256

-- the sum of the first n exponents of a key
unfoldable pub degree_of : ℕ → ℕ → ℕ
degree_of zero k = 0
degree_of (suc n) k = k % 256 + degree_of n (k / 256)

-- the total degree
unfoldable pub degree : ℕ → ℕ
degree k = degree_of 8 k

-- "Exponents of variables above n are 0": nothing of the key is left past its first n exponents
unfoldable pub within : ℕ → ℕ → Bool
within n k = eqb (k / 256 ^ n) 0

-- whether a monomial stands in a list of monomials
unfoldable pub among : ℕ → List ℕ → Bool
among k [] = false
among k (x ∷ xs) = cond (eqb x k) true (among k xs)
