-- The exponents of a monomial: they add up to its degree, and adding two keys adds them.
use mathlib.Core.Path.{◌≡◌, ◌∙◌}
use Prim.Native.Nat.{ℕ, zero, suc, ◌+◌, ◌-◌, ◌*◌, ◌/◌, ◌%◌, ◌^◌, ◌≤◌, ◌<◌}
use native.Mathlib.Nat.{pow-suc, div-div-eq-div-mul, mul_comm}
use native.Mathlib.Omega.{arith}
use Rattle.polynomial.specs.Monomial.{exponent, degree_of, degree}
use Rattle.polynomial.proofs.Products.{no_carry}

-- ---- the exponents one by one

-- the first
exponent_first : (k : ℕ) → exponent 1 k ≡ k % 256
unfolding exponent
exponent_first k = let e : k / 1 ≡ k = omega arith in rw e

-- the next
exponent_next : (m k : ℕ) → exponent (suc (suc m)) k ≡ exponent (suc m) (k / 256)
unfolding exponent
exponent_next m k =
    let e : 256 ^ suc m ≡ 256 * 256 ^ m = pow-suc 256 m ∙ mul_comm (256 ^ m) 256 in
    let a : suc (suc m) - 1 ≡ suc m = omega arith in
    let b : suc m - 1 ≡ m = omega arith in
    rw (a, b, e, div-div-eq-div-mul k 256 (256 ^ m))

-- the degree is their sum: n + 1 exponents have one more than n
pub degree_exponents : (n k : ℕ) → degree_of (suc n) k ≡ degree_of n k + exponent (suc n) k
unfolding degree_of
degree_exponents zero k = rw (exponent_first k) (omega arith)
degree_exponents (suc n) k = rw (exponent_next n k) (omega (arith, degree_exponents n (k / 256)))

-- ---- adding keys adds exponents

add_upto : (n m j k : ℕ) → m < n → degree_of n j + degree_of n k ≤ 255 → exponent (suc m) (j + k) ≡ exponent (suc m) j + exponent (suc m) k
unfolding degree_of
add_upto zero m j k h b = absurd (omega arith)
add_upto (suc n) zero j k h b = let c = no_carry j k (omega arith) in rw (exponent_first (j + k), exponent_first j, exponent_first k) c.0
add_upto (suc n) (suc m) j k h b =
    let c = no_carry j k (omega arith) in
    rw (exponent_next m (j + k), exponent_next m j, exponent_next m k, c.1) (add_upto n m (j / 256) (k / 256) (omega arith) (omega arith))

-- Where the degrees of two monomials add up to at most 255, adding their keys adds all eight exponents.
pub exponents_add : (i j k : ℕ) → 1 ≤ i → i ≤ 8 → degree j + degree k ≤ 255 → exponent i (j + k) ≡ exponent i j + exponent i k
unfolding degree
exponents_add i j k h l b = let e : i ≡ suc (i - 1) = omega arith in rw e (add_upto 8 (i - 1) j k (omega arith) b)
