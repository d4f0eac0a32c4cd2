-- Laws of monomials: the degree and the exponents above n digit by digit, a search in a list, and a bound on the key.
use mathlib.Core.Path.{◌≡◌, ◌∙◌}
use mathlib.Core.List.{List}
use mathlib.Core.Bool.{true, false}
use Prim.Native.Nat.{ℕ, zero, suc, ◌+◌, ◌-◌, ◌*◌, ◌/◌, ◌%◌, ◌^◌, ◌≤◌, ◌<◌}
use native.Mathlib.Nat.{pow-suc, pow-le-pow_right, div-div-eq-div-mul, div-lt_iff_lt-mul, mod-add-div, mul-le-mul_right, le_trans}
use native.Mathlib.Numerals.{add-one}
use native.Mathlib.Omega.{arith}
use lib.Dec.{lit<}
use lib.ListN.{length, drop, get_or, drop_of_length-le}
use lib.Seq.{drop-cons}
use borrow.Author.Tests.{eq-eqb, ne_eqb, eqb-true}
use Rattle.polynomial.specs.Monomial.{degree_of, degree, within, among}

-- ---- digit by digit
pub degree_more : (i rest : ℕ) → i < 8 → rest % 256 + degree_of (8 - (i + 1)) (rest / 256) ≡ degree_of (8 - i) rest
unfolding degree_of
degree_more i rest h = let e : 8 - i ≡ suc (8 - (i + 1)) = omega arith in rw e

pub within_more : (i k : ℕ) → k / 256 ^ i / 256 ≡ k / 256 ^ (i + 1)
within_more i k = div-div-eq-div-mul k (256 ^ i) 256 ∙ rw (add-one i, pow-suc 256 i)

-- ---- a search, from an index on
module _ (k : ℕ) (keys : List ℕ) (i : ℕ) (p : i < length keys) where
  pub among_here : get_or keys i 0 ≡ k → among k (drop i keys) ≡ true
  unfolding among
  among_here e = rw (drop-cons keys i 0 p, among, eq-eqb (get_or keys i 0) k e)

  pub among_later : (get_or keys i 0 ≡ k → ⊥) → among k (drop i keys) ≡ among k (drop (i + 1) keys)
  unfolding among
  among_later e = rw (drop-cons keys i 0 p, among, ne_eqb (get_or keys i 0) k e, add-one i)

pub among_none : (k : ℕ) (keys : List ℕ) (i : ℕ) → length keys ≤ i → among k (drop i keys) ≡ false
unfolding among
among_none k keys i p = rw (drop_of_length-le keys p)

-- ---- a key of n + 1 digits is at most its degree times the highest place
grow : (x q : ℕ) → 1 ≤ q → x ≤ x * q
grow x (suc q) h = omega arith
grow x zero h = absurd (omega arith)

step : (r x d q : ℕ) → x ≤ d * q → 1 ≤ q → r + 256 * x ≤ (r + d) * (q * 256)
step r x d q h g = omega (arith, grow r q g)

key_digits : (w k : ℕ) → k < 256 ^ suc w → k ≤ degree_of (suc w) k * 256 ^ w
unfolding degree_of
key_digits zero k h = let e = mod-add-div k 256 in omega arith
key_digits (suc w) k h =
    let e : 256 ^ suc (suc w) ≡ 256 ^ suc w * 256 = pow-suc 256 (suc w) in
    let b : k / 256 < 256 ^ suc w = (div-lt_iff_lt-mul (lit< tt)).1 (rw e at h) in
    rw (pow-suc 256 w) (rw (mod-add-div k 256) at (step (k % 256) (k / 256) (degree_of (suc w) (k / 256)) (256 ^ w) (key_digits w (k / 256) b) (pow-le-pow_right {n = 256} (lit< tt) {i = 0} {j = w} (omega arith))))

-- so a monomial in at most 8 variables of degree at most d has a key of at most d × 256^7
pub key_low : (n d k : ℕ) → n ≤ 8 → degree k ≤ d → within n k ≡ true → k ≤ d * 2 ^ 56
unfolding degree within
key_low n d k h l e =
    let b : k < 1 * 256 ^ n = (div-lt_iff_lt-mul (pow-le-pow_right {n = 256} (lit< tt) {i = 0} {j = n} (omega arith))).0 (omega (arith, eqb-true (k / 256 ^ n) 0 e)) in
    let u : 256 ^ n ≤ 256 ^ 8 = pow-le-pow_right (lit< tt) h in
    le_trans (key_digits 7 k (omega arith)) (mul-le-mul_right (256 ^ 7) l)
