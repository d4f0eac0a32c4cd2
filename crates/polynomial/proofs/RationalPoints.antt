-- A rational point as a point of a ring. Where coordinates of the ring, times c, are the numerators a_1..a_n, the value
-- there, times c^d, is the scaled value at the rational point a_1..a_n over c. So the two ways to speak of values meet.
use mathlib.Core.Path.{◌≡◌, refl, sym, ap, ap₂, ◌∙◌}
use mathlib.Core.Bool.{true}
use mathlib.Core.List.{List, [], ◌∷◌, map}
use Prim.Native.Nat.{ℕ, zero, suc, ◌+◌, ◌*◌, ◌-◌, ◌/◌, ◌%◌, ◌^◌, ◌≤◌}
use native.Mathlib.Nat.{pow-zero, pow-suc, div-div-eq-div-mul, mul_comm}
use native.Mathlib.Omega.{arith}
use lib.ListN.{length}
use lib.IntN.{ℤ, pos, pow, one, ◌*ℤ◌}
use borrow.Author.Tests.{eqb-true, eq-eqb}
use Rattle.ordered_rings.specs.Rings.{Ring, whole, power}
use Rattle.ordered_rings.proofs.Laws.{*-pairs, power-+, power-*}
use Rattle.ordered_rings.proofs.Numbers.{numbers, multiple_one, sum_kept, product_kept, whole_zero}
use Rattle.polynomial.specs.Monomial.{degree_of, degree, within}
use Rattle.polynomial.specs.Terms.{Term}
use Rattle.polynomial.specs.Algebra.{sum}
use Rattle.polynomial.specs.Point.{Point, powers, monomial_value, value}
use Rattle.polynomial.specs.RingPoint.{powers_in, value_in}
use Rattle.polynomial.proofs.Keys.{Keys}
use Rattle.polynomial.proofs.Products.{keys_map}
use Rattle.polynomial.proofs.RingSums.{sum_in, factor_in}

-- ---- the exponents above n of a monomial in n variables are no part of its degree
pub degree_none : (n : ℕ) → degree_of n 0 ≡ 0
unfolding degree_of
degree_none zero = refl
degree_none (suc n) = omega (arith, degree_none n)

pub degree_within : (n m k : ℕ) → n ≤ m → within n k ≡ true → degree_of m k ≡ degree_of n k
unfolding degree_of within
degree_within zero m k h w = let e : k ≡ 0 = omega (arith, eqb-true (k / 256 ^ 0) 0 w) in rw e (degree_none m)
degree_within (suc n) zero k h w = absurd (omega arith)
degree_within (suc n) (suc m) k h w =
    let e : 256 * 256 ^ n ≡ 256 ^ suc n = mul_comm 256 (256 ^ n) ∙ sym (pow-suc 256 n) in
    let r : k / 256 / 256 ^ n ≡ 0 = div-div-eq-div-mul k 256 (256 ^ n) ∙ ap (λ x. k / x) e ∙ eqb-true _ _ w in
    ap (λ d. k % 256 + d) (degree_within n m (k / 256) (omega arith) (eq-eqb _ _ r))

module _ {A : Type 0} (R : Ring A) where
  open R use {𝟙, ◌*◌ as ◌⊙◌, *-assoc, *-comm, *-one}

  infixl 70 ◌⊙◌
  -- ---- whole numbers keep powers and sums
  whole_pow : (a : ℤ) (n : ℕ) → whole R (pow a n) ≡ power R (whole R a) n
  unfolding pow one power
  whole_pow a zero = multiple_one R
  whole_pow a (suc n) = product_kept R (pow a n) a ∙ ap (λ x. x ⊙ whole R a) (whole_pow a n)

  whole-^ : (c n : ℕ) → whole R (pos (c ^ n)) ≡ power R (whole R (pos c)) n
  unfolding power
  whole-^ c zero = ap (λ x. whole R (pos x)) (pow-zero c) ∙ multiple_one R
  whole-^ c (suc n) =
      ap (λ x. whole R (pos x)) (pow-suc c n) ∙ product_kept R (pos (c ^ n)) (pos c)
      ∙ ap (λ x. x ⊙ whole R (pos c)) (whole-^ c n)

  whole_powers : (xs : List ℤ) (k : ℕ) → whole R (powers xs k) ≡ powers_in R (map (whole R) xs) k
  whole_powers [] k = multiple_one R
  whole_powers (a ∷ xs) k =
      product_kept R (pow a (k % 256)) (powers xs (k / 256))
      ∙ ap₂ ◌⊙◌ (whole_pow a (k % 256)) (whole_powers xs (k / 256))

  whole_sum : (m : ℕ → ℤ) (P : List Term) → whole R (sum m P) ≡ sum_in (numbers R) (λ k. whole R (m k)) P
  whole_sum m [] = whole_zero (numbers R)
  whole_sum m (t ∷ P) =
      sum_kept R (t.coefficient *ℤ m t.key) (sum m P)
      ∙ ap₂ R.◌+◌ (product_kept R t.coefficient (m t.key)) (whole_sum m P)

  -- ---- a common factor of the coordinates
  powers_scaled : (c : A) (xs : List A) (k : ℕ)
      → powers_in R (map (λ x. c ⊙ x) xs) k ≡ power R c (degree_of (length xs) k) ⊙ powers_in R xs k
  unfolding degree_of power
  powers_scaled c [] k = sym (*-one 𝟙)
  powers_scaled c (x ∷ xs) k =
      ap₂ ◌⊙◌ (power-* R c x (k % 256)) (powers_scaled c xs (k / 256)) ∙ *-pairs R _ _ _ _
      ∙ ap (λ y. y ⊙ powers_in R (x ∷ xs) k) (sym (power-+ R c (k % 256) (degree_of (length xs) (k / 256))))

  -- ---- at a point x of the ring, whose coordinates times c are the numerators of a
  module _ (a : Point) (x : List A) (few : length x ≤ 8)
      (meet : map (whole R) a.numerators ≡ map (λ v. whole R (pos a.denominator) ⊙ v) x) where
    abbrev c : A
    c = whole R (pos a.denominator)

    monomial_meets : (d k : ℕ) → degree k ≤ d → within (length x) k ≡ true
        → whole R (monomial_value a d k) ≡ power R c d ⊙ powers_in R x k
    unfolding monomial_value degree
    monomial_meets d k h w =
        let n = degree_of (length x) k in
        let e : degree_of 8 k ≡ n = degree_within (length x) 8 k few w in
        let s : n + (d - n) ≡ d = omega arith in
        product_kept R (powers a.numerators k) (pos (a.denominator ^ (d - degree_of 8 k)))
        ∙ ap₂ ◌⊙◌ (whole_powers a.numerators k ∙ ap (λ l. powers_in R l k) meet ∙ powers_scaled c x k)
        (whole-^ a.denominator (d - degree_of 8 k) ∙ ap (λ z. power R c (d - z)) e)
        ∙ *-assoc _ _ _ ∙ ap (λ y. power R c n ⊙ y) (*-comm _ _) ∙ sym (*-assoc _ _ _)
        ∙ ap (λ y. y ⊙ powers_in R x k) (sym (power-+ R c n (d - n)) ∙ ap (power R c) s)

    pub value_meets : (d : ℕ) (P : List Term) → Keys (λ k. (degree k ≤ d) × (within (length x) k ≡ true)) P
        → whole R (value a d P) ≡ power R c d ⊙ value_in R x P
    unfolding value value_in
    value_meets d P h =
        whole_sum (monomial_value a d) P
        ∙ factor_in (numbers R) _ (powers_in R x) (power R c d) P
        (keys_map _ _ (λ k w. monomial_meets d k w.0 w.1) P h)
