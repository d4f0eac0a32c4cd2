-- How large a monomial is at a point whose coordinates are at most c in size: at most c to its degree. And the monomial
-- x_i², which has the key 2 × 256^(i−1); here variables are counted from 0.
use mathlib.Core.Path.{◌≡◌, refl, sym, ap, ap₂, ◌∙◌}
use mathlib.Core.List.{List, [], ◌∷◌}
use Prim.Native.Nat.{ℕ, zero, suc, ◌+◌ as ◌+ℕ◌, ◌*◌ as ◌*ℕ◌, ◌/◌, ◌%◌, ◌^◌, ◌<◌}
use native.Mathlib.Nat.{pow-suc}
use native.Mathlib.Omega.{arith}
use lib.ListN.{length, get_or}
use Rattle.ordered_rings.specs.Rings.{Order, power}
use Rattle.ordered_rings.proofs.Laws.{one-*, power-+}
use Rattle.ordered_rings.proofs.Numbers.{Numbers}
use Rattle.ordered_rings.proofs.Sizes.{Size, size-*, size_one, size_power}
use Rattle.polynomial.specs.Monomial.{degree_of}
use Rattle.polynomial.specs.RingPoint.{powers_in}
use Rattle.polynomial.proofs.RingValues.{powers_none_in}
use Rattle.polynomial.proofs.RationalPoints.{degree_none}

-- ---- the key of a square, digit by digit
square_low : (i : ℕ) → (2 *ℕ 256 ^ suc i) % 256 ≡ 0
square_low i = rw (pow-suc 256 i) (omega arith)

square_high : (i : ℕ) → (2 *ℕ 256 ^ suc i) / 256 ≡ 2 *ℕ 256 ^ i
square_high i = rw (pow-suc 256 i) (omega arith)

pub degree_square : (n i : ℕ) → i < n → degree_of n (2 *ℕ 256 ^ i) ≡ 2
unfolding degree_of
degree_square zero i h = absurd (omega arith)
degree_square (suc n) zero h = ap (λ d. 2 +ℕ d) (degree_none n)
degree_square (suc n) (suc i) h = rw (square_low i, square_high i) (omega (arith, degree_square n i (omega arith)))

module _ {A : Type 0} (N : Numbers A) (O : Order N.ring) where
  open N use {ring}
  open ring use {𝟘, 𝟙, ◌*◌, *-one}

  pub powers_square : (xs : List A) (i : ℕ) → i < length xs
      → powers_in ring xs (2 *ℕ 256 ^ i) ≡ get_or xs i 𝟘 * get_or xs i 𝟘
  unfolding power
  powers_square [] i h = absurd (omega arith)
  powers_square (x ∷ xs) zero h = ap (λ v. 𝟙 * x * x * v) (powers_none_in ring xs) ∙ rw (*-one, one-* ring)
  powers_square (x ∷ xs) (suc i) h =
      ap₂ (λ e r. power ring x e * powers_in ring xs r) (square_low i) (square_high i)
      ∙ one-* ring _ ∙ powers_square xs i (omega arith)

  pub powers_size : (c : A) (xs : List A) → ((i : ℕ) → i < length xs → Size N O (get_or xs i 𝟘) c)
      → (k : ℕ) → Size N O (powers_in ring xs k) (power ring c (degree_of (length xs) k))
  unfolding degree_of power
  powers_size c [] h k = size_one N O
  powers_size c (x ∷ xs) h k =
      rw (power-+ ring c) (size-* N O (size_power N O (h 0 (omega arith)) (k % 256))
      (powers_size c xs (λ i l. h (suc i) (omega arith)) (k / 256)))
