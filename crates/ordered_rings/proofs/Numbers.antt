-- The whole numbers in a ring. They keep sums and products as the multiples of 1 in any ring, and as themselves in the
-- ring of the integers. What is proved of any ring with such whole numbers holds of both.
use mathlib.Core.Path.{◌≡◌, sym, ap, ◌∙◌}
use Prim.Native.Nat.{ℕ, zero, suc, ◌+◌ as ◌+ℕ◌, ◌*◌ as ◌*ℕ◌}
use native.Mathlib.Nat.{add-zero, add-suc, mul-zero, mul-suc}
use native.Mathlib.Omega.{arith}
use lib.IntN.{ℤ, pos, neg_ℤ, ◌+ℤ◌, ◌*ℤ◌, +ℤ_invr}
use Rattle.integers.proofs.Ring.{◌⊖◌, view, pos-⊖, negsuc-⊖, ⊖-eq, ⊖-+, ⊖-*}
use Rattle.ordered_rings.specs.Rings.{Ring, multiple, whole}
use Rattle.ordered_rings.proofs.Laws.{zero-+, +-left, *-zero, none, is_minus, minus_zero, minus-+, sorted}

-- a ring with the whole numbers in it
pub record Numbers (A : Type 0) : Type 0 where
  pub ring : Ring A
  pub whole : ℤ → A
  pub whole_one : whole (pos 1) ≡ ring.𝟙
  pub whole-+ : (x y : ℤ) → whole (x +ℤ y) ≡ ring.◌+◌ (whole x) (whole y)
  pub whole-* : (x y : ℤ) → whole (x *ℤ y) ≡ ring.◌*◌ (whole x) (whole y)

-- ---- the multiples of 1
module _ {A : Type 0} (R : Ring A) where
  open R use {𝟙, ◌+◌, -◌, ◌*◌, +_assoc, +-zero, +-minus, *-one, *-+}

  multiple-+ : (m n : ℕ) → multiple R (m +ℕ n) ≡ multiple R m + multiple R n
  unfolding multiple
  multiple-+ m zero = rw (add-zero, +-zero)
  multiple-+ m (suc n) = ap (multiple R) (add-suc m n) ∙ ap (λ x. x + 𝟙) (multiple-+ m n) ∙ +_assoc _ _ 𝟙

  multiple-* : (m n : ℕ) → multiple R (m *ℕ n) ≡ multiple R m * multiple R n
  unfolding multiple
  multiple-* m zero = rw (mul-zero, *-zero R)
  multiple-* m (suc n) = rw (mul-suc, multiple-+ (m *ℕ n) m, multiple-* m n, *-+, *-one)

  -- of a difference of two naturals, as which every integer can be viewed
  whole-⊖ : (m n : ℕ) → whole R (m ⊖ n) ≡ multiple R m + - multiple R n
  unfolding multiple whole
  whole-⊖ m zero = rw (← pos-⊖ m, minus_zero R, +-zero)
  whole-⊖ zero (suc n) = rw (← negsuc-⊖ n, zero-+ R)
  whole-⊖ (suc m) (suc n) =
      rw (⊖-eq (suc m) (suc n) m n (omega arith), whole-⊖ m n)
      (simp (minus-+ R, +_assoc, +-left R 𝟙 (- multiple R n) (- 𝟙), +-minus, +-zero))

  pub multiple_one : whole R (pos 1) ≡ 𝟙
  unfolding multiple whole
  multiple_one = zero-+ R 𝟙

  pub sum_kept : (x y : ℤ) → whole R (x +ℤ y) ≡ whole R x + whole R y
  sum_kept x y = rw ((view x).eq, (view y).eq, ⊖-+) (simp (whole-⊖, multiple-+, sorted, R))

  pub product_kept : (x y : ℤ) → whole R (x *ℤ y) ≡ whole R x * whole R y
  product_kept x y = rw ((view x).eq, (view y).eq, ⊖-*) (simp (whole-⊖, multiple-+, multiple-*, sorted, R))

  abbrev pub numbers : Numbers A
  numbers = record { ring = R; whole = whole R; whole_one = multiple_one; whole-+ = sum_kept; whole-* = product_kept }

-- ---- what follows
module _ {A : Type 0} (N : Numbers A) where
  open N use {ring, whole, whole-+}
  open ring use {𝟘, -◌}

  pub whole_zero : whole (pos 0) ≡ 𝟘
  whole_zero = none ring (whole (pos 0)) (sym (whole-+ (pos 0) (pos 0)))

  pub whole_minus : (x : ℤ) → whole (neg_ℤ x) ≡ - whole x
  whole_minus x = is_minus ring _ _ (sym (whole-+ x (neg_ℤ x)) ∙ ap whole (+ℤ_invr x) ∙ whole_zero)
