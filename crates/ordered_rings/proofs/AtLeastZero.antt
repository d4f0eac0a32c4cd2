-- What is at least 0 in an ordered ring: sums, squares and whole numbers; a positive whole factor may be taken away; and
-- a ≤ b exactly where b − a is at least 0. That a total order has squares and factors so is in Total.antt.
use mathlib.Core.Path.{◌≡◌, sym, ap, ◌∙◌}
use Prim.Native.Nat.{ℕ, zero, suc, ◌≤◌ as ◌≤ℕ◌}
use native.Mathlib.Numerals.{add-one}
use native.Mathlib.Omega.{arith}
use lib.IntN.{ℤ, pos, negsuc}
use lib.Signed.{◌≤ℤ◌}
use Rattle.ordered_rings.specs.Rings.{Ring, Order, multiple}
use Rattle.ordered_rings.proofs.Laws.{zero-+}
use Rattle.ordered_rings.proofs.Numbers.{Numbers, whole_zero}

module _ {A : Type 0} (R : Ring A) (O : Order R) where
  open R use {𝟘, 𝟙, ◌+◌, -◌, ◌*◌, +_assoc, +_comm, +-zero, +-minus, *-one}
  open O use {◌≤◌, ≤-refl, ≤_trans, ≤-+, ≤-square}

  abbrev pub Nonneg : A → Type 0
  Nonneg a = 𝟘 ≤ a

  pub nonneg_zero : Nonneg 𝟘
  nonneg_zero = ≤-refl 𝟘

  pub nonneg-+ : {a b : A} → Nonneg a → Nonneg b → Nonneg (a + b)
  nonneg-+ {a} {b} h k = ≤_trans 𝟘 b (a + b) k (rw (zero-+ R b) at (≤-+ 𝟘 a b h))

  -- ---- the order by differences
  pub ≤-of_minus : (a b : A) → Nonneg (b + - a) → a ≤ b
  ≤-of_minus a b h = rw (zero-+ R a, +_assoc, +_comm (- a) a, +-minus, +-zero) at (≤-+ 𝟘 (b + - a) a h)

  pub minus_of-≤ : (a b : A) → a ≤ b → Nonneg (b + - a)
  minus_of-≤ a b h = rw +-minus at (≤-+ a b (- a) h)

  -- ---- squares
  pub nonneg_square : (a : A) → Nonneg (a * a)
  nonneg_square = ≤-square

  pub nonneg_one : Nonneg 𝟙
  nonneg_one = rw *-one at (nonneg_square 𝟙)

-- ---- whole numbers
module _ {A : Type 0} (N : Numbers A) (O : Order N.ring) where
  open N use {ring, whole, whole_one, whole-+}
  open ring use {𝟙, ◌+◌, ◌*◌}

  whole_suc : (n : ℕ) → whole (pos (suc n)) ≡ whole (pos n) + 𝟙
  whole_suc n =
      ap (λ m. whole (pos m)) (sym (add-one n)) ∙ whole-+ (pos n) (pos 1) ∙ ap (λ x. whole (pos n) + x) whole_one

  pub nonneg_multiple : (n : ℕ) → Nonneg ring O (whole (pos n))
  nonneg_multiple zero = rw (whole_zero N) (nonneg_zero ring O)
  nonneg_multiple (suc n) = rw (whole_suc n) (nonneg-+ ring O (nonneg_multiple n) (nonneg_one ring O))

  pub nonneg_whole : (x : ℤ) → pos 0 ≤ℤ x → Nonneg ring O (whole x)
  nonneg_whole (pos n) h = nonneg_multiple n
  nonneg_whole (negsuc n) h = absurd h.le

  whole_multiple : (n : ℕ) → whole (pos n) ≡ multiple ring n
  unfolding multiple
  whole_multiple zero = whole_zero N
  whole_multiple (suc n) = whole_suc n ∙ ap (λ x. x + 𝟙) (whole_multiple n)

  -- a positive factor is taken away
  pub nonneg_cancel : (n : ℕ) (a : A) → 1 ≤ℕ n → Nonneg ring O (whole (pos n) * a) → Nonneg ring O a
  nonneg_cancel zero a e h = absurd (omega arith)
  nonneg_cancel (suc n) a e h = O.≤-cancel n a (rw (whole_multiple (suc n)) at h)
