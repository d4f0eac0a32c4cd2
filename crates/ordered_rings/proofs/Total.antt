-- A total order that sums and products keep is an order as the bounds ask for: squares are at least 0 in it, as a number
-- or its negative is at least 0 and both have the same square; and a whole factor from 1 on may be taken away.
use mathlib.Core.Path.{◌≡◌}
use mathlib.Core.Logic.{◌⊎◌, ⊎_elim, inl, inr}
use Prim.Native.Nat.{ℕ, zero, suc}
use Rattle.ordered_rings.specs.Rings.{Ring, Order, TotalOrder, multiple}
use Rattle.ordered_rings.proofs.Laws.{zero-+, minus_minus, minus-*, *-minus, sorted}

module _ {A : Type 0} (R : Ring A) (T : TotalOrder R) where
  open R use {𝟘, 𝟙, ◌+◌, -◌, ◌*◌, +-zero, +-minus, *-one}
  open T use {◌≤◌, ≤_trans, ≤-total, ≤-+, ≤-*}

  pub itself : (a : A) → a ≤ a
  itself a = ⊎_elim (λ h. h) (λ h. h) (≤-total a a)

  sums : (a b : A) → 𝟘 ≤ a → 𝟘 ≤ b → 𝟘 ≤ a + b
  sums a b h k = ≤_trans 𝟘 b (a + b) k (rw (zero-+ R b) at (≤-+ 𝟘 a b h))

  -- a number or its negative is at least 0
  either : (a : A) → (𝟘 ≤ a) ⊎ (𝟘 ≤ - a)
  either a = ⊎_elim inl (λ h. inr (rw (zero-+ R (- a), +-minus) at (≤-+ a 𝟘 (- a) h))) (≤-total 𝟘 a)

  pub square : (a : A) → 𝟘 ≤ a * a
  square a =
      ⊎_elim (λ h. ≤-* a a h h) (λ h. rw (minus-* R, *-minus R, minus_minus R) at (≤-* (- a) (- a) h h)) (either a)

  multiples : (n : ℕ) → 𝟘 ≤ multiple R n
  unfolding multiple
  multiples zero = itself 𝟘
  multiples (suc n) = sums (multiple R n) 𝟙 (multiples n) (rw *-one at (square 𝟙))

  -- where a is not at least 0, − a is, and a = (n + 1) × a + n × − a
  pub cancel : (n : ℕ) (a : A) → 𝟘 ≤ multiple R (suc n) * a → 𝟘 ≤ a
  unfolding multiple
  cancel n a h =
      ⊎_elim (λ k. k) (λ k. rw same at (sums _ _ h (≤-* (multiple R n) (- a) (multiples n) k))) (either a)
    where
      same : (multiple R n + 𝟙) * a + multiple R n * - a ≡ a
      same = simp (sorted, R, +-minus, +-zero, *-one)

  abbrev pub total : Order R
  total = record {
    ◌≤◌ = ◌≤◌;
    ≤-refl = itself;
    ≤_trans = ≤_trans;
    ≤-+ = ≤-+;
    ≤-* = ≤-*;
    ≤-square = square;
    ≤-cancel = cancel;
  }
