-- The promises on the numbers of refusals are no wider than the documents have them: no other number is promised.
use mathlib.Core.Path.{◌≡◌}
use mathlib.Core.Logic.{◌⊎◌, inl, inr}
use native.Mathlib.Omega.{arith}
use Prim.Native.Nat.{ℕ, ◌<◌}
use Rattle.calls.specs.AddedBounds.{SumNumbered}
use Rattle.calls.specs.Adjusted.{AdjustedNumber}
use Rattle.calls.specs.Office.{OfficeNumbered}

neither : {A B : Type 0} → (A → ⊥) → (B → ⊥) → A ⊎ B → ⊥
neither f g (inl a) = f a
neither f g (inr b) = g b

-- the office's: those of the check, up to 9, and 13
pub office_numbers_lem : (n : ℕ) → 9 < n → (n ≡ 13 → ⊥) → OfficeNumbered n → ⊥
office_numbers_lem n above other = neither (λ h. omega (arith, h, above)) other

-- those of a sum: the pair's, up to 10, and 15
pub sum_numbers_lem : (n : ℕ) → 10 < n → (n ≡ 15 → ⊥) → SumNumbered n → ⊥
sum_numbers_lem n above other = neither (λ h. omega (arith, h, above)) other

-- those of a moved bound: the check's, up to 9, 16 and 17
pub adjusted_numbers_lem : (n : ℕ) → 9 < n → (n ≡ 16 → ⊥) → (n ≡ 17 → ⊥) → AdjustedNumber n → ⊥
adjusted_numbers_lem n above one other = neither (λ h. omega (arith, h, above)) (neither one other)
