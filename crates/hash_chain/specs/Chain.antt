-- An index of the places below n by their remainders: place h of it has one more than the last of them with the
-- remainder h, or 0, and place links + p has the same for those before p. So a search goes from the last place with a
-- remainder to the first.
use Rattle.std.specs.Prelude.{◌≡◌, Bool, true, cond, List, ℕ, zero, suc, ◌+◌, ◌≤◌, ◌<◌, get_or}

-- one more than the last number below n that passes a test, or 0
unfoldable pub last_below : (ℕ → Bool) → ℕ → ℕ
last_below f zero = 0
last_below f (suc n) = cond (f n) (suc n) (last_below f n)

-- meets h p says whether place p is in use and has the remainder h, which is below the divisor
pub record Chain (links divisor : ℕ) (meets : ℕ → ℕ → Bool) (n : ℕ) (idx : List ℕ) : Type 0 where
  pub last : (h : ℕ) → h < divisor → get_or idx h 0 ≡ last_below (meets h) n
  pub before : (h p : ℕ) → p < n → meets h p ≡ true → get_or idx (links + p) 0 ≡ last_below (meets h) p
