-- A polynomial is a list of terms.
use Rattle.std.specs.Prelude.{List, map, ℕ, ℤ}

-- a monomial, by its key, and its coefficient
pub record Term : Type 0 where
  pub key : ℕ
  pub coefficient : ℤ

abbrev pub term : ℕ → ℤ → Term
term k c = record { key = k; coefficient = c }

unfoldable pub keys_of : List Term → List ℕ
keys_of ts = map (λ (t : Term). t.key) ts
