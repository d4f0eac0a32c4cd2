-- A function that appends to a text in a buffer keeps its bytes and adds to them.
use Rattle.std.specs.Prelude.{◌≡◌, List, ◌++◌, ℕ, ◌+◌, length, take}

-- after the first `at` bytes of `before`, `added` stands in `after`, and ends at `end`
pub record Appended (before : List ℕ) (at : ℕ) (added after : List ℕ) (end : ℕ) : Type 0 where
  pub ends : end ≡ at + length added
  pub bytes : take end after ≡ take at before ++ added
