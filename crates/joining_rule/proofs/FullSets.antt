-- A support that holds all that an extension would add. S, T, B and L are as in specs/Join.antt.
use mathlib.Core.Path.{◌≡◌}
use mathlib.Core.List.{List}
use Prim.Native.Nat.{ℕ, ◌+◌, ◌≤◌, ◌<◌}
use lib.ListN.{length, get_or}
use Rattle.joining_rule.specs.Sets.{In}

-- every t + b + b' of the indices i and k is in S, where the two are in one block
pub record FullAt (T B L : List ℕ) (i k : ℕ) (S : List ℕ) : Type 0 where
  pub at : get_or L i 0 ≡ get_or L k 0 → (t : ℕ) → In t T → In (t + (get_or B i 0 + get_or B k 0)) S

-- and so for all pairs
pub record Full (T B L S : List ℕ) : Type 0 where
  pub at : (i k : ℕ) → i ≤ k → k < length B → FullAt T B L i k S
