-- A block as a list in an array: `follow` has at each index the index that follows it in its block, or a number from 64
-- on where there is none. L has the block number of each index.
use Rattle.std.specs.Prelude.{◌≡◌, cond, List, [], ◌∷◌, ℕ, zero, suc, ◌≤◌, ◌<◌, ltb, length, get_or, set}
use Rattle.joining_rule.specs.Sets.{In}

-- the indices from x on, at most m
unfoldable pub walk : ℕ → List ℕ → ℕ → List ℕ
walk zero follow x = []
walk (suc m) follow x = cond (ltb x 64) (x ∷ walk m follow (get_or follow x 0)) []

-- the indices from x on: they are at most 64, where the list ends
abbrev pub list_from : List ℕ → ℕ → List ℕ
list_from follow x = walk 65 follow x

pub record Ends (follow : List ℕ) (x : ℕ) : Type 0 where
  pub few : length (list_from follow x) ≤ 64

-- each element of a list stands in it once
abbrev pub Once : List ℕ → Type 0
Once [] = Unit {0}
Once (x ∷ xs) = (In x xs → ⊥) × Once xs

-- the list from a on has the indices of block a, each once
pub record BlockList (follow L : List ℕ) (a : ℕ) : Type 0 where
  pub ends : Ends follow a
  pub once : Once (list_from follow a)
  pub inside : (x : ℕ) → In x (list_from follow a) → (x < length L) × (get_or L x 0 ≡ a)
  pub whole : (x : ℕ) → x < length L → get_or L x 0 ≡ a → In x (list_from follow a)

-- every block has such a list, which begins with its number
pub record Lists (follow L : List ℕ) : Type 0 where
  pub few : length L ≤ 64
  pub long : length L ≤ length follow
  pub at : (a : ℕ) → a < length L → get_or L a 0 ≡ a → BlockList follow L a

-- ---- as the loops go
-- the last of x and the list after it
abbrev pub last_of : ℕ → List ℕ → ℕ
last_of x [] = x
last_of x (y ∷ ys) = last_of y ys

-- L with the block number a at each index of a list
unfoldable pub relabel : ℕ → List ℕ → List ℕ → List ℕ
relabel a [] L = L
relabel a (k ∷ ks) L = relabel a ks (set L k a)

-- follow, where the block b with the last index z is put behind the first index of the block a
abbrev pub spliced : ℕ → ℕ → ℕ → List ℕ → List ℕ
spliced a b z follow = set (set follow z (get_or follow a 0)) a b

-- a and b are the numbers of two blocks
pub record TwoBlocks (a b : ℕ) (L follow : List ℕ) : Type 0 where
  pub long : length follow ≡ 64
  pub lists : Lists follow L
  pub below : a < b
  pub inside : b < length L
  pub own : get_or L a 0 ≡ a
  pub other : get_or L b 0 ≡ b
