-- What is made by counting up from a number: a list, a state, a sum. And lists of small numbers.
use Rattle.std.specs.Prelude.{List, [], ◌∷◌, ◌++◌, ℕ, zero, suc, ◌+◌, ◌-◌, ◌≤◌, get_or}

-- the list f 0, f 1, .., f (n − 1)
unfoldable pub listed {ℓ} : {A : Type ℓ} → ℕ → (ℕ → A) → List A
listed zero f = []
listed (suc n) f = listed n f ++ (f n ∷ [])

-- the state after m steps, at a and the numbers after it
abbrev pub steps : {A : Type 0} → (ℕ → A → A) → ℕ → ℕ → A → A
steps f zero a s = s
steps f (suc m) a s = steps f m (suc a) (f a s)

-- the state after a step at each of a, a + 1, .., n − 1 in turn
unfoldable pub from_to : {A : Type 0} → ℕ → ℕ → (ℕ → A → A) → A → A
from_to a n f s = steps f (n - a) a s

-- the sum f 0 + f 1 + .. + f (n − 1)
unfoldable pub sum_to : ℕ → (ℕ → ℕ) → ℕ
sum_to zero f = 0
sum_to (suc n) f = sum_to n f + f n

-- each number of a list is at most m
abbrev pub Bounded : ℕ → List ℕ → Type 0
Bounded m l = (i : ℕ) → get_or l i 0 ≤ m
