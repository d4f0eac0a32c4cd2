-- A set of keys as a strictly rising list: equal sets are equal lists (proofs/Only.antt, `rising_same`).
use Rattle.std.specs.Prelude.{◌≡◌, Bool, true, false, cond, List, [], ◌∷◌, ℕ, ◌+◌, ltb, eqb}

-- whether k is an element
unfoldable pub member : ℕ → List ℕ → Bool
member k [] = false
member k (x ∷ xs) = cond (eqb x k) true (member k xs)

-- k is an element
abbrev pub In : ℕ → List ℕ → Type 0
In k S = member k S ≡ true

-- how many different elements a list has: one more for an element that does not stand in the rest
unfoldable pub different : List ℕ → ℕ
different [] = 0
different (x ∷ xs) = cond (member x xs) 0 1 + different xs

-- k put in its place in a rising list, once
unfoldable pub insert : ℕ → List ℕ → List ℕ
insert k [] = k ∷ []
insert k (x ∷ xs) = cond (ltb x k) (x ∷ insert k xs) (cond (eqb x k) (x ∷ xs) (k ∷ x ∷ xs))

-- a set with every key of a list put in
unfoldable pub insert_all : List ℕ → List ℕ → List ℕ
insert_all [] S = S
insert_all (k ∷ ks) S = insert_all ks (insert k S)
