-- The first half of a round, for one basis. S is the support, T the exponents of the basis's multiplier g_j, B the
-- basis, each monomial by its key; L has the block number of each index of the basis. A block's number is its lowest
-- index.
use Rattle.std.specs.Prelude.{Bool, true, false, cond, List, [], ◌∷◌, map, ℕ, ◌+◌, min, max, eqb, length, get_or}
use Rattle.joining_rule.specs.Sets.{member}
use Rattle.counting.specs.Counting.{from_to}

-- "some exponent t of g_j has t + b + b' in S", where s is b + b'
unfoldable pub linked : List ℕ → List ℕ → ℕ → Bool
linked S [] s = false
linked S (t ∷ ts) s = cond (member (t + s) S) true (linked S ts s)

-- a block number, with one replaced by another
abbrev pub renamed : ℕ → ℕ → ℕ → ℕ
renamed from to x = cond (eqb x from) to x

-- two blocks made one, under the lower number
unfoldable pub merged : ℕ → ℕ → List ℕ → List ℕ
merged a b L = map (renamed (max a b) (min a b)) L

-- "put b and b' in one block": the blocks of the indices i and k made one, where the pair is linked
unfoldable pub join_pair : List ℕ → List ℕ → List ℕ → ℕ → ℕ → List ℕ → List ℕ
join_pair S T B i k L = cond (linked S T (get_or B i 0 + get_or B k 0)) (merged (get_or L i 0) (get_or L k 0) L) L

-- index i with each index after it
abbrev pub join_row : List ℕ → List ℕ → List ℕ → ℕ → List ℕ → List ℕ
join_row S T B i L = from_to (i + 1) (length B) (join_pair S T B i) L

-- every pair in turn. Whole blocks are made one, so the connected components are complete:
-- proofs/Joined.antt (linked indices are in one block) and proofs/Least.antt (no others)
unfoldable pub join : List ℕ → List ℕ → List ℕ → List ℕ → List ℕ
join S T B L = from_to 0 (length B) (join_row S T B) L
