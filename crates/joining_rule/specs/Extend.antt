-- The second half of a round, for one basis: S, T, B and L are as in Join.antt.
use Rattle.std.specs.Prelude.{cond, List, [], ◌∷◌, ℕ, ◌+◌, eqb, length, get_or}
use Rattle.joining_rule.specs.Sets.{insert}
use Rattle.counting.specs.Counting.{from_to}

-- S with t + b + b' for each exponent t, where s is b + b'
unfoldable pub add_terms : List ℕ → ℕ → List ℕ → List ℕ
add_terms [] s S = S
add_terms (t ∷ ts) s S = add_terms ts s (insert (t + s) S)

-- "add to S every t + b + b' with b, b' in one block": the indices i and k
unfoldable pub add_pair : List ℕ → List ℕ → List ℕ → ℕ → ℕ → List ℕ → List ℕ
add_pair T B L i k S = cond (eqb (get_or L i 0) (get_or L k 0)) (add_terms T (get_or B i 0 + get_or B k 0) S) S

-- index i with itself ("b = b' included") and each index after it
abbrev pub add_row : List ℕ → List ℕ → List ℕ → ℕ → List ℕ → List ℕ
add_row T B L i S = from_to i (length B) (add_pair T B L i) S

-- every pair in turn
unfoldable pub extend : List ℕ → List ℕ → List ℕ → List ℕ → List ℕ
extend T B L S = from_to 0 (length B) (add_row T B L) S
