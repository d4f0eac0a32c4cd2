-- The support in the rounds: the start and the products of every pair in one block. S₀ is the start, S the support, L
-- has the block numbers of all bases, and the bases before n add. T, B and a list of indices are those of one basis, as
-- in Join.antt of joining_rule.
use Rattle.std.specs.Prelude.{◌≡◌, ◌⊎◌, Bool, true, List, [], ◌∷◌, ℕ, ◌+◌, ◌<◌, length, get_or}
use Rattle.joining_rule.specs.Sets.{In}
use Rattle.joining_rule.specs.Extend.{add_terms}
use Rattle.joining_rule.specs.Rounds.{Bases}
use Rattle.joining_rule.specs.Meaning.{Pair, sum_of}
use Rattle.joining_rule.proofs.Rising.{Rising}
use Rattle.round_laws.specs.Joins.{Together, Has}

-- x is a product t + b + b' of a pair in one block, of a basis that adds
pub record Product (n : ℕ) (g : Bases) (L : List (List ℕ)) (x : ℕ) : Type 0 where
  pub j : ℕ
  pub i : ℕ
  pub k : ℕ
  pub t : ℕ
  pub adding : j < n
  pub pair : Pair g j i k t
  pub together : get_or (get_or L j []) i 0 ≡ get_or (get_or L j []) k 0
  pub value : sum_of g j i k t ≡ x

-- S has the start, all these products, and nothing else
pub record Products (n : ℕ) (g : Bases) (L : List (List ℕ)) (S₀ S : List ℕ) : Type 0 where
  pub rising : Rising S
  pub starts : (x : ℕ) → In x S₀ → In x S
  pub full : (x : ℕ) → Product n g L x → In x S
  pub only : (x : ℕ) → In x S → In x S₀ ⊎ Product n g L x

-- ---- one basis
-- x is a product of a pair in one block
pub record PairProduct (T B L : List ℕ) (x : ℕ) : Type 0 where
  pub i : ℕ
  pub k : ℕ
  pub t : ℕ
  pub first : i < length B
  pub second : k < length B
  pub exponent : In t T
  pub together : get_or L i 0 ≡ get_or L k 0
  pub value : t + (get_or B i 0 + get_or B k 0) ≡ x

-- and was not in one in the blocks L, before L'
pub record NewProduct (T B L L' : List ℕ) (x : ℕ) : Type 0 where
  pub product : PairProduct T B L' x
  pub apart : get_or L product.i 0 ≡ get_or L product.k 0 → ⊥

-- while the blocks went from L to L', S grew to S': it has the products of pairs that came into one block, if the basis
-- adds, and nothing else
pub record Between (adding : Bool) (T B L L' S S' : List ℕ) : Type 0 where
  pub rising : Rising S → Rising S'
  pub keeps : (x : ℕ) → In x S → In x S'
  pub adds : adding ≡ true → (x : ℕ) → NewProduct T B L L' x → In x S'
  pub only : (x : ℕ) → In x S' → In x S ⊎ ((adding ≡ true) × NewProduct T B L L' x)

-- S' is S and products of pairs that are in one block of any blocks M that have L and the pairs P: so it is also where
-- a joining by P is given up because S' has too many keys
pub record Within (adding : Bool) (P : ℕ → ℕ → Type 0) (T B L S S' : List ℕ) : Type 0 where
  pub rising : Rising S → Rising S'
  pub keeps : (x : ℕ) → In x S → In x S'
  pub only : (M : List ℕ) → Has P (length B) M → Has (Together L) (length B) M → (x : ℕ) → In x S'
      → In x S ⊎ ((adding ≡ true) × PairProduct T B M x)

-- x is a product of an index with the block number a and one with the block number b, in one basis
pub record CrossProduct (T B L : List ℕ) (a b x : ℕ) : Type 0 where
  pub i : ℕ
  pub k : ℕ
  pub t : ℕ
  pub first : i < length B
  pub second : k < length B
  pub exponent : In t T
  pub low : get_or L i 0 ≡ a
  pub high : get_or L k 0 ≡ b
  pub value : t + (get_or B i 0 + get_or B k 0) ≡ x

-- S' is S with the cross products of the blocks a and b, and nothing else
pub record Crossed (T B L : List ℕ) (a b : ℕ) (S S' : List ℕ) : Type 0 where
  pub rising : Rising S → Rising S'
  pub keeps : (x : ℕ) → In x S → In x S'
  pub adds : (x : ℕ) → CrossProduct T B L a b x → In x S'
  pub only : (x : ℕ) → In x S' → In x S ⊎ CrossProduct T B L a b x

-- every t + s is in S
pub record Done (T S : List ℕ) (s : ℕ) : Type 0 where
  pub at : (t : ℕ) → In t T → In (t + s) S

-- ---- as the loops go
-- S with the products of index k with each index of a list
unfoldable pub add_list : List ℕ → List ℕ → ℕ → List ℕ → List ℕ → List ℕ
add_list T B k [] S = S
add_list T B k (i ∷ is) S = add_list T B k is (add_terms T (get_or B i 0 + get_or B k 0) S)

-- and so for each index k of another
unfoldable pub add_lists : List ℕ → List ℕ → List ℕ → List ℕ → List ℕ → List ℕ
add_lists T B is [] S = S
add_lists T B is (k ∷ ks) S = add_lists T B is ks (add_list T B k is S)
