-- Products put into the support where the index of pairs tells of some sums that theirs are in. S is the support, T, B
-- and L are as in Join.antt of joining_rule.
use Rattle.std.specs.Prelude.{◌≡◌, true, List, ℕ, ◌*◌, ◌≤◌, ◌<◌, length, get_or}
use Rattle.counting.specs.Counting.{from_to}
use Rattle.joining_rule.specs.Sets.{In}
use Rattle.joining_rule.specs.Extend.{add_terms}
use Rattle.key_set.specs.Table.{keys_in, Stored}
use Rattle.round_laws.specs.Added.{Done}
use Rattle.round_laws.specs.Lists.{list_from, Ends}
use Rattle.joining_pairs.specs.Limits.{ForBasis}
use Rattle.joining_pairs.specs.Pairs.{pair_at, sum_at, told_at, AllPairs, Slots}

-- up to so many monomials a basis has no index of its pairs
abbrev pub plain : ℕ
plain = 16

-- of a sum of which it is told, every t + s is in S
pub record DoneTold (T B S pairs : List ℕ) : Type 0 where
  pub at : (p : ℕ) → pair_at B p ≡ true → 1 ≤ get_or pairs (told_at p) 0 → Done T S (sum_at B p)

-- a basis that is not small has its index
pub record WithIndex (T B pairs : List ℕ) : Type 0 where
  pub all : plain < length B → AllPairs B pairs
  pub slots : plain < length B → Slots T pairs

-- what the adding of products asks
pub record AddingAsks (T B pairs t idx : List ℕ) (len : ℕ) : Type 0 where
  pub basis : ForBasis t idx len T B
  pub index : WithIndex T B pairs
  pub done : plain < length B → DoneTold T B (keys_in len t) pairs

-- what it leaves, where the table had n keys: the table grown to hold S, and the index of pairs, which tells of no
-- other sum that its pairs are in one block
pub record AddedAll (T B S : List ℕ) (n : ℕ) (t pairs : List ℕ) (r : ℕ) (t' idx' pairs' : List ℕ) : Type 0 where
  pub stored : Stored n S t r t' idx'
  pub index : WithIndex T B pairs'
  pub done : plain < length B → DoneTold T B S pairs'
  pub met : (p : ℕ) → pair_at B p ≡ true → 2 ≤ get_or pairs' (told_at p) 0 → 2 ≤ get_or pairs (told_at p) 0

-- the list from the index i on ends, and all its indices are below n
pub record IndexList (n : ℕ) (follow : List ℕ) (i : ℕ) : Type 0 where
  pub ends : Ends follow i
  pub low : (x : ℕ) → In x (list_from follow i) → x < n

-- S with the products of each index with itself
unfoldable pub add_squares : List ℕ → List ℕ → List ℕ → List ℕ
add_squares T B S = from_to 0 (length B) (λ i. add_terms T (2 * get_or B i 0)) S
