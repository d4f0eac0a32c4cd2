-- The support in a lent table: its keys are the table's first numbers, each once, in the order in which they came. An
-- index of 6,144 numbers finds them.
use Rattle.std.specs.Prelude.{◌≡◌, Bool, false, List, [], ℕ, ◌+◌, ◌-◌, ◌%◌, ◌≤◌, ◌<◌, min, eqb, length, get_or, take, drop, set, Result, Ok, Err}
use Rattle.hash_chain.specs.Chain.{Chain}
use Rattle.joining_rule.specs.Sets.{member, insert_all}
use Rattle.key_set.specs.declared.Full.{Full}

-- the set of the table's first n numbers
unfoldable pub keys_in : ℕ → List ℕ → List ℕ
keys_in n t = insert_all (take n t) []

-- the table's first n numbers differ, and it has room for 2,048
pub record Holds (t : List ℕ) (n : ℕ) : Type 0 where
  pub few : n ≤ 2048
  pub room : 2048 ≤ length t
  pub apart : length (keys_in n t) ≡ n

-- where a key stands in a list, if it does
abbrev pub Finds : ℕ → List ℕ → Result ℕ ℕ → Type 0
Finds k l (Ok p) = (p < length l) × (get_or l p 0 ≡ k)
Finds k l (Err steps) = (member k l ≡ false) × (steps ≤ length l)

-- ---- the index
-- the divisor that an index has as a rule. Any number up to 4,094 would do; with this one few keys share a place
abbrev pub first : ℕ
first = 3821

-- what a key is divided by: the remainder is its place in the index. How far it is below the first stands at place
-- 4,095
abbrev pub divisor_in : List ℕ → ℕ
divisor_in idx = first - get_or idx 4095 0

-- an array in which a divisor stands
pub record Divided (idx : List ℕ) : Type 0 where
  pub long : length idx ≡ 6144
  pub some : get_or idx 4095 0 < first

-- whether the number at a place has the remainder h
unfoldable pub has_rest : ℕ → List ℕ → ℕ → ℕ → Bool
has_rest d t h p = eqb (get_or t p 0 % d) h

-- the index of the table's first n numbers: for each remainder the last of them, and for each of them the one before it
-- with the same remainder
pub record Indexed (idx t : List ℕ) (n : ℕ) : Type 0 where
  pub long : length idx ≡ 6144
  pub some : get_or idx 4095 0 < first
  pub chain : Chain 4096 (divisor_in idx) (has_rest (divisor_in idx) t) n idx

-- every link of the first n numbers leads back
pub record Linked (idx : List ℕ) (n : ℕ) : Type 0 where
  pub few : n ≤ 2048
  pub long : length idx ≡ 6144
  pub back : (p : ℕ) → p < n → get_or idx (4096 + p) 0 ≤ p

-- the index of n numbers, with one more of remainder h
unfoldable pub noted : List ℕ → ℕ → ℕ → List ℕ
noted idx n h = set (set idx (4096 + n) (get_or idx h 0)) h (n + 1)

-- the same index, but for its mark
pub record BesideMark (idx idx' : List ℕ) : Type 0 where
  pub long : length idx' ≡ length idx
  pub same : (q : ℕ) → (q ≡ 4094 → ⊥) → get_or idx' q 0 ≡ get_or idx q 0

-- ---- growth
-- the number of the keys that are answered: 2,049 where there would be more than 2,048
abbrev pub count_in : Result ℕ Full → ℕ
count_in (Ok n) = n
count_in (Err f) = 2049

-- the table t, grown to hold the set S: r is the number of its keys, which t' holds, or 2,049 where S has more than
-- 2,048
pub record Grown (S t : List ℕ) (r : ℕ) (t' : List ℕ) : Type 0 where
  pub count : r ≡ min (length S) 2049
  pub keys : r ≤ 2048 → keys_in r t' ≡ S
  pub long : length t' ≡ length t
  pub rest : drop 2048 t' ≡ drop 2048 t

-- and its index with it; the n keys that were there stand first
pub record Stored (n : ℕ) (S t : List ℕ) (r : ℕ) (t' idx' : List ℕ) : Type 0 where
  pub grown : Grown S t r t'
  pub index : r ≤ 2048 → Indexed idx' t' r
  pub first : r ≤ 2048 → take n t' ≡ take n t
