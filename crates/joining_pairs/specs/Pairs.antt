-- The index of a basis's pairs by their sums, in one array. Place p = 64i + k belongs to the pair of the indices i < k,
-- and its sum is that of their keys.
use Rattle.std.specs.Prelude.{◌≡◌, ◌⊎◌, Bool, true, false, cond, List, ℕ, ◌+◌, ◌*◌, ◌/◌, ◌%◌, ◌≤◌, ◌<◌, ltb, eqb, length, get_or, Option, Some, None}
use Rattle.round_laws.specs.Fits.{SumBits}
use Rattle.key_set.specs.Table.{first}
use Rattle.hash_chain.specs.Chain.{Chain}

-- whether a place belongs to a pair, and its sum
unfoldable pub pair_at : List ℕ → ℕ → Bool
pair_at B p = cond (ltb (p / 64) (p % 64)) (ltb (p % 64) (length B)) false

abbrev pub sum_at : List ℕ → ℕ → ℕ
sum_at B p = get_or B (p / 64) 0 + get_or B (p % 64) 0

-- what a sum is divided by. Any number up to 2,048 would do; with this one few sums share a place
abbrev pub sum_divisor : ℕ
sum_divisor = 2039

-- whether a place belongs to a pair whose sum has the remainder h
unfoldable pub meets : List ℕ → ℕ → ℕ → Bool
meets B h p = cond (pair_at B p) (eqb (sum_at B p % sum_divisor) h) false

-- where it is told what was done with the sum of the pair at place p: the place of 64k + i, which is no pair's
abbrev pub told_at : ℕ → ℕ
told_at p = 2048 + (64 * (p % 64) + p / 64)

-- the remainders of the keys stand from 6,176 on
pub record Remainders (B pairs : List ℕ) : Type 0 where
  pub long : length pairs ≡ 6240
  pub at : (i : ℕ) → i < length B → get_or pairs (6176 + i) 0 ≡ get_or B i 0 % sum_divisor

-- the index of the pairs at the places before m
pub record PairIndex (B : List ℕ) (m : ℕ) (pairs : List ℕ) : Type 0 where
  pub remainders : Remainders B pairs
  pub chain : Chain 2048 sum_divisor (meets B) m pairs

-- and of all pairs
abbrev pub AllPairs : List ℕ → List ℕ → Type 0
AllPairs B pairs = PairIndex B (64 * length B) pairs

-- the slots of the exponents, by the divisor that an index has as a rule, stand from 6,144 on
pub record Slots (T pairs : List ℕ) : Type 0 where
  pub long : length pairs ≡ 6240
  pub at : (i : ℕ) → i < length T → get_or pairs (6144 + i) 0 ≡ get_or T i 0 % first

-- it holds nothing
pub record NoPairs (pairs : List ℕ) : Type 0 where
  pub long : length pairs ≡ 6240
  pub zero : (i : ℕ) → get_or pairs i 0 ≡ 0

-- what stands beside the pairs that are put in stays
pub record Beside (B pairs pairs' : List ℕ) : Type 0 where
  pub slots : (q : ℕ) → 6144 ≤ q → get_or pairs' q 0 ≡ get_or pairs q 0
  pub told : (p : ℕ) → pair_at B p ≡ true → get_or pairs' (told_at p) 0 ≡ get_or pairs (told_at p) 0

-- the index of all pairs, where nothing is told yet, and the bits of their sums
pub record PairsMade (T B : List ℕ) (bits : ℕ) (pairs : List ℕ) : Type 0 where
  pub index : AllPairs B pairs
  pub slots : Slots T pairs
  pub untold : (p : ℕ) → pair_at B p ≡ true → get_or pairs (told_at p) 0 ≡ 0
  pub sums : SumBits B (64 * length B) bits

-- ---- what is found in it
-- p is the place of the last pair with the sum s
pub record LastPair (B : List ℕ) (s p : ℕ) : Type 0 where
  pub pair : pair_at B p ≡ true
  pub sum : sum_at B p ≡ s
  pub last : (q : ℕ) → pair_at B q ≡ true → sum_at B q ≡ s → q ≤ p

-- that place, or none where no pair has the sum
abbrev pub FindsSum : List ℕ → ℕ → Option ℕ → Type 0
FindsSum B s (Some p) = LastPair B s p
FindsSum B s None = (q : ℕ) → pair_at B q ≡ true → sum_at B q ≡ s → ⊥

-- some pair with the sum s has v or more at the place where it is told
pub record ToldSum (B : List ℕ) (s v : ℕ) (pairs : List ℕ) : Type 0 where
  pub p : ℕ
  pub pair : pair_at B p ≡ true
  pub sum : sum_at B p ≡ s
  pub told : v ≤ get_or pairs (told_at p) 0

-- pairs' is pairs, where 1 may have come to be told of the sum s
pub record Marked (B : List ℕ) (s : ℕ) (pairs pairs' : List ℕ) : Type 0 where
  pub long : length pairs' ≡ length pairs
  pub rest : (q : ℕ) → 6144 ≤ q → get_or pairs' q 0 ≡ get_or pairs q 0
  pub index : AllPairs B pairs → AllPairs B pairs'
  pub done : (q : ℕ) → pair_at B q ≡ true → 1 ≤ get_or pairs' (told_at q) 0
      → (1 ≤ get_or pairs (told_at q) 0) ⊎ (sum_at B q ≡ s)
  pub met : (q : ℕ) → pair_at B q ≡ true → 2 ≤ get_or pairs' (told_at q) 0 → 2 ≤ get_or pairs (told_at q) 0

-- what is known of a sum that is looked at for its products: they were put in, or from now on it is told that they were
pub record DoneBefore (B : List ℕ) (s : ℕ) (pairs : List ℕ) (r : Bool) (pairs' : List ℕ) : Type 0 where
  pub before : r ≡ true → ToldSum B s 1 pairs
  pub same : r ≡ true → pairs' ≡ pairs
  pub marked : r ≡ false → Marked B s pairs pairs'
