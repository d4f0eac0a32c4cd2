-- What the joining rule's result means: closed, least, and the number of rounds, which "are judged by the named rule";
-- and at a sparse order k how many rounds are done, and where the closure is full nevertheless.
use Rattle.std.specs.Prelude.{◌≡◌, Bool, true, List, ℕ, ◌+◌, ◌-◌, ◌≤◌, ◌<◌, min, length, get_or}
use Rattle.joining_rule.specs.Sets.{In}
use Rattle.joining_rule.specs.Rounds.{Bases, adding_bases, after, start}

-- t + b + b', for the indices i and k of basis j
abbrev pub sum_of : Bases → ℕ → ℕ → ℕ → ℕ → ℕ
sum_of g j i k t = t + (get_or (g.basis j) i 0 + get_or (g.basis j) k 0)

-- i and k are indices of basis j, and t is an exponent of its multiplier
pub record Pair (g : Bases) (j i k t : ℕ) : Type 0 where
  pub basis : j < 9
  pub first : i < length (g.basis j)
  pub second : k < length (g.basis j)
  pub exponent : In t (g.multiplier j)

-- blocks, label j i for index i of basis j, and a set S that contain the start S₀ and are closed under the steps of a
-- round: every basis joins, and those add that the rule names
pub record Closed (rule : ℕ) (g : Bases) (S₀ : List ℕ) (label : ℕ → ℕ → ℕ) (S : List ℕ) : Type 0 where
  pub starts : (x : ℕ) → In x S₀ → In x S
  pub joins : (j i k t : ℕ) → Pair g j i k t → In (sum_of g j i k t) S → label j i ≡ label j k
  pub adds : (j i k t : ℕ) → j < adding_bases rule → Pair g j i k t → label j i ≡ label j k → In (sum_of g j i k t) S

-- "any other blocks and set that contain the start and are closed under these steps": R j i k where i and k of basis j
-- are in one block, Q x where x is in the set
pub record Other (rule : ℕ) (g : Bases) (S₀ : List ℕ) (R : ℕ → ℕ → ℕ → Type 0) (Q : ℕ → Type 0) : Type 0 where
  pub reflexive : (j i : ℕ) → R j i i
  pub symmetric : (j i k : ℕ) → R j i k → R j k i
  pub transitive : (j i k l : ℕ) → R j i k → R j k l → R j i l
  pub starts : (x : ℕ) → In x S₀ → Q x
  pub joins : (j i k t : ℕ) → Pair g j i k t → Q (sum_of g j i k t) → R j i k
  pub adds : (j i k t : ℕ) → j < adding_bases rule → Pair g j i k t → R j i k → Q (sum_of g j i k t)

-- ".. have unions of these blocks and contain this S"
pub record Contained (g : Bases) (label : ℕ → ℕ → ℕ) (S : List ℕ) (R : ℕ → ℕ → ℕ → Type 0) (Q : ℕ → Type 0)
    : Type 0 where
  pub blocks : (j i k : ℕ) → j < 9 → i < length (g.basis j) → k < length (g.basis j) → label j i ≡ label j k → R j i k
  pub set : (x : ℕ) → In x S → Q x

-- "Least": contained in every other blocks and set that tests give. A contract's clause cannot speak of all relations;
-- proofs/Meaning.antt has the same for any relation and any set (`LeastOfAny`, `closing_least`), and proofs/Only.antt
-- that what is least by this definition is so among all of them (`least_of_any`).
pub record Least (rule : ℕ) (g : Bases) (S₀ : List ℕ) (label : ℕ → ℕ → ℕ) (S : List ℕ) : Type 0 where
  pub within : (R : ℕ → ℕ → ℕ → Bool) (Q : ℕ → Bool)
      → Other rule g S₀ (λ j i k. R j i k ≡ true) (λ x. Q x ≡ true)
      → Contained g label S (λ j i k. R j i k ≡ true) (λ x. Q x ≡ true)

-- "A block's number is its lowest index"
pub record Lowest (g : Bases) (label : ℕ → ℕ → ℕ) : Type 0 where
  pub within : (j i : ℕ) → j < 9 → i < length (g.basis j) → label j i < length (g.basis j)
  pub own : (j i : ℕ) → j < 9 → i < length (g.basis j) → label j (label j i) ≡ label j i
  pub lowest : (j i : ℕ) → j < 9 → i < length (g.basis j) → label j i ≤ i

-- "until one changes neither a block nor S; that one counts too": round r is the first that changes nothing
pub record TakesRounds (rule : ℕ) (g : Bases) (S₀ : List ℕ) (r : ℕ) : Type 0 where
  pub some : 1 ≤ r
  pub still : after rule g (start g S₀) r ≡ after rule g (start g S₀) (r - 1)
  pub first : (k : ℕ) → 1 ≤ k → k < r → after rule g (start g S₀) k ≡ after rule g (start g S₀) (k - 1) → ⊥

-- "Leaving it out keeps full closure", and so does an order k that ends nothing: all rounds are made that the rule
-- takes, or all but the last, which changes nothing. The order is 0 without 09
pub data FullClosure (rule k : ℕ) (g : Bases) (S₀ : List ℕ) : Type 0 where
  without : k ≡ 0 → FullClosure rule k g S₀
  reached : (r : ℕ) → TakesRounds rule g S₀ r → r ≤ k + 1 → FullClosure rule k g S₀

-- "Reported rounds are those done, so also at most k": the number that the rule takes, or k where that is smaller
pub record RoundsDone (rule k : ℕ) (g : Bases) (S₀ : List ℕ) (done : ℕ) : Type 0 where
  pub full : ℕ
  pub takes : TakesRounds rule g S₀ full
  pub all : k ≡ 0 → done ≡ full
  pub smaller : 0 < k → done ≡ min k full
