-- How things stand with one basis while it joins, and what a joining by some pairs of indices leaves. T, B and L are as
-- in Join.antt of joining_rule.
use Rattle.std.specs.Prelude.{◌≡◌, true, List, ℕ, ◌-◌, ◌*◌, ◌≤◌, ◌<◌, length, get_or, take, drop, Result, Ok, Err}
use Rattle.joining_rule.specs.Sets.{different}
use Rattle.joining_rule.proofs.Numbered.{Numbered}
use Rattle.joining_rule.proofs.FullSets.{Full}
use Rattle.key_set.specs.declared.Full.{Full as TooMany}
use Rattle.key_set.specs.Table.{keys_in, Stored}
use Rattle.round_laws.specs.Joins.{Has, Joins, WithSum, Recent}
use Rattle.round_laws.specs.Added.{Within}
use Rattle.round_laws.specs.Lists.{Lists}
use Rattle.round_laws.specs.Fits.{SumBits}
use Rattle.joining_pairs.specs.Limits.{ForBasis}
use Rattle.joining_pairs.specs.Pairs.{pair_at, sum_at, told_at}
use Rattle.joining_products.specs.Adding.{plain, DoneTold, WithIndex}
use Rattle.joining_blocks.specs.declared.Reach.{Reach}

-- the five arrays that change, and how far the joining is
pub record Standing : Type 0 where
  pub labels : List ℕ
  pub follow : List ℕ
  pub pairs : List ℕ
  pub table : List ℕ
  pub index : List ℕ
  pub reach : Reach

abbrev pub standing : List ℕ → List ℕ → List ℕ → List ℕ → List ℕ → Reach → Standing
standing labels follow pairs table index reach =
    record { labels = labels; follow = follow; pairs = pairs; table = table; index = index; reach = reach }

-- how far a joining came from r on; one that had no room for a key would have 2,049
abbrev pub reached : Reach → Result Reach TooMany → Reach
reached r (Ok r') = r'
reached r (Err f) = record r { len = 2049 }

-- the support: all of it, and what the joining looks at
abbrev pub support : Standing → List ℕ
support s = keys_in s.reach.len s.table

abbrev pub looked_at : Standing → List ℕ
looked_at s = keys_in s.reach.until s.table

-- the members that came after the first a of b
abbrev pub latest : List ℕ → ℕ → ℕ → List ℕ
latest t a b = take (b - a) (drop a t)

-- the blocks are lists in the order of Lists.antt of round_laws
pub record BlockLists (n : ℕ) (L follow : List ℕ) : Type 0 where
  pub size : length L ≡ n
  pub long : length follow ≡ 64
  pub few : n ≤ 64
  pub numbered : Numbered L
  pub lists : Lists follow L

-- of a sum of which it is told, all pairs are in one block
pub record MetTold (B L pairs : List ℕ) : Type 0 where
  pub at : (p : ℕ) → pair_at B p ≡ true → 2 ≤ get_or pairs (told_at p) 0 → Has (WithSum B (sum_at B p)) (length B) L

-- all is in order
pub record Ready (T B : List ℕ) (s : Standing) : Type 0 where
  pub basis : ForBasis s.table s.index s.reach.len T B
  pub blocks : BlockLists (length B) s.labels s.follow
  pub count : s.reach.blocks ≡ different s.labels
  pub since : s.reach.since ≤ s.reach.until
  pub until : s.reach.until ≤ s.reach.len
  pub full : s.reach.adds ≡ true → Full T B s.labels (support s)
  pub index : WithIndex T B s.pairs
  pub done : s.reach.adds ≡ true → plain < length B → DoneTold T B (support s) s.pairs
  pub met : plain < length B → MetTold B s.labels s.pairs
  pub bits : plain < length B → SumBits B (64 * length B) s.reach.bits

-- what does not change
pub record SameReach (r r' : Reach) : Type 0 where
  pub since : r'.since ≡ r.since
  pub until : r'.until ≡ r.until
  pub bits : r'.bits ≡ r.bits
  pub adds : r'.adds ≡ r.adds

-- where the support is not too large: the blocks of every two indices in P were made one, and no others
pub record JoinedBy (T B : List ℕ) (P : ℕ → ℕ → Type 0) (s s' : Standing) : Type 0 where
  pub joins : Joins P (length B) s.labels s'.labels
  pub ready : Ready T B s'

-- what a joining by the pairs P leaves: the support has become `set`, of products of pairs that come into one block
pub record Grew (T B : List ℕ) (P : ℕ → ℕ → Type 0) (s s' : Standing) : Type 0 where
  pub set : List ℕ
  pub stored : Stored s.reach.len set s.table s'.reach.len s'.table s'.index
  pub within : Within s.reach.adds P T B s.labels (support s) set
  pub same : SameReach s.reach s'.reach
  pub fits : s'.reach.len ≤ 2048 → JoinedBy T B P s s'

-- what a joining by the members that came last asks: all else that is linked is joined already
pub record JoiningAsks (T B : List ℕ) (s : Standing) : Type 0 where
  pub ready : Ready T B s
  pub recent : Recent (looked_at s) T B s.labels (latest s.table s.reach.since s.reach.until)
