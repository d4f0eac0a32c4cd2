-- How things stand with all nine bases in a round: for each basis as Standing.antt of joining_blocks says, by its pieces
-- of the arrays.
use Rattle.std.specs.Prelude.{◌≡◌, List, ℕ, ◌+◌, ◌≤◌, ◌<◌, ltb, length, get_or}
use Rattle.key_set.specs.Table.{keys_in, Stored}
use Rattle.joining_rule.specs.Rounds.{State}
use Rattle.flat.specs.Flat.{basis_in}
use Rattle.round_laws.specs.Joins.{Through, Recent}
use Rattle.round_laws.specs.Added.{Products}
use Rattle.joining_pairs.specs.Pairs.{PairsMade}
use Rattle.joining_products.specs.Adding.{plain}
use Rattle.joining_blocks.specs.Standing.{Standing, standing, latest, Ready, Grew, JoiningAsks}
use Rattle.joining_blocks.specs.declared.Reach.{Reach}
use Rattle.joining_bases.specs.Parts.{piece, exponents_in, bases_in, labels_at, labels_in, Arrays, PieceOnly, LabelsOnly, Others255, SingleBlocks, Room}
use Rattle.joining_bases.specs.declared.Stage.{Stage}

-- the six arrays that change, and how far the round is
pub record Nine : Type 0 where
  pub labels : List ℕ
  pub follow : List ℕ
  pub pairs : List ℕ
  pub table : List ℕ
  pub index : List ℕ
  pub state : List ℕ
  pub stage : Stage

abbrev pub nine : List ℕ → List ℕ → List ℕ → List ℕ → List ℕ → List ℕ → Stage → Nine
nine labels follow pairs table index state stage = record {
  labels = labels;
  follow = follow;
  pairs = pairs;
  table = table;
  index = index;
  state = state;
  stage = stage;
}

abbrev pub stage : ℕ → ℕ → ℕ → ℕ → Stage
stage since until len adding = record { since = since; until = until; len = len; adding = adding }

-- what is basis j's of them
abbrev pub reach_at : List ℕ → Stage → ℕ → Reach
reach_at state s j = record {
  since = s.since;
  until = s.until;
  len = s.len;
  blocks = get_or state j 0;
  bits = get_or state (9 + j) 0;
  adds = ltb j s.adding;
}

abbrev pub standing_at : List ℕ → Nine → ℕ → Standing
standing_at sizes s j =
    standing (labels_at sizes s.labels j) (piece 64 s.follow j) (piece 6240 s.pairs j) s.table s.index
    (reach_at s.state s.stage j)

-- the blocks when a round begins, and the support that its joinings look at
abbrev pub begun : List ℕ → Nine → State
begun sizes s =
    record { labels = labels_in sizes s.labels; support = keys_in s.stage.until s.table }

-- ---- the joining of basis j
-- what it asks
pub record AsksAt (keys sizes labels follow pairs t idx : List ℕ) (r : Reach) (j : ℕ) : Type 0 where
  pub arrays : Arrays keys sizes
  pub basis : j < 9
  pub long : length labels ≡ 576
  pub links : length follow ≡ 576
  pub room : Room sizes pairs
  pub joining : JoiningAsks (exponents_in keys sizes j) (basis_in keys sizes j)
      (standing (labels_at sizes labels j) (piece 64 follow j) (piece 6240 pairs j) t idx r)

-- what it leaves: the basis is joined by what the members before `until` link, and no other piece has changed
pub record JoinedAt (keys sizes labels follow pairs t idx : List ℕ) (r : Reach) (j : ℕ)
    (labels' follow' pairs' t' idx' : List ℕ) (r' : Reach) : Type 0 where
  pub grew : Grew (exponents_in keys sizes j) (basis_in keys sizes j)
      (Through (exponents_in keys sizes j) (basis_in keys sizes j) (keys_in r.until t))
      (standing (labels_at sizes labels j) (piece 64 follow j) (piece 6240 pairs j) t idx r)
      (standing (labels_at sizes labels' j) (piece 64 follow' j) (piece 6240 pairs' j) t' idx' r')
  pub other_labels : LabelsOnly sizes j labels labels'
  pub other_follow : PieceOnly 64 j follow follow'
  pub other_pairs : PieceOnly 6240 j pairs pairs'

-- ---- a round
-- every basis is in order
pub record AllReady (keys sizes : List ℕ) (s : Nine) : Type 0 where
  pub bytes : Others255 sizes s.labels
  pub links : length s.follow ≡ 576
  pub room : Room sizes s.pairs
  pub numbers : length s.state ≡ 18
  pub at : (j : ℕ) → j < 9 → Ready (exponents_in keys sizes j) (basis_in keys sizes j) (standing_at sizes s j)

-- what a round asks: the support has, beside the members before `until`, the products of the bases that add, and what
-- the members before `since` link is in one block already
pub record RoundAsks (keys sizes : List ℕ) (s : Nine) : Type 0 where
  pub arrays : Arrays keys sizes
  pub adding : s.stage.adding ≤ 9
  pub ready : AllReady keys sizes s
  pub products : Products s.stage.adding (bases_in keys sizes) (begun sizes s).labels (begun sizes s).support
      (keys_in s.stage.len s.table)
  pub recent : (j : ℕ) → j < 9
      → Recent (begun sizes s).support (exponents_in keys sizes j) (basis_in keys sizes j)
      (labels_at sizes s.labels j) (latest s.table s.stage.since s.stage.until)

-- what it leaves, where the table was t: the support of the state o, and its blocks, unless it has too many keys
pub record Rounded (keys sizes : List ℕ) (o : State) (n : ℕ) (t : List ℕ) (s : Nine) : Type 0 where
  pub stored : Stored n o.support t s.stage.len s.table s.index
  pub labels : s.stage.len ≤ 2048 → labels_in sizes s.labels ≡ o.labels
  pub ready : s.stage.len ≤ 2048 → AllReady keys sizes s

-- ---- before the first round
-- the pairs of every basis that is not small are noted, and nothing is told of them
pub record AllNoted (keys sizes pairs state : List ℕ) : Type 0 where
  pub room : Room sizes pairs
  pub at : (j : ℕ) → j < 9 → plain < get_or sizes j 0
      → PairsMade (exponents_in keys sizes j) (basis_in keys sizes j) (get_or state (9 + j) 0) (piece 6240 pairs j)

-- every index is a block of its own
pub record AllSingle (sizes labels follow state : List ℕ) : Type 0 where
  pub single : SingleBlocks sizes labels
  pub links : length follow ≡ 576
  pub last : (x : ℕ) → x < 576 → 64 ≤ get_or follow x 0
  pub numbers : length state ≡ 18
  pub counts : (j : ℕ) → j < 9 → get_or state j 0 ≡ get_or sizes j 0
