-- What the rounds from their start to their end ask and leave, and what puts the missing products in.
use Rattle.std.specs.Prelude.{◌≡◌, List, ℕ, ◌≤◌, ◌<◌, length, Result, Ok, Err, IfOk}
use Rattle.key_set.specs.Table.{keys_in, Holds, Indexed, Stored}
use Rattle.key_set.specs.declared.Full.{Full}
use Rattle.joining_rule.specs.Rounds.{Closing, adding_bases, blocks_in}
use Rattle.joining_rule.specs.Bytes.{block_bytes}
use Rattle.joining_rule.proofs.Products.{AllFull}
use Rattle.joining_bases.specs.Parts.{bases_in, labels_in, Arrays}
use Rattle.joining_bases.specs.declared.Support.{Support}
use Rattle.joining_bases.specs.declared.Closed.{Closed}

-- the support in its table, with its index, and the bases in their arrays
pub record Supported (t idx : List ℕ) (len : ℕ) (keys sizes : List ℕ) : Type 0 where
  pub support : Holds t len
  pub index : Indexed idx t len
  pub arrays : Arrays keys sizes

-- what the rounds ask: at least one is made
pub record Starting (t idx : List ℕ) (s : Support) (keys sizes : List ℕ) : Type 0 where
  pub held : Supported t idx s.len keys sizes
  pub some : 0 < s.most

-- how many keys the support then has: 2,049 where it has too many
abbrev pub len_in : Result Closed Full → ℕ
len_in (Ok c) = c.len
len_in (Err f) = 2049

-- what they leave: the outcome o, where its S has at most 2,048 members
pub record Settled (o : Closing) (n : ℕ) (t : List ℕ) (r : Result Closed Full) (t' idx' l' : List ℕ) : Type 0 where
  pub stored : Stored n o.state.support t (len_in r) t' idx'
  pub few : IfOk r (λ c. c.len ≤ 2048)
  pub rounds : IfOk r (λ c. c.rounds ≡ o.rounds)
  pub blocks : IfOk r (λ c. c.blocks ≡ blocks_in o.state.labels)
  pub labels : IfOk r (λ c. l' ≡ block_bytes o.state.labels)

-- what is asked where the products of the bases that do not add may be missing: those of the others are there
pub record Missing (t idx : List ℕ) (s : Support) (keys sizes l : List ℕ) : Type 0 where
  pub held : Supported t idx s.len keys sizes
  pub long : length l ≡ 576
  pub full : AllFull (adding_bases s.rule) (bases_in keys sizes)
      (record { labels = labels_in sizes l; support = keys_in s.len t })
