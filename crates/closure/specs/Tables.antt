-- What the functions that compute the joining rule ask of their arrays and leave in the lent ones.
use Rattle.std.specs.Prelude.{◌≡◌, List, ℕ, ltb, ℤ, length, drop, Result, IfOk, is_err}
use Rattle.flat.specs.Flat.{objective_number, FlatLimits}
use Rattle.key_set.specs.Table.{keys_in, Indexed}
use Rattle.key_set.specs.declared.Full.{Full}
use Rattle.joining_rule.specs.Rounds.{Bases, Closing, blocks_in, counted_keys}
use Rattle.joining_rule.specs.Bytes.{block_bytes}
use Rattle.joining_rule.specs.Joining.{start_from, most_keys}
use Rattle.joining_bases.specs.Parts.{exponents_in, bases_in}
use Rattle.closure.specs.declared.Joined.{Joined}

-- arrays that a problem within the limits can stand in, whatever its coefficients are: the joining rule does not look
-- at them
pub record FlatKeys (keys sizes : List ℕ) : Type 0 where
  pub coefficients : List ℤ
  pub limits : FlatLimits keys coefficients sizes

-- the start of S, by the places of the arrays
abbrev pub start_in : List ℕ → List ℕ → List ℕ
start_in keys sizes = start_from (exponents_in keys sizes objective_number) (bases_in keys sizes)

-- what is left where the rounds end in o: the table t' holds the closed S with all in-block products and the zero
-- exponent, idx' is its index, and l' has the block numbers, unless it has more than 2,048 members
pub record ClosureLeft (g : Bases) (o : Closing) (t : List ℕ) (r : Result Joined Full) (t' idx' l' : List ℕ) : Type 0 where
  pub full : is_err r ≡ ltb most_keys (length (counted_keys g o.state))
  pub labels : IfOk r (λ _. l' ≡ block_bytes o.state.labels)
  pub rounds : IfOk r (λ j. j.rounds ≡ o.rounds)
  pub blocks : IfOk r (λ j. j.blocks ≡ blocks_in o.state.labels)
  pub len : IfOk r (λ j. j.len ≡ length (counted_keys g o.state))
  pub keys : IfOk r (λ j. keys_in j.len t' ≡ counted_keys g o.state)
  pub index : IfOk r (λ j. Indexed idx' t' j.len)
  pub long : length t' ≡ length t
  pub rest : drop 2048 t' ≡ drop 2048 t
