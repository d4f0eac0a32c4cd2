-- What the steps of a call hand on: a problem with its blocks, and what became of one certificate.
use Rattle.std.specs.Prelude.{◌≡◌, List, ℕ, ◌≤◌, ℤ, length, drop, Option, Some, None, Result, Ok, Err}
use Rattle.format.specs.ProblemRules.{Problem}
use Rattle.format.proofs.WithinLimits.{Limits}
use Rattle.format.specs.declared.certificate.Header.{Header}
use Rattle.joining_rule.specs.Bytes.{block_bytes}
use Rattle.joining_rule.specs.Joining.{closing}
use Rattle.accepting.specs.Judgement.{Judgement, compared_keys}
use Rattle.accepting.specs.Judgement as J
use Rattle.calls.specs.Tables.{table_length}
use Rattle.calls.specs.Refusals.{certificate_refusal}
use Rattle.calls.specs.declared.Refusal.{Refusal}
use Rattle.flat.specs.Flat.{FlatProblem}
use Rattle.key_set.specs.Table.{keys_in, Holds, Indexed}

-- a problem within its limits in its arrays; its blocks; and the compared keys, the first n numbers of a table in some
-- order, with their index
pub record JoinedProblem (p : Problem) (keys : List ℕ) (coefficients : List ℤ) (sizes labels table : List ℕ) (n : ℕ)
    (idx : List ℕ) : Type 0 where
  pub limits : Limits p
  pub flat : FlatProblem p keys coefficients sizes
  pub labels_are : labels ≡ block_bytes (closing p).state.labels
  pub holds : Holds table n
  pub compared : keys_in n table ≡ compared_keys p
  pub index : Indexed idx table n

-- such arrays, whatever the problem is
pub record Judgeable (keys : List ℕ) (coefficients : List ℤ) (sizes labels table : List ℕ) (n : ℕ) (idx : List ℕ) :
    Type 0 where
  pub problem : Problem
  pub joined : JoinedProblem problem keys coefficients sizes labels table n idx

-- the tables of sums are long enough
pub record LongSums (high low : List ℤ) : Type 0 where
  pub high_long : table_length ≤ length high
  pub low_long : table_length ≤ length low

-- and what a step leaves of them from place 2,048 on
pub record SumsRest (high low high' low' : List ℤ) : Type 0 where
  pub high_rest : drop table_length high' ≡ drop table_length high
  pub low_rest : drop table_length low' ≡ drop table_length low

-- what is kept of a judgement: the header, or a refusal of this stream
abbrev pub judged_of : ℕ → Judgement → Result Header Refusal
judged_of stream (J.refused number place key) = Err (certificate_refusal stream number place key)
judged_of stream (J.accepted c) = Ok c.header

-- refusal 9 with its key, or the header
abbrev pub judged_from : ℕ → Header → Option ℕ → Result Header Refusal
judged_from stream t (Some key) = Err (certificate_refusal stream 9 0 key)
judged_from stream t None = Ok t
