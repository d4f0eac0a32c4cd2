-- What the chain hands on: a problem that was read and joined, and what became of two certificates for it.
use Rattle.std.specs.Prelude.{◌≡◌, Bool, false, cond, List, ℕ, eqb, ℤ, drop, Result, Ok, Err}
use Rattle.format.specs.ProblemRules.{Problem}
use Rattle.joining_rule.specs.Joining.{closing, block_total}
use Rattle.accepting.specs.Judgement.{judge}
use Rattle.format.specs.declared.certificate.Header.{Header}
use Rattle.calls.specs.Tables.{table_length}
use Rattle.calls.specs.Outcome.{Outcome, refused, given}
use Rattle.calls.specs.Checks.{problem_of}
use Rattle.calls.specs.declared.Refusal.{Refusal}
use Rattle.flat.specs.Flat.{FlatLimits}
use Rattle.closure.specs.declared.Joined.{Joined}
use Rattle.certificate_judge.specs.Steps.{JoinedProblem, judged_of}
use Rattle.problem_judge.specs.declared.TwoJudged.{TwoJudged}

-- ---- the problem
-- the stream gives a problem, which stands in the arrays with its blocks
pub record Prepares (s : List ℕ) (j : Joined) (keys : List ℕ) (coefficients : List ℤ)
    (sizes labels table idx : List ℕ) : Type 0 where
  pub problem : Problem
  pub gives : problem_of false s ≡ given problem
  pub joined : JoinedProblem problem keys coefficients sizes labels table j.len idx
  pub rounds : j.rounds ≡ (closing problem).rounds
  pub blocks : j.blocks ≡ block_total problem

-- what a stream leaves, in a table t that becomes t': its refusal, or such a problem
pub record PreparedLeft (s : List ℕ) (r : Result Joined Refusal) (keys : List ℕ) (coefficients : List ℤ)
    (sizes labels t t' idx : List ℕ) : Type 0 where
  pub limits : FlatLimits keys coefficients sizes
  pub refuses : (f : Refusal) → r ≡ Err f → problem_of false s ≡ refused f
  pub ready : (j : Joined) → r ≡ Ok j → Prepares s j keys coefficients sizes labels t' idx
  pub rest : drop table_length t' ≡ drop table_length t

-- ---- the certificates
abbrev pub both_refused : Refusal → TwoJudged
both_refused f = record { first = Err f; second = Err f; rounds = 0; rule = 0 }

-- the second of a pair, stream 2, is looked at only where the first was accepted
abbrev pub ends_with : ℕ → Result Header Refusal → Bool
ends_with stream (Err f) = eqb stream 2
ends_with stream (Ok t) = false

-- a is what became of the first, and b of the second where it is looked at
abbrev pub both_judged : ℕ → ℕ → Bool → Result Header Refusal → Result Header Refusal → TwoJudged
both_judged rounds rule ends a b = record { first = a; second = cond ends a b; rounds = rounds; rule = rule }

unfoldable pub two_of : ℕ → Problem → List ℕ → List ℕ → TwoJudged
two_of stream p first second =
    let a = judged_of 1 (judge p first) in
    both_judged (closing p).rounds p.rule (ends_with stream a) a (judged_of stream (judge p second))

abbrev pub two_in : ℕ → Outcome Problem → List ℕ → List ℕ → TwoJudged
two_in stream (refused f) first second = both_refused f
two_in stream (given p) first second = two_of stream p first second

-- for all inputs: short where a lent table is too short, s the problem stream
abbrev pub two_judged : ℕ → Bool → List ℕ → List ℕ → List ℕ → TwoJudged
two_judged stream short s first second = two_in stream (problem_of short s) first second
