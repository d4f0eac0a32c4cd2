-- The verdicts, from what became of the certificates.
use Rattle.std.specs.Prelude.{ℕ, Result, Ok, Err}
use Rattle.calls.specs.Outcome.{Outcome, refused, given, ◌then◌, told}
use Rattle.calls.specs.Check.{refused_check, accepted_check}
use Rattle.calls.specs.Pair.{refused_pair, pair_sides}
use Rattle.calls.specs.declared.CheckVerdict.{CheckVerdict}
use Rattle.calls.specs.declared.PairVerdict.{PairVerdict}
use Rattle.calls.specs.declared.Refusal.{Refusal}
use Rattle.format.specs.declared.certificate.Header.{Header}
use Rattle.problem_judge.specs.declared.TwoJudged.{TwoJudged}

-- what a step answers, as the outcome of a check
abbrev pub outcome_of : {A : Type 0} → Result A Refusal → Outcome A
outcome_of (Ok a) = given a
outcome_of (Err f) = refused f

abbrev pub check_from : Result Header Refusal → ℕ → ℕ → CheckVerdict
check_from (Err f) rounds rule = refused_check f
check_from (Ok t) rounds rule = accepted_check t rounds rule

abbrev pub pair_both : Result Header Refusal → Result Header Refusal → ℕ → ℕ → Outcome PairVerdict
pair_both a b rounds rule = outcome_of a then λ t. outcome_of b then λ u. pair_sides t u rounds rule

abbrev pub pair_from : TwoJudged → PairVerdict
pair_from two = told refused_pair (pair_both two.first two.second two.rounds two.rule)
