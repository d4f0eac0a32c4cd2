-- What the pair returns, for all inputs.
use Rattle.std.specs.Prelude.{Bool, false, not, List, ℕ, eqb}
use Rattle.format.specs.ProblemRules.{Problem}
use Rattle.joining_rule.specs.Joining.{closing}
use Rattle.calls.specs.Fractions.{none, gap_of, is_negative, unless_negative}
use Rattle.format.specs.declared.certificate.Header.{Header}
use Rattle.calls.specs.declared.Refusal.{Refusal}
use Rattle.calls.specs.declared.PairVerdict.{PairVerdict}
use Rattle.calls.specs.Refusals.{no_refusal, certificate_refusal}
use Rattle.calls.specs.Outcome.{Outcome, given, ◌then◌, refuse_if, told}
use Rattle.calls.specs.Checks.{problem_of, certificate_of}
use Rattle.calls.specs.Check.{bound_of}

-- "all other fields are 0": there is no mark
abbrev pub refused_pair : Refusal → PairVerdict
refused_pair r = record { refusal = r; lower = none; upper = none; gap = none; empty = false; rounds = 0; rule = 0 }

-- "Pair: both bounds, gap, rounds", and "the rule used"; "The pair now marks a negative gap as "empty", with 0 in both
-- gap fields in place of document 01's gap"
abbrev pub accepted_pair : Header → Header → ℕ → ℕ → PairVerdict
accepted_pair t u rounds rule =
    let gap = gap_of (bound_of t) (bound_of u) in
    record {
      refusal = no_refusal;
      lower = bound_of t;
      upper = bound_of u;
      gap = unless_negative gap;
      empty = is_negative gap;
      rounds = rounds;
      rule = rule;
    }

-- refusal 10: "first side not 0 or second not 1"; "the first wrong stream"
unfoldable pub pair_sides : Header → Header → ℕ → ℕ → Outcome PairVerdict
pair_sides t u rounds rule =
    refuse_if (not (eqb t.side 0)) (certificate_refusal 1 10 0 0)
    (refuse_if (not (eqb u.side 1)) (certificate_refusal 2 10 0 0) (given (accepted_pair t u rounds rule)))

-- "the first certificate by commands likewise; 8 by rows; 9; the second certificate the same; 10"
abbrev pub pair_for : Problem → List ℕ → List ℕ → Outcome PairVerdict
pair_for p low high =
    certificate_of 1 p low then λ c.
    certificate_of 2 p high then λ d. pair_sides c.header d.header (closing p).rounds p.rule

-- "Order: 1; the problem by commands ..; 7"
unfoldable pub pair_verdict : Bool → List ℕ → List ℕ → List ℕ → PairVerdict
pair_verdict short s low high = told refused_pair (problem_of short s then λ p. pair_for p low high)
