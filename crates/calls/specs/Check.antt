-- What the check returns, for all inputs.
use Rattle.std.specs.Prelude.{Bool, List, ℕ}
use Rattle.format.specs.ProblemRules.{Problem}
use Rattle.joining_rule.specs.Joining.{closing}
use Rattle.calls.specs.Fractions.{fraction, none}
use Rattle.calls.specs.declared.Fraction.{Fraction}
use Rattle.format.specs.declared.certificate.Header.{Header}
use Rattle.calls.specs.declared.Refusal.{Refusal}
use Rattle.calls.specs.declared.CheckVerdict.{CheckVerdict}
use Rattle.calls.specs.Refusals.{no_refusal}
use Rattle.calls.specs.Outcome.{Outcome, given, ◌then◌, told}
use Rattle.calls.specs.Checks.{problem_of, certificate_of}

-- "A refusal .. returns number, stream .., place and key; all other fields are 0"
abbrev pub refused_check : Refusal → CheckVerdict
refused_check r = record { refusal = r; side = 0; bound = none; rounds = 0; rule = 0 }

-- the bound that a certificate states, p/q
abbrev pub bound_of : Header → Fraction
bound_of t = fraction t.p t.q

-- "Check (problem, certificate): side, p, q, rounds", and "the rule used"
abbrev pub accepted_check : Header → ℕ → ℕ → CheckVerdict
accepted_check t rounds rule =
    record { refusal = no_refusal; side = t.side; bound = bound_of t; rounds = rounds; rule = rule }

-- "the first certificate by commands likewise; 8 by rows; 9"
abbrev pub check_for : Problem → List ℕ → Outcome CheckVerdict
check_for p t = certificate_of 1 p t then λ c. given (accepted_check c.header (closing p).rounds p.rule)

-- "Order: 1; the problem by commands ..; 7"
unfoldable pub check_verdict : Bool → List ℕ → List ℕ → CheckVerdict
check_verdict short s t = told refused_check (problem_of short s then λ p. check_for p t)
