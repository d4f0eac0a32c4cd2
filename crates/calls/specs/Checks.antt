-- The checks that the calls have in common, in document 01's order: "1; the problem by commands, each checked 3, 2, 4,
-- 5, 6; 7; the first certificate by commands likewise; 8 by rows; 9; the second certificate the same; 10".
use Rattle.std.specs.Prelude.{Bool, List, ℕ}
use Rattle.format.specs.ProblemRules.{Problem, read_problem}
use Rattle.format.specs.CertificateRules.{Certificate}
use Rattle.joining_rule.specs.Joining.{too_large}
use Rattle.accepting.specs.Judgement.{judge}
use Rattle.calls.specs.Refusals.{problem_refusal}
use Rattle.calls.specs.Outcome.{Outcome, given, ◌then◌, refuse_if, of_stream, of_judgement}

-- "1; the problem by commands ..; 7": short where something lent is too short, s the stream
unfoldable pub problem_of : Bool → List ℕ → Outcome Problem
problem_of short s =
    refuse_if short (problem_refusal 1 0)
    (of_stream 0 (read_problem s) then λ p. refuse_if (too_large p) (problem_refusal 7 0) (given p))

-- "the first certificate by commands likewise; 8 by rows; 9", and "the second certificate the same": of the stream with
-- this number
abbrev pub certificate_of : ℕ → Problem → List ℕ → Outcome Certificate
certificate_of stream p t = of_judgement stream (judge p t)
