-- The encoders, on streams of the samples with every command: what each gives is written by the same bytes.
use mathlib.Core.Path.{◌≡◌, refl}
use mathlib.Core.List.{List, [], ◌∷◌, ◌++◌, map, flat_map}
use Prim.Native.Nat.{ℕ}
use Rattle.format.specs.Commands.{Outcome, refused, given}
use Rattle.format.specs.ProblemRules.{Problem, read_problem}
use Rattle.format.specs.CertificateRules.{read_certificate}
use Rattle.calls.specs.Report.{unsigned}
use Rattle.written.specs.Bytes.{operand_number, operand_bytes, command_bytes}
use Rattle.written.specs.ProblemWritten.{problem_bytes, problem_stream, objective_commands, term_commands, condition_commands, basis_commands, in_stream, encode_problem}
use Rattle.written.specs.CertificateWritten.{certificate_bytes, certificate_stream, entry_command, entry_commands, row_commands, encode_certificate}
use Rattle.samples.proofs.Computing.{judging}
use Rattle.samples.specs.Streams.{rule, order, problem_a, problem_c, problem_d, problem_f_with, problem_f, problem_equal, problem_wide, low_f, high_f, low_equal, high_equal, certificate_a, certificate_wide}

-- what is read, written again
abbrev written_by : {A : Type 0} → (A → List ℕ) → Outcome A → Outcome (List ℕ)
written_by f (refused n at) = refused n at
written_by f (given a) = given (f a)

abbrev problem_again : List ℕ → Outcome (List ℕ)
problem_again s = written_by encode_problem (read_problem s)

-- a certificate, against the problem of a stream
abbrev against : List ℕ → Outcome Problem → Outcome (List ℕ)
against c (refused n at) = refused n at
against c (given p) = written_by (encode_certificate p) (read_certificate p c)

abbrev certificate_again : List ℕ → List ℕ → Outcome (List ℕ)
certificate_again p c = against c (read_problem p)

-- "Case F is 01 01 | 02 01 0⁷ ..", and the others: 01 to 09
abbrev problems : List (List ℕ)
problems =
    problem_a
    ∷ problem_c
    ∷ problem_d
    ∷ problem_f
    ∷ problem_f_with (rule 2)
    ∷ problem_f_with (order 3)
    ∷ problem_f_with (rule 2 ++ order 3)
    ∷ problem_equal
    ∷ problem_wide
    ∷ []

pub problems_again : map problem_again problems ≡ map given problems
unfolding judging flat_map unsigned operand_number operand_bytes command_bytes problem_bytes problem_stream objective_commands term_commands condition_commands basis_commands in_stream encode_problem
problems_again = refl

-- 10 to 15
pub certificates_again :
    certificate_again problem_a certificate_a
    ∷ certificate_again problem_f low_f
    ∷ certificate_again problem_f high_f
    ∷ certificate_again problem_equal low_equal
    ∷ certificate_again problem_equal high_equal
    ∷ certificate_again problem_wide certificate_wide
    ∷ []
    ≡ map given (certificate_a ∷ low_f ∷ high_f ∷ low_equal ∷ high_equal ∷ certificate_wide ∷ [])
unfolding judging flat_map unsigned operand_number operand_bytes command_bytes certificate_bytes certificate_stream entry_command entry_commands row_commands encode_certificate
certificates_again = refl
