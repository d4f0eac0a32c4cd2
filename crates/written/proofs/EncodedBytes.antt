-- The encoders write bytes. So a problem is legal exactly if some stream of bytes gives it.
use mathlib.Core.List.{List, [], ◌∷◌, ◌++◌, flat_map}
use Prim.Native.Nat.{ℕ, zero, suc, ◌/◌, ◌%◌, ◌≤◌}
use native.Mathlib.Omega.{arith}
use Rattle.counting.specs.Counting.{Bounded}
use Rattle.format.specs.Layouts.{line}
use Rattle.format.specs.declared.problem.Instruction.{Instruction as ProblemInstruction}
use Rattle.format.specs.declared.problem.Instruction.TheVariants as P
use Rattle.format.specs.declared.certificate.Instruction.{Instruction as CertificateInstruction}
use Rattle.format.specs.declared.certificate.Instruction.TheVariants as I
use Rattle.format.specs.ProblemRules.{Problem}
use Rattle.format.specs.CertificateRules.{Certificate}
use Rattle.calls.specs.Report.{little_endian}
use Rattle.written.specs.Bytes.{Operand, operand_number, operand_bytes, command_bytes}
use Rattle.written.specs.ProblemWritten.{problem_bytes, problem_stream, in_stream, encode_problem}
use Rattle.written.specs.CertificateWritten.{certificate_bytes, certificate_stream, encode_certificate}

abbrev Bytes : List ℕ → Type 0
Bytes s = Bounded 255 s

none_bytes : Bytes []
none_bytes x = omega arith

more_bytes : (b : ℕ) (s : List ℕ) → b ≤ 255 → Bytes s → Bytes (b ∷ s)
more_bytes b s h k zero = h
more_bytes b s h k (suc x) = k x

append_bytes : (s t : List ℕ) → Bytes s → Bytes t → Bytes (s ++ t)
append_bytes [] t h k = k
append_bytes (b ∷ s) t h k = more_bytes b (s ++ t) (h 0) (append_bytes s t (λ x. h (suc x)) k)

number_bytes : (w x : ℕ) → Bytes (little_endian w x)
number_bytes zero x = none_bytes
number_bytes (suc w) x = more_bytes (x % 256) (little_endian w (x / 256)) (omega arith) (number_bytes w (x / 256))

operand_bytes_lem : (ws : List ℕ) (os : List Operand) → Bytes (operand_bytes ws os)
unfolding operand_bytes
operand_bytes_lem [] os = none_bytes
operand_bytes_lem (w ∷ ws) [] = none_bytes
operand_bytes_lem (w ∷ ws) (o ∷ os) =
    append_bytes (little_endian w (operand_number w o)) (operand_bytes ws os) (number_bytes w (operand_number w o))
    (operand_bytes_lem ws os)

command_bytes_lem : (b : ℕ) (ws : List ℕ) (os : List Operand) → b ≤ 255 → Bytes (command_bytes (line b ws) os)
unfolding command_bytes
command_bytes_lem b ws os h = more_bytes b (operand_bytes ws os) h (operand_bytes_lem ws os)

module _ {A : Type 0} (f : A → List ℕ) (each : (a : A) → Bytes (f a)) where
  all_bytes : (l : List A) → Bytes (flat_map f l)
  unfolding flat_map
  all_bytes [] = none_bytes
  all_bytes (a ∷ l) = append_bytes (f a) (flat_map f l) (each a) (all_bytes l)

problem_command_lem : (x : ProblemInstruction) → Bytes (problem_bytes x)
unfolding problem_bytes
problem_command_lem (P.Variables n) = command_bytes_lem _ _ _ (omega arith)
problem_command_lem (P.Objective k c) = command_bytes_lem _ _ _ (omega arith)
problem_command_lem P.Inequality = command_bytes_lem _ _ _ (omega arith)
problem_command_lem (P.Term k c) = command_bytes_lem _ _ _ (omega arith)
problem_command_lem (P.Member j k) = command_bytes_lem _ _ _ (omega arith)
problem_command_lem P.End = command_bytes_lem _ _ _ (omega arith)
problem_command_lem P.Equality = command_bytes_lem _ _ _ (omega arith)
problem_command_lem (P.Rule r) = command_bytes_lem _ _ _ (omega arith)
problem_command_lem (P.Order k) = command_bytes_lem _ _ _ (omega arith)

certificate_command_lem : (x : CertificateInstruction) → Bytes (certificate_bytes x)
unfolding certificate_bytes
certificate_command_lem (I.Header side d p q) = command_bytes_lem _ _ _ (omega arith)
certificate_command_lem (I.Row j w) = command_bytes_lem _ _ _ (omega arith)
certificate_command_lem (I.Entry n l) = command_bytes_lem _ _ _ (omega arith)
certificate_command_lem I.End = command_bytes_lem _ _ _ (omega arith)
certificate_command_lem (I.EqualityRow j w) = command_bytes_lem _ _ _ (omega arith)
certificate_command_lem (I.WideEntry n l) = command_bytes_lem _ _ _ (omega arith)

pub problem_bytes_lem : (p : Problem) → Bounded 255 (encode_problem p)
unfolding encode_problem in_stream problem_stream
problem_bytes_lem p = all_bytes problem_bytes problem_command_lem _

pub certificate_bytes_lem : (p : Problem) (c : Certificate) → Bounded 255 (encode_certificate p c)
unfolding encode_certificate certificate_stream
certificate_bytes_lem p c = all_bytes certificate_bytes certificate_command_lem _
