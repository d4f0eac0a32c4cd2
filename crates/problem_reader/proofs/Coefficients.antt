-- How large the coefficients are that a stream of bytes gives: a signed operand by its width.
use mathlib.Core.List.{List}
use Prim.Native.Nat.{ℕ, ◌+◌, ◌^◌, ◌≤◌}
use lib.IntN.{nat_abs}
use Rattle.counting.specs.Counting.{Bounded}
use Rattle.format.specs.ProblemLayout.{problem_decoded}
use Rattle.format.specs.ProblemRules.{Problem, problem_command_at}
use Rattle.format.specs.declared.problem.Command.{Command}
use Rattle.format.specs.declared.problem.Command.TheVariants as C
use Rattle.format.specs.declared.problem.Instruction.{Instruction}
use Rattle.format.specs.declared.problem.Instruction.TheVariants as I
use Rattle.format.proofs.Numbers.{operand_small}
use Rattle.problem_commands.proofs.Checks.{Passes}

-- the size of a command's coefficient
abbrev pub Sized : Instruction → Type 0
Sized (I.Variables n) = Unit {0}
Sized (I.Objective k c) = nat_abs c ≤ 2 ^ 31
Sized I.Inequality = Unit {0}
Sized (I.Term k c) = nat_abs c ≤ 2 ^ 15
Sized (I.Member j k) = Unit {0}
Sized I.End = Unit {0}
Sized I.Equality = Unit {0}
Sized (I.Rule r) = Unit {0}
Sized (I.Order k) = Unit {0}

module _ (s : List ℕ) (bytes : Bounded 255 s) where
  decoded_small : (w : Command) (at : ℕ) → Sized (problem_decoded w s at)
  decoded_small C.Variables at = tt
  decoded_small C.Objective at = operand_small s bytes 4 (at + 9)
  decoded_small C.Inequality at = tt
  decoded_small C.Term at = operand_small s bytes 2 (at + 9)
  decoded_small C.Member at = tt
  decoded_small C.End at = tt
  decoded_small C.Unknown at = tt
  decoded_small C.Equality at = tt
  decoded_small C.Rule at = tt
  decoded_small C.Order at = tt

  pub passed_small : {p : Problem} {at after : ℕ} {i : Instruction} → Passes p s at i after → Sized i
  passed_small {at = at} t = rw t.instruction at (decoded_small (problem_command_at s at) at)
