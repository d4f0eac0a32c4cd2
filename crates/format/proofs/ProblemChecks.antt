-- What follows from a command of the problem stream standing where it may.
use mathlib.Core.Path.{◌≡◌, refl}
use mathlib.Core.List.{List}
use mathlib.Core.Bool.{true}
use Prim.Native.Nat.{ℕ, ◌≤◌}
use native.Mathlib.Omega.{arith}
use borrow.Author.Tests.{eqb-true}
use Rattle.counting.proofs.Cases.{clash}
use Rattle.format.proofs.Lengths.{problem_byte}
use Rattle.format.specs.declared.problem.Command.{Command}
use Rattle.format.specs.declared.problem.Command.TheVariants as C
use Rattle.format.specs.declared.problem.Instruction.TheVariants as I
use Rattle.format.specs.ProblemLayout.{problem_command, problem_size, problem_decoded}
use Rattle.format.specs.ProblemRules.{Problem, problem_placed}

-- a command that stands somewhere has a byte, and 06 is the one that ends
pub placed_size : (p : Problem) (s : List ℕ) (at : ℕ) (k : Command) → problem_placed p s at k ≡ true → 1 ≤ problem_size k
placed_size p s at C.Variables h = omega arith
placed_size p s at C.Objective h = omega arith
placed_size p s at C.Inequality h = omega arith
placed_size p s at C.Term h = omega arith
placed_size p s at C.Member h = omega arith
placed_size p s at C.End h = omega arith
placed_size p s at C.Unknown h = clash (cc)
placed_size p s at C.Equality h = omega arith
placed_size p s at C.Rule h = omega arith
placed_size p s at C.Order h = omega arith

pub end_command : (p : Problem) (s : List ℕ) (at : ℕ) (k : Command) → problem_placed p s at k ≡ true → problem_decoded k s at ≡ I.End → k ≡ C.End
end_command p s at C.Variables h e = clash (cc)
end_command p s at C.Objective h e = clash (cc)
end_command p s at C.Inequality h e = clash (cc)
end_command p s at C.Term h e = clash (cc)
end_command p s at C.Member h e = clash (cc)
end_command p s at C.End h e = refl
end_command p s at C.Unknown h e = clash (cc)
end_command p s at C.Equality h e = clash (cc)
end_command p s at C.Rule h e = clash (cc)
end_command p s at C.Order h e = clash (cc)

pub end_byte : (b : ℕ) → problem_command b ≡ C.End → b ≡ 6
end_byte b h = eqb-true b 6 (problem_byte C.End b h (λ e. clash (cc)))
