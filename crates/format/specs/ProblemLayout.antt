-- The problem stream's commands and their layouts.
use Rattle.std.specs.Prelude.{List, [], ◌∷◌, ℕ, ℤ}
use Rattle.format.specs.Layouts.{E, u8, i16, i32, Layout, line, none, length_of, unsigned_operand, signed_operand, command_named}
use Rattle.format.specs.declared.problem.Command.{Command}
use Rattle.format.specs.declared.problem.Command.TheVariants as C
use Rattle.format.specs.declared.problem.Instruction.{Instruction}
use Rattle.format.specs.declared.problem.Instruction.TheVariants as I

-- the layouts, line by line
abbrev pub problem_layout : Command → Layout
-- "01 n(u8): number of variables"
problem_layout C.Variables = line 0x01 (u8 ∷ [])
-- "02 E c(i32): objective term"
problem_layout C.Objective = line 0x02 (E ∷ i32 ∷ [])
-- "03: begins the next constraint"
problem_layout C.Inequality = line 0x03 []
-- "04 E c(i16): term of the constraint begun last"
problem_layout C.Term = line 0x04 (E ∷ i16 ∷ [])
-- "05 j(u8) E: next monomial of basis j"
problem_layout C.Member = line 0x05 (u8 ∷ E ∷ [])
-- "06: end"
problem_layout C.End = line 0x06 []
-- "Problem command 07 begins an equality"
problem_layout C.Equality = line 0x07 []
-- "Problem command 08 rule(u8)"
problem_layout C.Rule = line 0x08 (u8 ∷ [])
-- "Problem command 09 k(u8)"
problem_layout C.Order = line 0x09 (u8 ∷ [])
problem_layout C.Unknown = none

abbrev pub problem_commands : List Command
problem_commands =
    C.Variables
    ∷ C.Objective
    ∷ C.Inequality
    ∷ C.Term
    ∷ C.Member
    ∷ C.End
    ∷ C.Equality
    ∷ C.Rule
    ∷ C.Order
    ∷ []

-- the command that a byte names
unfoldable pub problem_command : ℕ → Command
problem_command b = command_named problem_layout C.Unknown problem_commands b

-- a command's length; 0 of what is no command
abbrev pub problem_size : Command → ℕ
problem_size k = length_of (problem_layout k)

-- operand i of a command at an offset, by its layout
abbrev pub problem_unsigned : Command → ℕ → List ℕ → ℕ → ℕ
problem_unsigned k i s at = unsigned_operand (problem_layout k) i s at

abbrev pub problem_signed : Command → ℕ → List ℕ → ℕ → ℤ
problem_signed k i s at = signed_operand (problem_layout k) i s at

-- a command with its operands, at an offset
abbrev pub problem_decoded : Command → List ℕ → ℕ → Instruction
problem_decoded C.Variables s at = I.Variables (problem_unsigned C.Variables 0 s at)
problem_decoded C.Objective s at = I.Objective (problem_unsigned C.Objective 0 s at) (problem_signed C.Objective 1 s at)
problem_decoded C.Inequality s at = I.Inequality
problem_decoded C.Term s at = I.Term (problem_unsigned C.Term 0 s at) (problem_signed C.Term 1 s at)
problem_decoded C.Member s at = I.Member (problem_unsigned C.Member 0 s at) (problem_unsigned C.Member 1 s at)
problem_decoded C.End s at = I.End
problem_decoded C.Equality s at = I.Equality
problem_decoded C.Rule s at = I.Rule (problem_unsigned C.Rule 0 s at)
problem_decoded C.Order s at = I.Order (problem_unsigned C.Order 0 s at)
problem_decoded C.Unknown s at = I.End
