-- The five checks of a command. The first two, 3 and 2, need one number of what was read before it; 4 is the rule of
-- its operands; the last two, 5 and 6, need the one list that grows.
use Rattle.std.specs.Prelude.{true, false, List, ℕ, ◌+◌, leb, length, take, drop}
use Rattle.format.specs.Commands.{first_refusal}
use Rattle.polynomial.specs.Monomial.{among}
use Rattle.format.specs.declared.problem.Instruction.{Instruction}
use Rattle.format.specs.ProblemLayout.{problem_size}
use Rattle.format.specs.ProblemRules.{Problem, problem_placed, problem_repeated, problem_full, problem_command_at}

-- the number of the first of 3 and 2 that fails, or 0
unfoldable pub early : Problem → List ℕ → ℕ → ℕ
early p s at =
    first_refusal (problem_placed p s at (problem_command_at s at))
    (leb (at + problem_size (problem_command_at s at)) (length s)) true false false

-- the number of the first of 5 and 6 that fails, or 0
abbrev pub late : Problem → Instruction → ℕ
late p i = first_refusal true true true (problem_repeated p i) (problem_full p i)

-- the same of a key and a list that may have `limit` keys and has the `count` that stand in an array from a place on
abbrev pub late_in : List ℕ → ℕ → ℕ → ℕ → ℕ → ℕ
late_in keys from count key limit =
    first_refusal true true true (among key (take count (drop from keys))) (leb limit count)
