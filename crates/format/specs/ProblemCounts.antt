-- "N is the number of 05 commands in the problem, and B the number of different j that they name."
use Rattle.std.specs.Prelude.{Bool, false, cond, ◌&&◌, ◌||◌, List, [], ◌∷◌, ℕ, ◌+◌, eqb, get_or}
use Rattle.counting.specs.Counting.{sum_to}
use Rattle.format.specs.Commands.{commands}
use Rattle.format.specs.declared.problem.Command.TheVariants as C
use Rattle.format.specs.ProblemLayout.{problem_unsigned}
use Rattle.format.specs.ProblemLimits.{most_bases}
use Rattle.format.specs.ProblemRules.{problem_language}

unfoldable pub count_if : (ℕ → Bool) → List ℕ → ℕ
count_if test [] = 0
count_if test (x ∷ xs) = cond (test x) 1 0 + count_if test xs

unfoldable pub any_of : (ℕ → Bool) → List ℕ → Bool
any_of test [] = false
any_of test (x ∷ xs) = test x || any_of test xs

-- whether the command at an offset is an 05, and whether it is one that names j
abbrev pub is_member : List ℕ → ℕ → Bool
is_member s at = eqb (get_or s at 0) 0x05

abbrev pub names : List ℕ → ℕ → ℕ → Bool
names s j at = is_member s at && eqb (problem_unsigned C.Member 0 s at) j

-- N
unfoldable pub member_commands : List ℕ → ℕ
member_commands s = count_if (is_member s) (commands problem_language s)

-- B
unfoldable pub bases_named : List ℕ → ℕ
bases_named s = sum_to most_bases (λ j. cond (any_of (names s j) (commands problem_language s)) 1 0)
