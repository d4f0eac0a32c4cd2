-- The sparse order that a problem stream names, and streams that differ in it alone.
use Rattle.std.specs.Prelude.{cond, List, [], ◌∷◌, ◌++◌, ℕ, eqb, get_or}
use Rattle.format.specs.declared.problem.Command.TheVariants as C
use Rattle.format.specs.ProblemLayout.{problem_unsigned}
use Rattle.format.specs.ProblemRules.{order_place}

-- "Problem command 09 k(u8), from 1 to 255, stands directly after 01 or 08": the k, and 0 where no 09 stands there
unfoldable pub order_named : List ℕ → ℕ
order_named s = cond (eqb (get_or s (order_place s) 0) 0x09) (problem_unsigned C.Order 0 s (order_place s)) 0

-- what stands before a 09: 01 n, or 01 n and 08 r
pub data Beginning : List ℕ → Type 0 where
  after_variables : (n : ℕ) → Beginning (0x01 ∷ n ∷ [])
  after_rule : (n r : ℕ) → Beginning (0x01 ∷ n ∷ 0x08 ∷ r ∷ [])

-- a stream with a beginning, 09 k and a rest; the beginning and the rest alone are the same with the 09 left out
abbrev pub ordered : List ℕ → ℕ → List ℕ → List ℕ
ordered b k rest = b ++ (0x09 ∷ k ∷ rest)
