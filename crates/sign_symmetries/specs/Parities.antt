-- The parity bytes of a problem's exponents, gathered in an array, and a mask held against bytes.
use Rattle.std.specs.Prelude.{◌≡◌, Bool, true, ◌&&◌, List, [], ◌∷◌, map, ℕ, ◌≤◌, ℤ, length, take}
use Rattle.format.specs.Commands.{given}
use Rattle.format.specs.ProblemRules.{Problem, read_problem}
use Rattle.flat.specs.Flat.{FlatProblem}
use Rattle.calls.specs.Symmetries.{parity_byte, ones_in_common, is_even, exponents_of}

-- whether a mask has an even number of ones in common with each byte of a list
unfoldable pub even_all : ℕ → List ℕ → Bool
even_all r [] = true
even_all r (b ∷ bs) = is_even (ones_in_common r b) && even_all r bs

-- the first n bytes are the parity bytes of the exponents of the problem that stands in the arrays
pub record Gathered (keys sizes : List ℕ) (n : ℕ) (bytes : List ℕ) : Type 0 where
  pub few : n ≤ 512
  pub long : length bytes ≡ 512
  pub parities : (p : Problem) (coefficients : List ℤ) → FlatProblem p keys coefficients sizes
      → take n bytes ≡ map parity_byte (exponents_of p)

-- a stream that gives a problem
pub record GivesProblem (s : List ℕ) : Type 0 where
  pub problem : Problem
  pub read : read_problem s ≡ given problem
