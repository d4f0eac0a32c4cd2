-- A box in the arrays that hold a problem.
use Rattle.std.specs.Prelude.{Bool, not, ◌&&◌, List, ℕ, ℤ}
use Rattle.flat.specs.Flat.{polynomial_in, equality_in}
use Rattle.calls.specs.Adjusted.{is_one_minus_square}

-- whether g_j is an inequality, and exactly 1 − x_i²
abbrev pub box_in : ℕ → List ℕ → List ℤ → List ℕ → ℕ → Bool
box_in i keys coefficients sizes j =
    not (equality_in sizes j) && is_one_minus_square i (polynomial_in keys coefficients sizes j)
