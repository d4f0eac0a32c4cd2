use Rattle.std.proofs.Common.{◌≡◌, ◌-◌, ◌≤◌, true}
use Rattle.format.specs.ProblemRules.{Problem}
use Rattle.flat.specs.Flat.{FlatProblem}
use Rattle.calls.specs.Adjusted.{square_key, boxed_to}
use Rattle.adjusted_bound.proofs.are_boxed.Given as goal

-- the variables before i have a box, and the square is that of variable i
abbrev pub invariant-loop-i : goal.invariant-loop-i
invariant-loop-i l =
    (1 ≤ l.i)
    × ((l.i ≤ l.fn.n)
    × ((l.square ≡ square_key l.i)
    × ((p : Problem) → FlatProblem p l.fn.keys l.fn.coefficients l.fn.sizes → boxed_to (l.i - 1) p.conditions ≡ true)))
