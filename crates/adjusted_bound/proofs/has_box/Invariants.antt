-- `has_box`: the conditions one by one, up to the first that is a box.
use Rattle.std.proofs.Common.{◌≡◌, ℕ}
use Rattle.format.specs.ProblemRules.{Problem}
use Rattle.flat.specs.Flat.{FlatProblem}
use Rattle.calls.specs.Adjusted.{square_key}
use Rattle.adjusted_bound.proofs.Searched.{Searched}
use Rattle.adjusted_bound.proofs.has_box.Given as goal

abbrev pub invariant-loop-j : goal.invariant-loop-j
invariant-loop-j l =
    (p : Problem) → FlatProblem p l.keys l.coefficients l.sizes → (i : ℕ) → l.square ≡ square_key i → Searched i p.conditions l.j
