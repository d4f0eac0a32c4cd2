-- `same_conditions`: the conditions before number j are the same.
use Rattle.std.proofs.Common.{ℕ, suc, ◌+◌, ◌<◌}
use Rattle.format.specs.ProblemRules.{Problem}
use Rattle.flat.specs.Flat.{FlatProblem}
use Rattle.regions.specs.Compared.{SameCondition}
use Rattle.regions.proofs.same_conditions.Given as goal

abbrev pub invariant-loop-j : goal.invariant-loop-j
invariant-loop-j l =
    (p q : Problem) → FlatProblem p l.one.keys.now l.one.coefficients.now l.one.sizes.now
    → FlatProblem q l.other.keys.now l.other.coefficients.now l.other.sizes.now
    → (i : ℕ) → i + 1 < l.j → SameCondition p q (suc i)
