-- Points of a problem, and what a bound and a gap mean there.
use Rattle.std.specs.Prelude.{◌≡◌, ℕ, ◌*◌, ◌^◌, ◌≤◌, ℤ, pos, ◌*ℤ◌, ◌-ℤ◌, length, ◌≤ℤ◌}
use Rattle.polynomial.specs.Point.{Point, value}
use Rattle.format.specs.declared.problem.Kind.{Kind}
use Rattle.format.specs.declared.problem.Kind.TheVariants as K
use Rattle.format.specs.ProblemRules.{Condition, Problem}
use Rattle.format.specs.All.{All}

-- what a condition asks of its value: "the inequalities are at least 0 and the equalities are 0"
unfoldable pub Meets : Kind → ℤ → Type 0
Meets K.Inequality v = pos 0 ≤ℤ v
Meets K.Equality v = v ≡ pos 0

-- "A point is allowed when every constraint's scaled value is at least 0": n numerators over one c ≥ 1, and conditions
-- by c^16. "An allowed point of the third demand is from here on one where the inequalities are at least 0 and the
-- equalities are 0"
pub record Allowed (p : Problem) (a : Point) : Type 0 where
  pub denominator : 1 ≤ a.denominator
  pub coordinates : length a.numerators ≡ p.variables
  pub conditions : All (λ (g : Condition). Meets g.kind (value a 16 g.terms)) p.conditions

-- V: "Scaled by c^32 the objective's value is a whole number V"
abbrev pub objective_value : Problem → Point → ℤ
objective_value p a = value a 32 p.objective

-- c^32
abbrev pub objective_scale : Point → ℕ
objective_scale a = a.denominator ^ 32

-- "p/q ≤ value is p × c^32 ≤ q × V", at every allowed point
unfoldable pub BoundedBelow : Problem → ℤ → ℕ → Type 0
BoundedBelow p x q = (a : Point) → Allowed p a → (x *ℤ pos (objective_scale a)) ≤ℤ (pos q *ℤ objective_value p a)

-- "value ≤ P/Q is Q × V ≤ P × c^32", at every allowed point
unfoldable pub BoundedAbove : Problem → ℤ → ℕ → Type 0
BoundedAbove p x q = (a : Point) → Allowed p a → (pos q *ℤ objective_value p a) ≤ℤ (x *ℤ pos (objective_scale a))

-- "The values at two allowed points are V over c^32, each with its own V and c; the larger less the smaller is at most
-- the gap, by cross products": V/c^32 − V'/c'^32 ≤ x/y, whichever of the two points is taken first
unfoldable pub WithinGap : Problem → ℤ → ℕ → Type 0
WithinGap p x y =
    (a b : Point) → Allowed p a → Allowed p b
    → ((objective_value p a *ℤ pos (objective_scale b) -ℤ objective_value p b *ℤ pos (objective_scale a)) *ℤ pos y)
    ≤ℤ (x *ℤ pos (objective_scale a * objective_scale b))
