-- Points of an ordered ring, and what a bound and a gap mean there. Of the real numbers this says what Bounds.antt says
-- of rational ones.
use Rattle.std.specs.Prelude.{◌≡◌, List, ℕ, ℤ, pos, length}
use Rattle.ordered_rings.specs.Rings.{OrderedRing, whole}
use Rattle.polynomial.specs.RingPoint.{value_in}
use Rattle.format.specs.declared.problem.Kind.{Kind}
use Rattle.format.specs.declared.problem.Kind.TheVariants as K
use Rattle.format.specs.ProblemRules.{Condition, Problem}
use Rattle.format.specs.All.{All}

module _ {A : Type 0} (R : OrderedRing A) where
  open R use {ring, order}
  open ring use {𝟘, 𝟙, ◌+◌, -◌, ◌*◌}
  open order use {◌≤◌}

  -- what a condition asks of its value: "the inequalities are at least 0 and the equalities are 0"
  unfoldable pub MeetsIn : Kind → A → Type 0
  MeetsIn K.Inequality v = 𝟘 ≤ v
  MeetsIn K.Equality v = v ≡ 𝟘

  -- an allowed point: n numbers of the ring at which every condition is met
  pub record AllowedIn (p : Problem) (x : List A) : Type 0 where
    pub coordinates : length x ≡ p.variables
    pub conditions : All (λ (g : Condition). MeetsIn g.kind (value_in ring x g.terms)) p.conditions

  -- n/q ≤ value: q × value − n is at least 0, at every allowed point
  unfoldable pub BoundedBelowIn : Problem → ℤ → ℕ → Type 0
  BoundedBelowIn p n q =
      (x : List A) → AllowedIn p x → 𝟘 ≤ whole ring (pos q) * value_in ring x p.objective + - whole ring n

  -- value ≤ n/q: n − q × value is at least 0, at every allowed point
  unfoldable pub BoundedAboveIn : Problem → ℤ → ℕ → Type 0
  BoundedAboveIn p n q =
      (x : List A) → AllowedIn p x → 𝟘 ≤ whole ring n + - (whole ring (pos q) * value_in ring x p.objective)

  -- the values at two allowed points differ by at most n/q: their difference, times q, is at most n, whichever of the
  -- two points is taken first
  unfoldable pub WithinGapIn : Problem → ℤ → ℕ → Type 0
  WithinGapIn p n q =
      (x y : List A) → AllowedIn p x → AllowedIn p y
      → (value_in ring x p.objective + - value_in ring y p.objective) * whole ring (pos q) ≤ whole ring n

  -- no point is allowed
  unfoldable pub EmptyIn : Problem → Type 0
  EmptyIn p = (x : List A) → AllowedIn p x → ⊥

  -- 0 < 1
  unfoldable pub ZeroBelowOne : Type 0
  ZeroBelowOne = 𝟙 ≤ 𝟘 → ⊥
