-- What the call on changes says over an ordered ring: its bound holds there too. A contract's clause cannot speak of
-- all rings; proofs/RingAdjusted.antt has this for each of them, from what the clause `accepted` gives.
use Rattle.std.specs.Prelude.{List, ◌++◌, ℕ, ℤ, pos}
use Rattle.ordered_rings.specs.Rings.{OrderedRing, whole}
use Rattle.polynomial.specs.Terms.{Term}
use Rattle.polynomial.specs.RingPoint.{value_in}
use Rattle.format.specs.ProblemRules.{Problem}
use Rattle.accepting.specs.RingBounds.{AllowedIn}

module _ {A : Type 0} (R : OrderedRing A) where
  open R use {ring, order}
  open ring use {𝟘, ◌+◌, -◌, ◌*◌}
  open order use {◌≤◌}

  -- n/q ≤ value: q × value − n is at least 0 at every allowed point, of the objective with the changes in l added
  unfoldable pub ChangedBelowIn : Problem → List Term → ℤ → ℕ → Type 0
  ChangedBelowIn p l n q =
      (x : List A) → AllowedIn R p x
      → 𝟘 ≤ whole ring (pos q) * value_in ring x (p.objective ++ l) + - whole ring n
