-- What the clause `accepted` of the call on two problems says over every ordered ring.
use mathlib.Core.Path.{◌≡◌, refl, ◌∙◌}
use mathlib.Core.Bool.{Bool}
use mathlib.Core.List.{List}
use Prim.Native.Nat.{ℕ, ◌*◌ as ◌*ℕ◌}
use lib.IntN.{ℤ, pos, ◌+ℤ◌, ◌*ℤ◌}
use Rattle.ordered_rings.specs.Rings.{OrderedRing, whole}
use Rattle.ordered_rings.proofs.Numbers.{numbers, sum_kept, product_kept}
use Rattle.polynomial.specs.RingPoint.{value_in}
use Rattle.format.specs.Commands.{given}
use Rattle.format.specs.ProblemRules.{Problem, read_problem}
use Rattle.accepting.specs.RingBounds.{AllowedIn, BoundedBelowIn, BoundedAboveIn}
use Rattle.calls.specs.declared.SumVerdict.{SumVerdict}
use Rattle.calls.specs.RingPromises.{SumHoldsIn}
use Rattle.calls.specs.AddedBounds.{Streams, SameRegion, SumStated}
use Rattle.calls.proofs.Regions.{region_back}
use Rattle.calls.proofs.RingPairs.{stated_in}
use Rattle.calls.proofs.BoundsAdded.{added_below, added_above}

module _ {A : Type 0} (R : OrderedRing A) where
  open R use {ring, order}
  open ring use {𝟘, 𝟙, ◌+◌, -◌, ◌*◌, *-one}
  open order use {◌≤◌}

  region_in : {p q : Problem} → SameRegion p q → (x : List A) → AllowedIn R p x → AllowedIn R q x
  region_in r x h = record {
    coordinates = h.coordinates ∙ r.variables;
    conditions = rw r.conditions at h.conditions;
  }

  -- the numerator of a sum
  sum_is : (x x' y y' : ℤ)
      → whole ring (x *ℤ y' +ℤ x' *ℤ y) ≡ whole ring x * whole ring y' + whole ring x' * whole ring y
  sum_is x x' y y' = sum_kept ring (x *ℤ y') (x' *ℤ y) ∙ rw (product_kept ring x y', product_kept ring x' y)

  module _ (p q : Problem) (x x' : ℤ) (y y' : ℕ) (a : List A) (h : AllowedIn R p a) (k : AllowedIn R q a) where
    abbrev added : A
    added = value_in ring a p.objective + value_in ring a q.objective

    sum_below_in : BoundedBelowIn R p x y → BoundedBelowIn R q x' y'
        → 𝟘 ≤ whole ring (pos (y *ℕ y')) * added + - whole ring (x *ℤ pos y' +ℤ x' *ℤ pos y)
    unfolding BoundedBelowIn
    sum_below_in below below' =
        rw (sum_is x x' (pos y) (pos y'), product_kept ring (pos y) (pos y'))
        (simp *-one at (added_below (numbers ring) order (whole ring x) (whole ring x') (value_in ring a p.objective)
        (value_in ring a q.objective) 𝟙 y y' (rw *-one (below a h)) (rw *-one (below' a k))))

    sum_above_in : BoundedAboveIn R p x y → BoundedAboveIn R q x' y'
        → 𝟘 ≤ whole ring (x *ℤ pos y' +ℤ x' *ℤ pos y) + - (whole ring (pos (y *ℕ y')) * added)
    unfolding BoundedAboveIn
    sum_above_in above above' =
        rw (sum_is x x' (pos y) (pos y'), product_kept ring (pos y) (pos y'))
        (simp *-one at (added_above (numbers ring) order (whole ring x) (whole ring x') (value_in ring a p.objective)
        (value_in ring a q.objective) 𝟙 y y' (rw *-one (above a h)) (rw *-one (above' a k))))

-- For every ordered ring, the sums that are returned hold over the ring at every point of the one region.
pub sum_stated_in : {A : Type 0} (R : OrderedRing A) (short : Bool) (a b : Streams) (v : SumVerdict)
    → (t : SumStated short a b v) → SumHoldsIn R t.first.problem t.second.problem v.lower v.upper
sum_stated_in R short a b v t =
    let first = rw (t.first.lower, t.first.upper) at (stated_in R _ _ _ _ t.first _ t.first.read) in
    let second = rw (t.second.lower, t.second.upper) at (stated_in R _ _ _ _ t.second _ t.second.read) in
    let there = region_in R t.region in
    rw (t.lower, t.upper) (record {
      region = λ x. (there x, region_in R (region_back t.region) x);
      below = λ x h. sum_below_in R _ _ _ _ _ _ x h (there x h) first.below second.below;
      above = λ x h. sum_above_in R _ _ _ _ _ _ x h (there x h) first.above second.above;
    })
