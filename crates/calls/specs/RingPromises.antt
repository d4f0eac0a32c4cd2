-- What an accepted certificate or pair says over an ordered ring, of its problem p and the bounds that it returns. A
-- contract's clause cannot speak of all rings; proofs/RingChecks.antt, RingPairs.antt, RingReports.antt and
-- RingSums.antt have this for each of them, from what the clauses of the calls give.
use Rattle.std.specs.Prelude.{◌≡◌, true, List, ℕ, pos}
use Rattle.std.specs.Int.Signed.{lt_z}
use Rattle.ordered_rings.specs.Rings.{OrderedRing, whole}
use Rattle.polynomial.specs.RingPoint.{value_in}
use Rattle.format.specs.All.{All}
use Rattle.format.specs.Commands.{given}
use Rattle.format.specs.ProblemRules.{Problem, read_problem}
use Rattle.accepting.specs.RingBounds.{AllowedIn, BoundedBelowIn, BoundedAboveIn, WithinGapIn, EmptyIn, ZeroBelowOne}
use Rattle.calls.specs.declared.Fraction.{Fraction}
use Rattle.calls.specs.declared.ReportVerdict.{ReportVerdict}
use Rattle.calls.specs.Fractions.{gap_of}
use Rattle.calls.specs.Report.{pair_on, WhereReported}

-- one certificate: its bound holds by its side, "side 0 lower, 1 upper"
pub record SideHoldsIn {A : Type 0} (R : OrderedRing A) (p : Problem) (side : ℕ) (bound : Fraction) : Type 0 where
  pub lower : side ≡ 0 → BoundedBelowIn R p bound.num bound.den
  pub upper : side ≡ 1 → BoundedAboveIn R p bound.num bound.den

-- a pair
pub record HoldsIn {A : Type 0} (R : OrderedRing A) (p : Problem) (lower upper : Fraction) : Type 0 where
  pub below : BoundedBelowIn R p lower.num lower.den
  pub above : BoundedAboveIn R p upper.num upper.den
  pub gap : WithinGapIn R p (gap_of lower upper).num (gap_of lower upper).den
  -- where the gap's numerator is below 0, no point is allowed
  pub empty : lt_z (gap_of lower upper).num (pos 0) ≡ true → ZeroBelowOne R → EmptyIn R p

-- a report: "Any accepted objective at its own points is within those two"
unfoldable pub WithinBoundsIn : {A : Type 0} → OrderedRing A → List ℕ → ReportVerdict → Type 0
WithinBoundsIn R s v =
    WhereReported s v.refusal.number
    (All (λ r.
    (pair_on r).refusal.number ≡ 0 → (p : Problem) → read_problem r.problem ≡ given p
    → BoundedBelowIn R p v.lower.num v.lower.den × BoundedAboveIn R p v.upper.num v.upper.den))

-- an accepted call on two problems p and q (request 12), and the sums that it returns: the region is one,
-- and there the sum of the two objectives is between the sums
module _ {A : Type 0} (R : OrderedRing A) where
  open R use {ring, order}
  open ring use {𝟘, ◌+◌, -◌, ◌*◌}
  open order use {◌≤◌}

  pub record SumHoldsIn (p q : Problem) (lower upper : Fraction) : Type 0 where
    pub region : (x : List A) → (AllowedIn R p x → AllowedIn R q x) × (AllowedIn R q x → AllowedIn R p x)
    pub below : (x : List A) → AllowedIn R p x
        → 𝟘 ≤ whole ring (pos lower.den) * (value_in ring x p.objective + value_in ring x q.objective)
        + - whole ring lower.num
    pub above : (x : List A) → AllowedIn R p x
        → 𝟘 ≤ whole ring upper.num
        + - (whole ring (pos upper.den) * (value_in ring x p.objective + value_in ring x q.objective))
