-- What the report's clause `summary` says over every ordered ring: every accepted objective is within the two bounds.
use mathlib.Core.Path.{◌≡◌, refl, sym, ◌∙◌}
use mathlib.Core.List.{List}
use Prim.Native.Nat.{ℕ, zero, suc}
use native.Mathlib.Omega.{arith}
use Rattle.ordered_rings.specs.Rings.{OrderedRing}
use Rattle.format.specs.All.{All}
use Rattle.format.specs.Commands.{given}
use Rattle.format.specs.ProblemRules.{Problem, read_problem}
use Rattle.format.proofs.All.{all_map}
use Rattle.accepting.specs.RingBounds.{BoundedBelowIn, BoundedAboveIn}
use Rattle.accepting.proofs.Reach.{all_both}
use Rattle.calls.specs.declared.ReportVerdict.{ReportVerdict}
use Rattle.calls.specs.RingPromises.{WithinBoundsIn}
use Rattle.calls.specs.Report.{Runs, pair_on, Summary, Summarised}
use Rattle.calls.proofs.FractionOrder.{bounded_below_in, bounded_above_in}
use Rattle.calls.proofs.RingPairs.{stated_in}
use Rattle.calls.proofs.Reports.{Accepted, stated, lower_positive, upper_positive, none_counted}

module _ {A : Type 0} (R : OrderedRing A) (v : ReportVerdict) (l : List Runs) (k : Summary v l) where
  abbrev BelowOf : Runs → Type 0
  BelowOf r =
      Accepted r → (p : Problem) → read_problem r.problem ≡ given p → BoundedBelowIn R p v.lower.num v.lower.den

  abbrev AboveOf : Runs → Type 0
  AboveOf r =
      Accepted r → (p : Problem) → read_problem r.problem ≡ given p → BoundedAboveIn R p v.upper.num v.upper.den

  within_in : All (λ r.
      Accepted r → (p : Problem) → read_problem r.problem ≡ given p
      → BoundedBelowIn R p v.lower.num v.lower.den × BoundedAboveIn R p v.upper.num v.upper.den) l
  within_in = go v.accepted refl
    where
      both : (r : Runs) → BelowOf r → AboveOf r → Accepted r → (p : Problem) → read_problem r.problem ≡ given p
          → BoundedBelowIn R p v.lower.num v.lower.den × BoundedAboveIn R p v.upper.num v.upper.den
      both r b u a p read = (b a p read, u a p read)

      go : (n : ℕ) → v.accepted ≡ n → All (λ r.
          Accepted r → (p : Problem) → read_problem r.problem ≡ given p
          → BoundedBelowIn R p v.lower.num v.lower.den × BoundedAboveIn R p v.upper.num v.upper.den) l
      go zero e = all_map _ _ (λ r h a. absurd (h a)) l (none_counted l (sym k.accepted ∙ e))
      go (suc n) e =
          all_both _ _ _ both l
          (all_map _ _ (λ r b a p read. bounded_below_in p (pair_on r).lower v.lower (lower_positive r a) R
          (stated_in R _ _ _ _ (stated r a) p read).below (b a)) l (k.lower (omega arith)).best)
          (all_map _ _ (λ r b a p read. bounded_above_in p (pair_on r).upper v.upper (upper_positive r a) R
          (stated_in R _ _ _ _ (stated r a) p read).above (b a)) l (k.upper (omega arith)).best)

-- For every ordered ring, each accepted objective at its own points is within the two bounds that are returned.
pub summarised_in : {A : Type 0} (R : OrderedRing A) (s : List ℕ) (v : ReportVerdict) → Summarised s v
    → WithinBoundsIn R s v
unfolding WithinBoundsIn
summarised_in R s v summary l read z = within_in R v l (summary l read z)
