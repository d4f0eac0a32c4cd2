-- What an accepted certificate bounds over every ordered ring, and what two bounds say there.
use mathlib.Core.Path.{◌≡◌, sym, ◌∙◌}
use mathlib.Core.List.{List}
use Prim.Native.Nat.{ℕ, suc, ◌*◌ as ◌*ℕ◌, ◌≤◌ as ◌≤ℕ◌}
use native.Mathlib.Omega.{arith}
use lib.ListN.{length}
use lib.IntN.{ℤ, pos, negsuc, neg_ℤ, ◌*ℤ◌, ◌-ℤ◌}
use Rattle.ordered_rings.specs.Rings.{Order, OrderedRing, whole}
use Rattle.ordered_rings.proofs.Laws.{zero-+, zero-*, *-minus}
use Rattle.ordered_rings.proofs.Numbers.{numbers, sum_kept, product_kept, whole_minus}
use Rattle.ordered_rings.proofs.AtLeastZero.{Nonneg, nonneg_one, nonneg_cancel, ≤-of_minus}
use Rattle.polynomial.specs.RingPoint.{powers_in, value_in}
use Rattle.polynomial.proofs.RingValues.{multiplies_in, powers_none_in}
use Rattle.format.specs.ProblemRules.{Problem}
use Rattle.format.proofs.WithinLimits.{Limits}
use Rattle.format.specs.CertificateRules.{Certificate}
use Rattle.accepting.specs.Judgement.{Accepted}
use Rattle.accepting.specs.RingBounds.{AllowedIn, BoundedBelowIn, BoundedAboveIn, WithinGapIn, EmptyIn, ZeroBelowOne}
use Rattle.accepting.proofs.Bounds.{lower_nonneg, upper_nonneg, cross}
use Rattle.accepting.proofs.Accepted.{sound, weighted}

module _ {A : Type 0} (R : OrderedRing A) where
  open R use {ring, order}
  open ring use {𝟘, 𝟙, ◌+◌, -◌, ◌*◌, +-minus, *-one}

  -- ---- an accepted certificate's bound holds at every allowed point
  module _ (p : Problem) (limits : Limits p) (s : List ℕ) (c : Certificate) (a : Accepted p s c) where
    few : (x : List A) → AllowedIn R p x → length x ≤ℕ 8
    few x h = let v = limits.variables.1 in let n = h.coordinates in omega arith

    -- the value of 1 is 1, and at least 0
    unit : (x : List A) → Nonneg ring order (powers_in ring x 0)
    unit x = rw (powers_none_in ring x) (nonneg_one ring order)

    -- side 0: q × value − p is at least 0
    pub accepted_below_in : c.header.side ≡ 0 → BoundedBelowIn R p c.header.p c.header.q
    unfolding BoundedBelowIn value_in
    accepted_below_in side x h =
        rw (powers_none_in ring x, *-one) at (lower_nonneg (numbers ring) order p limits (λ d. powers_in ring x)
        (multiplies_in ring x (few x h)) (unit x) h.conditions c (sound p limits s c a).scale
        (weighted p limits s c a) a.identity side)

    -- side 1: p − q × value is at least 0
    pub accepted_above_in : c.header.side ≡ 1 → BoundedAboveIn R p c.header.p c.header.q
    unfolding BoundedAboveIn value_in
    accepted_above_in side x h =
        rw (powers_none_in ring x, *-one) at (upper_nonneg (numbers ring) order p limits (λ d. powers_in ring x)
        (multiplies_in ring x (few x h)) (unit x) h.conditions c (sound p limits s c a).scale
        (weighted p limits s c a) a.identity side)

  -- ---- "Its gap is (P × q − p × Q)/(Q × q)": the values at two allowed points are at most that apart
  gap_is : (x X q Q : ℤ)
      → whole ring (X *ℤ q -ℤ x *ℤ Q) ≡ whole ring X * whole ring q + - (whole ring x * whole ring Q)
  gap_is x X q Q =
      sum_kept ring (X *ℤ q) (neg_ℤ (x *ℤ Q))
      ∙ rw (product_kept ring X q, whole_minus (numbers ring) (x *ℤ Q), product_kept ring x Q)

  pub bounds_gap_in : (p : Problem) (x X : ℤ) (q Q : ℕ) → BoundedBelowIn R p x q → BoundedAboveIn R p X Q
      → WithinGapIn R p (X *ℤ pos q -ℤ x *ℤ pos Q) (Q *ℕ q)
  unfolding BoundedBelowIn BoundedAboveIn WithinGapIn
  bounds_gap_in p x X q Q below above a b ha hb =
      ≤-of_minus ring order _ _ (rw (gap_is x X (pos q) (pos Q), product_kept ring (pos Q) (pos q))
      (simp *-one at (cross (numbers ring) order (whole ring X) (whole ring x)
      (value_in ring a p.objective) (value_in ring b p.objective) 𝟙 𝟙 Q q
      (nonneg_one ring order) (nonneg_one ring order) (rw *-one (below b hb)) (rw *-one (above a ha)))))

  -- where the gap's numerator is below 0, no point is allowed: a point's value differs from itself by 0
  pub below_zero_empty_in : (p : Problem) (n q : ℕ) → WithinGapIn R p (negsuc n) q → ZeroBelowOne R → EmptyIn R p
  unfolding WithinGapIn ZeroBelowOne EmptyIn
  below_zero_empty_in p n q h z x g =
      z (≤-of_minus ring order 𝟙 𝟘 (rw (zero-+ ring) (nonneg_cancel (numbers ring) order (suc n) (- 𝟙) (omega arith)
      (rw (+-minus, zero-* ring, minus) at (h x x g g)))))
    where
      minus : whole ring (negsuc n) ≡ whole ring (pos (suc n)) * - 𝟙
      minus = whole_minus (numbers ring) (pos (suc n)) ∙ sym (rw (*-minus ring, *-one))
