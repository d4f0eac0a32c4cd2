-- What the clause `accepted` of the call on changes says over every ordered ring: the moved bound holds there too.
use mathlib.Core.Path.{◌≡◌, refl, ap₂, ◌∙◌}
use mathlib.Core.List.{List}
use Prim.Native.Nat.{ℕ, zero, suc, ◌*◌ as ◌*ℕ◌, ◌<◌}
use native.Mathlib.Omega.{arith}
use lib.Dec.{lit≤}
use lib.IntN.{ℤ, pos, ◌-ℤ◌}
use lib.ListN.{length, get_or}
use Rattle.ordered_rings.specs.Rings.{Order, OrderedRing, whole, power}
use Rattle.ordered_rings.proofs.Numbers.{Numbers, numbers, multiple_one}
use Rattle.ordered_rings.proofs.Sizes.{Size, size_root}
use Rattle.polynomial.specs.RingPoint.{powers_in, value_in}
use Rattle.polynomial.proofs.Products.{keys_map}
use Rattle.polynomial.proofs.RingSums.{append_in}
use Rattle.polynomial.proofs.RingValues.{powers_none_in}
use Rattle.polynomial.proofs.PowerSizes.{powers_square, powers_size}
use Rattle.format.specs.Commands.{given}
use Rattle.format.specs.ProblemRules.{Problem, read_problem}
use Rattle.format.proofs.ProblemLimits.{read_limits}
use Rattle.accepting.specs.RingBounds.{AllowedIn, BoundedBelowIn}
use Rattle.accepting.proofs.RingBounds.{accepted_below_in}
use Rattle.calls.specs.Promises.{Reads}
use Rattle.calls.specs.declared.Fraction.{Fraction}
use Rattle.calls.specs.Adjusted.{changes_of, absolute_sum, moved_bound, ChangesFit, EveryBox, Moved}
use Rattle.calls.specs.RingAdjusted.{ChangedBelowIn}
use Rattle.calls.proofs.AdjustedBounds.{sum_size, moved_nonneg, box_nonneg, Fits, changes_fit}
use Rattle.calls.proofs.Refusing.{reads_at}

module _ {A : Type 0} (R : OrderedRing A) where
  open R use {ring, order}
  open ring use {𝟘, 𝟙, ◌*◌, *-one}

  abbrev N : Numbers A
  N = numbers ring

  power_one : (d : ℕ) → power ring (whole ring (pos 1)) d ≡ 𝟙
  unfolding power
  power_one zero = refl
  power_one (suc d) = ap₂ ◌*◌ (power_one d) (multiple_one ring) ∙ *-one 𝟙

  module _ (p : Problem) (boxes : EveryBox p) (xs : List A) (h : AllowedIn R p xs) where
    -- |x_i| ≤ 1, as 1 − x_i² is at least 0
    coordinate_size_in : (i : ℕ) → i < length xs → Size N order (get_or xs i 𝟘) (whole ring (pos 1))
    unfolding value_in
    coordinate_size_in i l =
        size_root N order 1 (lit≤ tt) (get_or xs i 𝟘)
        (rw (multiple_one ring, *-one) (rw (powers_none_in ring xs, powers_square N order xs i l) at
        (box_nonneg N order (powers_in ring xs) i p.conditions h.conditions
        (boxes (suc i) (omega arith) (omega (arith, h.coordinates))))))

    monomial_size_in : (k : ℕ) → Fits p.variables k → Size N order (powers_in ring xs k) 𝟙
    monomial_size_in k f = rw power_one at (powers_size N order (whole ring (pos 1)) xs coordinate_size_in k)

  pub changed_below_in : (p : Problem) → EveryBox p → (changes : List ℕ) → ChangesFit p.variables changes
      → (x : ℤ) (q : ℕ) → BoundedBelowIn R p x q
      → ChangedBelowIn R p (changes_of changes) (x -ℤ pos (q *ℕ absolute_sum (changes_of changes))) q
  unfolding BoundedBelowIn ChangedBelowIn value_in
  changed_below_in p boxes changes fit x q below xs h =
      let l = changes_of changes in
      let sizes = keys_map _ _ (monomial_size_in p boxes xs h) l (changes_fit p.variables changes fit) in
      rw (append_in N (powers_in ring xs) p.objective l) (rw *-one at
      (moved_nonneg N order x q (absolute_sum l) (value_in ring xs p.objective) (value_in ring xs l) 𝟙
      (rw *-one (below xs h)) (sum_size N order (powers_in ring xs) 𝟙 l sizes)))

  -- of the bound that the call returns
  pub moved_in : (s t changes : List ℕ) (f : Fraction) → Reads s (λ p. Moved p t changes f)
      → (p : Problem) → read_problem s ≡ given p → ChangedBelowIn R p (changes_of changes) f.num f.den
  moved_in s t changes f r p read =
      let k = reads_at s (λ q. Moved q t changes f) r p read in
      let a = k.adjusts in
      let c = k.certificate in
      rw k.bound (unfold moved_bound in changed_below_in p a.boxes changes a.fit _ _
      (accepted_below_in R p (read_limits s p read) t c a.accepted a.lower))
