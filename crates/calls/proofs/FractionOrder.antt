-- The order of fractions by cross products, whatever the signs of the numerators, where denominators are at least 1;
-- and bounds that follow from others by it. Each numerator is a difference of two naturals, so that a law of the order
-- is one of naturals.
use native.Mathlib.Omega.{arith}
use native.Mathlib.Nat.{mul-le-mul_left}
use mathlib.Core.Path.{◌≡◌, refl, sym, ap₂, ◌∙◌, subst}
use mathlib.Core.Bool.{Bool, true, false, not}
use mathlib.Core.Logic.{◌⊎◌, inl, inr}
use Prim.Native.Nat.{ℕ, ◌+◌ as ◌+ℕ◌, ◌*◌ as ◌*ℕ◌, ◌≤◌, ◌<◌}
use lib.Dec.{T, ltb}
use lib.IntN.{ℤ, pos, neg_ℤ, ◌+ℤ◌, ◌*ℤ◌}
use lib.Signed.{lt_z, lt_z_yes, lt_z_no, clash_ℤ}
use borrow.Author.Tests.{ltb-true, ltb-false, lt-ltb, le-ltb}
use Rattle.counting.proofs.Cases.{lt_or_le}
use Rattle.integers.proofs.Ring.{◌⊖◌, view, ⊖-le, ⊖-le⁻¹, diffs, nonneg_pos}
use Rattle.ordered_rings.specs.Rings.{Order, OrderedRing}
use Rattle.ordered_rings.proofs.Laws.{sorted}
use Rattle.ordered_rings.proofs.Numbers.{Numbers, numbers, whole_minus}
use Rattle.ordered_rings.proofs.AtLeastZero.{Nonneg, ≤-of_minus, minus_of-≤, nonneg_one, nonneg_multiple, nonneg_whole}
use Rattle.ordered_rings.proofs.AtLeastZero.{nonneg_cancel}
use Rattle.ordered_rings.proofs.Integers.{integer_ring, integer_numbers, integer_order}
use Rattle.polynomial.specs.RingPoint.{value_in}
use Rattle.format.specs.ProblemRules.{Problem}
use Rattle.accepting.specs.Bounds.{objective_value, objective_scale, BoundedBelow, BoundedAbove}
use Rattle.accepting.specs.RingBounds.{BoundedBelowIn, BoundedAboveIn}
use Rattle.calls.specs.Fractions.{is_less}
use Rattle.calls.specs.declared.Fraction.{Fraction}

-- ---- differences
module _ (a b c d : ℕ) where
  less_yes : lt_z (a ⊖ b) (c ⊖ d) ≡ true → a +ℕ d < c +ℕ b
  less_yes e = go (lt_or_le (a +ℕ d) (c +ℕ b))
    where
      go : ((a +ℕ d) < (c +ℕ b)) ⊎ ((c +ℕ b) ≤ (a +ℕ d)) → a +ℕ d < c +ℕ b
      go (inl h) = h
      go (inr h) = clash_ℤ (lt_z_yes (subst T (sym e) tt)) (⊖-le c d a b h)

  less_no : lt_z (a ⊖ b) (c ⊖ d) ≡ false → c +ℕ b ≤ a +ℕ d
  less_no e = ⊖-le⁻¹ c d a b (lt_z_no (subst (λ (t : Bool). T (not t)) (sym e) tt))

  difference_less : lt_z (a ⊖ b) (c ⊖ d) ≡ ltb (a +ℕ d) (c +ℕ b)
  difference_less = go (lt_z (a ⊖ b) (c ⊖ d)) refl
    where
      go : (t : Bool) → lt_z (a ⊖ b) (c ⊖ d) ≡ t → t ≡ ltb (a +ℕ d) (c +ℕ b)
      go true e = sym (lt-ltb (a +ℕ d) (c +ℕ b) (less_yes e))
      go false e = sym (le-ltb (a +ℕ d) (c +ℕ b) (less_no e))

crossed_less : (a b c d q r : ℕ)
    → lt_z ((a ⊖ b) *ℤ pos r) ((c ⊖ d) *ℤ pos q) ≡ ltb (a *ℕ r +ℕ d *ℕ q) (c *ℕ q +ℕ b *ℕ r)
crossed_less a b c d q r = simp diffs (difference_less (a *ℕ r) (b *ℕ r) (c *ℕ q) (d *ℕ q))

-- ---- the order
abbrev up : Fraction → ℕ
up f = (view f.num).p

abbrev down : Fraction → ℕ
down f = (view f.num).m

less_is : (f g : Fraction)
    → is_less f g ≡ ltb (up f *ℕ g.den +ℕ down g *ℕ f.den) (up g *ℕ f.den +ℕ down f *ℕ g.den)
less_is f g =
    ap₂ (λ (x y : ℤ). lt_z (x *ℤ pos g.den) (y *ℤ pos f.den)) (view f.num).eq (view g.num).eq
    ∙ crossed_less (up f) (down f) (up g) (down g) f.den g.den

module _ (f g : Fraction) where
  is_less_lem : is_less f g ≡ true → up f *ℕ g.den +ℕ down g *ℕ f.den < up g *ℕ f.den +ℕ down f *ℕ g.den
  is_less_lem e = ltb-true _ _ (sym (less_is f g) ∙ e)

  not_less : is_less f g ≡ false → up g *ℕ f.den +ℕ down f *ℕ g.den ≤ up f *ℕ g.den +ℕ down g *ℕ f.den
  not_less e = ltb-false _ _ (sym (less_is f g) ∙ e)

  less : up f *ℕ g.den +ℕ down g *ℕ f.den < up g *ℕ f.den +ℕ down f *ℕ g.den → is_less f g ≡ true
  less h = less_is f g ∙ lt-ltb _ _ h

  pub one_way : is_less f g ≡ true → is_less g f ≡ false
  one_way e =
      let h : up f *ℕ g.den +ℕ down g *ℕ f.den ≤ up g *ℕ f.den +ℕ down f *ℕ g.den = omega (arith, is_less_lem e) in
      less_is g f ∙ le-ltb _ _ h

pub not_itself : (f : Fraction) → is_less f f ≡ false
not_itself f =
    let h : up f *ℕ f.den +ℕ down f *ℕ f.den ≤ up f *ℕ f.den +ℕ down f *ℕ f.den = omega arith in
    less_is f f ∙ le-ltb _ _ h

-- from (a − b)/q < (c − d)/r ≤ (k − l)/t to (a − b)/q < (k − l)/t
less_through : (a b c d k l q r t : ℕ) → 0 < t → a *ℕ r +ℕ d *ℕ q < c *ℕ q +ℕ b *ℕ r → c *ℕ t +ℕ l *ℕ r ≤ k *ℕ r +ℕ d *ℕ t
    → a *ℕ t +ℕ l *ℕ q < k *ℕ q +ℕ b *ℕ t
less_through a b c d k l q r t p x y = go (lt_or_le (a *ℕ t +ℕ l *ℕ q) (k *ℕ q +ℕ b *ℕ t))
  where
    go : ((a *ℕ t +ℕ l *ℕ q) < (k *ℕ q +ℕ b *ℕ t)) ⊎ ((k *ℕ q +ℕ b *ℕ t) ≤ (a *ℕ t +ℕ l *ℕ q)) → a *ℕ t +ℕ l *ℕ q < k *ℕ q +ℕ b *ℕ t
    go (inl h) = h
    go (inr h) =
        let u : t *ℕ (a *ℕ r +ℕ d *ℕ q +ℕ 1) ≤ t *ℕ (c *ℕ q +ℕ b *ℕ r) = mul-le-mul_left t (omega arith) in
        let v : q *ℕ (c *ℕ t +ℕ l *ℕ r) ≤ q *ℕ (k *ℕ r +ℕ d *ℕ t) = mul-le-mul_left q y in
        let w : r *ℕ (k *ℕ q +ℕ b *ℕ t) ≤ r *ℕ (a *ℕ t +ℕ l *ℕ q) = mul-le-mul_left r h in
        absurd (omega arith)

module _ (f g h : Fraction) (p : 0 < h.den) where
  -- below what is at most another is below that other
  pub less_at_most : is_less f g ≡ true → is_less h g ≡ false → is_less f h ≡ true
  less_at_most x y =
      less f h
      (less_through (up f) (down f) (up g) (down g) (up h) (down h) f.den g.den h.den p (is_less_lem f g x)
      (not_less h g y))

  -- above what is at least another is above that other
  pub more_at_least : is_less g f ≡ true → is_less g h ≡ false → is_less h f ≡ true
  more_at_least x y =
      let a = is_less_lem g f x in
      let b = not_less g h y in
      let c = less_through (down f) (up f) (down g) (up g) (down h) (up h) f.den g.den h.den p (omega arith) (omega arith) in
      less h f (omega arith)

-- ---- bounds: what is at most a lower bound is a lower bound, and what is at least an upper bound an upper one. There is
-- one argument, for all ordered rings and for a value v over any c that is at least 0: with 1 in its place it is for
-- points of the ring, and in the integers for rational points
module _ {A : Type 0} (N : Numbers A) (O : Order N.ring) where
  open N use {ring, whole, whole-+, whole-*}
  open ring use {𝟘, ◌+◌, -◌, ◌*◌}

  module _ (x y : ℤ) (v c : A) (q r : ℕ) (positive : 1 ≤ q) (scale : Nonneg ring O c) where
    -- a number of ℤ that is not less than another is at least that in the ring, also times c
    ahead : (a b : ℤ) → lt_z a b ≡ false → Nonneg ring O ((whole a + - whole b) * c)
    ahead a b e =
        let less = minus_of-≤ integer_ring integer_order b a (lt_z_no (subst (λ (t : Bool). T (not t)) (sym e) tt)) in
        O.≤-* _ c (rw (whole-+ a (neg_ℤ b), whole_minus N b) at (nonneg_whole N O (a +ℤ neg_ℤ b) less)) scale

    -- a ≥ b and b ≥ d make a ≥ d
    chain : {a b d : A} → Nonneg ring O (a + - b) → Nonneg ring O (b + - d) → Nonneg ring O (a + - d)
    chain {a} {b} {d} h k = minus_of-≤ ring O d a (O.≤_trans d b a (≤-of_minus ring O d b k) (≤-of_minus ring O b a h))

    -- from x/q ≤ v/c and y/r ≤ x/q to y/r ≤ v/c
    pub below_through : Nonneg ring O (whole (pos q) * v + - (whole x * c)) → lt_z (x *ℤ pos r) (y *ℤ pos q) ≡ false
        → Nonneg ring O (whole (pos r) * v + - (whole y * c))
    below_through h e =
        nonneg_cancel N O q _ positive
        (rw scaled at (chain (rw times at (O.≤-* _ _ (nonneg_multiple N O r) h))
        (rw apart at (ahead (x *ℤ pos r) (y *ℤ pos q) e))))
      where
        times : whole (pos r) * (whole (pos q) * v + - (whole x * c))
            ≡ whole (pos r) * (whole (pos q) * v) + - (whole (pos r) * (whole x * c))
        times = simp (sorted, ring)

        apart : (whole (x *ℤ pos r) + - whole (y *ℤ pos q)) * c
            ≡ whole (pos r) * (whole x * c) + - (whole (pos q) * (whole y * c))
        apart = rw (whole-* x (pos r), whole-* y (pos q)) (simp (sorted, ring))

        scaled : whole (pos r) * (whole (pos q) * v) + - (whole (pos q) * (whole y * c))
            ≡ whole (pos q) * (whole (pos r) * v + - (whole y * c))
        scaled = simp (sorted, ring)

    -- from v/c ≤ x/q and x/q ≤ y/r to v/c ≤ y/r
    pub above_through : Nonneg ring O (whole x * c + - (whole (pos q) * v)) → lt_z (y *ℤ pos q) (x *ℤ pos r) ≡ false
        → Nonneg ring O (whole y * c + - (whole (pos r) * v))
    above_through h e =
        nonneg_cancel N O q _ positive
        (rw scaled at (chain (rw apart at (ahead (y *ℤ pos q) (x *ℤ pos r) e))
        (rw times at (O.≤-* _ _ (nonneg_multiple N O r) h))))
      where
        times : whole (pos r) * (whole x * c + - (whole (pos q) * v))
            ≡ whole (pos r) * (whole x * c) + - (whole (pos r) * (whole (pos q) * v))
        times = simp (sorted, ring)

        apart : (whole (y *ℤ pos q) + - whole (x *ℤ pos r)) * c
            ≡ whole (pos q) * (whole y * c) + - (whole (pos r) * (whole x * c))
        apart = rw (whole-* y (pos q), whole-* x (pos r)) (simp (sorted, ring))

        scaled : whole (pos q) * (whole y * c) + - (whole (pos r) * (whole (pos q) * v))
            ≡ whole (pos q) * (whole y * c + - (whole (pos r) * v))
        scaled = simp (sorted, ring)

module _ (p : Problem) (f g : Fraction) (d : 0 < f.den) where
  -- at rational points
  pub bounded_below : BoundedBelow p f.num f.den → is_less f g ≡ false → BoundedBelow p g.num g.den
  unfolding BoundedBelow
  bounded_below h e a k =
      ≤-of_minus integer_ring integer_order _ _
      (below_through integer_numbers integer_order f.num g.num (objective_value p a) (pos (objective_scale a)) f.den
      g.den (omega arith) (nonneg_pos (objective_scale a)) (minus_of-≤ integer_ring integer_order _ _ (h a k)) e)

  pub bounded_above : BoundedAbove p f.num f.den → is_less g f ≡ false → BoundedAbove p g.num g.den
  unfolding BoundedAbove
  bounded_above h e a k =
      ≤-of_minus integer_ring integer_order _ _
      (above_through integer_numbers integer_order f.num g.num (objective_value p a) (pos (objective_scale a)) f.den
      g.den (omega arith) (nonneg_pos (objective_scale a)) (minus_of-≤ integer_ring integer_order _ _ (h a k)) e)

  -- at points of an ordered ring
  module _ {A : Type 0} (R : OrderedRing A) where
    open R use {ring, order}
    open ring use {𝟙, *-one}

    pub bounded_below_in : BoundedBelowIn R p f.num f.den → is_less f g ≡ false
        → BoundedBelowIn R p g.num g.den
    unfolding BoundedBelowIn
    bounded_below_in h e a k =
        rw *-one at (below_through (numbers ring) order f.num g.num (value_in ring a p.objective) 𝟙 f.den
        g.den (omega arith) (nonneg_one ring order) (rw *-one (h a k)) e)

    pub bounded_above_in : BoundedAboveIn R p f.num f.den → is_less g f ≡ false
        → BoundedAboveIn R p g.num g.den
    unfolding BoundedAboveIn
    bounded_above_in h e a k =
        rw *-one at (above_through (numbers ring) order f.num g.num (value_in ring a p.objective) 𝟙 f.den
        g.den (omega arith) (nonneg_one ring order) (rw *-one (h a k)) e)
