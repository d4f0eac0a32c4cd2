-- Why the moved bound holds. With 1 − x_i² at least 0 for every variable each |x_i| is at most 1, so each changed
-- monomial is at most 1 in size, and the changes move the value by at most the sum of |d|. There is one argument, for all
-- ordered rings and for coordinates over any c ≥ 1: with 1 in its place it is for points of the ring, and in the
-- integers for rational points.
use mathlib.Core.Path.{◌≡◌, refl, sym, ap, ap₂, ◌∙◌, subst}
use mathlib.Core.Bool.{true}
use mathlib.Core.List.{List, [], ◌∷◌, ◌++◌}
use mathlib.Core.Logic.{◌⊎◌, ⊎_elim}
use Prim.Native.Nat.{ℕ, zero, suc, ◌+◌ as ◌+ℕ◌, ◌*◌ as ◌*ℕ◌, ◌-◌, ◌^◌, ◌≤◌ as ◌≤ℕ◌, ◌<◌}
use native.Mathlib.Nat.{one-le-pow, pow-zero, pow-suc, mul_assoc}
use native.Mathlib.Omega.{arith}
use lib.Dec.{leb}
use lib.IntN.{ℤ, pos, negsuc, neg_ℤ, nat_abs, ◌-ℤ◌, ◌*ℤ◌}
use lib.ListN.{length, get_or}
use lib.Pow.{pow-add}
use borrow.Author.Tests.{leb-true}
use Rattle.counting.specs.Counting.{listed}
use Rattle.counting.proofs.Cases.{and_left, and_right}
use Rattle.ordered_rings.specs.Rings.{Order, power}
use Rattle.ordered_rings.proofs.Laws.{one-*, zero-*, +-*, minus-+, minus-*, *-minus, minus_minus, sorted-sums}
use Rattle.ordered_rings.proofs.Numbers.{Numbers, whole_zero, whole_minus}
use Rattle.ordered_rings.proofs.AtLeastZero.{Nonneg, nonneg-+, nonneg_multiple, nonneg_cancel, ≤-of_minus, minus_of-≤}
use Rattle.ordered_rings.proofs.Integers.{integer_ring, integer_numbers, integer_order}
use Rattle.ordered_rings.proofs.Sizes.{Size, size-+, size-*, size_multiple, size_whole, size_root}
use Rattle.polynomial.specs.Monomial.{degree_of, degree, within}
use Rattle.polynomial.specs.Terms.{Term}
use Rattle.polynomial.specs.Point.{Point, powers, monomial_value, value}
use Rattle.polynomial.proofs.Keys.{Keys}
use Rattle.polynomial.proofs.Products.{keys_append, keys_map}
use Rattle.polynomial.proofs.RingSums.{sum_in}
use Rattle.polynomial.proofs.Values.{powers_is, constant_scaled, value_append}
use Rattle.polynomial.proofs.RationalPoints.{degree_within}
use Rattle.polynomial.proofs.PowerSizes.{degree_square, powers_square, powers_size}
use Rattle.format.specs.All.{All}
use Rattle.format.specs.ProblemRules.{Condition, no_condition, Problem, fitting}
use Rattle.format.specs.declared.problem.Kind.{Kind}
use Rattle.format.specs.declared.problem.Kind.TheVariants as K
use Rattle.format.proofs.CertificateLimits.{all_within}
use Rattle.format.proofs.WithinLimits.{Limits}
use Rattle.accepting.specs.Bounds.{Allowed, BoundedBelow}
use Rattle.accepting.specs.RingBounds.{MeetsIn}
use Rattle.accepting.proofs.Bounds.{few, met}
use Rattle.calls.specs.Adjusted.{change_at, change_count, changes_of, unit, minus_square, absolute_sum, ChangedBelow}
use Rattle.calls.specs.Adjusted.{ChangesFit, Box, EveryBox}

module _ {A : Type 0} (N : Numbers A) (O : Order N.ring) where
  open N use {ring, whole, whole_one, whole-+, whole-*}
  open ring use {𝟘, 𝟙, ◌+◌, -◌, ◌*◌, +_comm, +-zero, +-minus, *-assoc, *-one, *-+}

  -- ---- the changes: where each monomial is at most s in size, they add up to at most the sum of |d| times s
  pub sum_size : (m : ℕ → A) (s : A) (P : List Term) → Keys (λ k. Size N O (m k) s) P
      → Size N O (sum_in N m P) (whole (pos (absolute_sum P)) * s)
  unfolding absolute_sum
  sum_size m s [] h =
      rw (whole_zero N, zero-* ring) (rw (whole_zero N) at (size_multiple N O 0))
  sum_size m s (t ∷ P) h =
      let same : whole (pos (nat_abs t.coefficient +ℕ absolute_sum P)) * s
      ≡ whole (pos (nat_abs t.coefficient)) * s + whole (pos (absolute_sum P)) * s =
      rw (whole-+ (pos (nat_abs t.coefficient)) (pos (absolute_sum P)), +-* ring) in
      subst (Size N O _) (sym same)
      (size-+ N O (size-* N O (size_whole N O t.coefficient) h.0) (sum_size m s P h.1))

  -- ---- the bound: from q v ≥ p s and |w| ≤ S s, q (v + w) ≥ (p − q S) s
  crossed : (a b c d : A) → (a + b) + (c + d) ≡ (a + d) + (b + c)
  crossed a b c d = simp (sorted-sums, ring)

  pub moved_nonneg : (p : ℤ) (q S : ℕ) (v w s : A) → Nonneg ring O (whole (pos q) * v + - (whole p * s))
      → Size N O w (whole (pos S) * s)
      → Nonneg ring O (whole (pos q) * (v + w) + - (whole (p -ℤ pos (q *ℕ S)) * s))
  moved_nonneg p q S v w s h k =
      subst (Nonneg ring O) same (nonneg-+ ring O h (O.≤-* (whole (pos q)) _ (nonneg_multiple N O q) k.below))
    where
      less : - (whole (p -ℤ pos (q *ℕ S)) * s) ≡ - (whole p * s) + whole (pos q) * (whole (pos S) * s)
      less =
          rw (
            whole-+ p (neg_ℤ (pos (q *ℕ S))),
            whole_minus N (pos (q *ℕ S)),
            whole-* (pos q) (pos S),
            +-* ring,
            minus-* ring,
            minus-+ ring,
            minus_minus ring,
            *-assoc,
          )

      same : (whole (pos q) * v + - (whole p * s)) + whole (pos q) * (whole (pos S) * s + w)
          ≡ whole (pos q) * (v + w) + - (whole (p -ℤ pos (q *ℕ S)) * s)
      same = rw (less, *-+, *-+) (crossed _ _ _ _)

  -- ---- the boxes: at a point where the conditions are met, 1 − x_i² is at least 0; m has the values of monomials
  module _ (m : ℕ → A) (i : ℕ) where
    abbrev square : A
    square = m (2 *ℕ 256 ^ i)

    -- in either order of its terms
    box_value : (P : List Term) → (P ≡ unit ∷ minus_square (suc i) ∷ []) ⊎ (P ≡ minus_square (suc i) ∷ unit ∷ [])
        → sum_in N m P ≡ m 0 + - square
    box_value P e =
        let z : suc i - 1 ≡ i = omega arith in
        ⊎_elim (λ f. ap (sum_in N m) (rw z at f) ∙ first) (λ f. ap (sum_in N m) (rw z at f) ∙ second) e
      where
        minus : whole (negsuc 0) * square ≡ - square
        minus = rw (whole_minus N (pos 1), whole_one, minus-* ring, one-* ring)

        first : whole (pos 1) * m 0 + (whole (negsuc 0) * square + 𝟘) ≡ m 0 + - square
        first = rw (minus, whole_one, one-* ring, +-zero)

        second : whole (negsuc 0) * square + (whole (pos 1) * m 0 + 𝟘) ≡ m 0 + - square
        second = rw (minus, whole_one, one-* ring, +-zero) (+_comm _ _)

    pub box_nonneg : (gs : List Condition)
        → All (λ (g : Condition). MeetsIn (record { ring = ring; order = O }) g.kind (sum_in N m g.terms)) gs
        → Box (suc i) gs → Nonneg ring O (m 0 + - square)
    unfolding MeetsIn
    box_nonneg gs met b =
        let g = get_or gs b.place no_condition in
        let h = all_within _ gs b.place no_condition b.within met in
        subst (Nonneg ring O) (box_value g.terms b.terms) (rw b.kind at h)

-- ---- the changes that fit, one by one
abbrev pub Fits : ℕ → ℕ → Type 0
Fits n k = (degree k ≤ℕ 32) × (within n k ≡ true)

keys_listed : (A : ℕ → Type 0) (n : ℕ) (f : ℕ → Term) → ((i : ℕ) → i < n → A (f i).key) → Keys A (listed n f)
unfolding listed
keys_listed A zero f h = tt
keys_listed A (suc n) f h =
    keys_append A (listed n f) (f n ∷ []) (keys_listed A n f (λ i l. h i (omega arith))) (h n (omega arith), tt)

pub changes_fit : (n : ℕ) (changes : List ℕ) → ChangesFit n changes → Keys (Fits n) (changes_of changes)
unfolding changes_of fitting
changes_fit n changes h =
    keys_listed (Fits n) (change_count changes) (change_at changes)
    (λ i l.
    let k = (change_at changes i).key in
    let e = h.fit i l in
    (leb-true _ _ (and_left (leb (degree k) 32) (within n k) e), and_right (leb (degree k) 32) (within n k) e))

-- ---- rational points: a_1 .. a_n over c
power_pos : (c d : ℕ) → power integer_ring (pos c) d ≡ pos (c ^ d)
unfolding power
power_pos c zero = ap pos (sym (pow-zero c))
power_pos c (suc d) = ap (λ x. x *ℤ pos c) (power_pos c d) ∙ ap pos (sym (pow-suc c d))

-- 1 − x_i² there, scaled by c^16: it is c^14 times c² − a_i²
module _ (a : Point) (few : length a.numerators ≤ℕ 8) (i : ℕ) (h : i < length a.numerators) where
  open integer_ring use {*-comm, *-+}

  abbrev c : ℕ
  c = a.denominator

  abbrev x : ℤ
  x = get_or a.numerators i (pos 0)

  square_scaled : monomial_value a 16 (2 *ℕ 256 ^ i) ≡ x *ℤ x *ℤ pos (c ^ 14)
  unfolding monomial_value degree
  square_scaled =
      let xs = a.numerators in
      rw (degree_square 8 i (omega arith), ← powers_is xs (2 *ℕ 256 ^ i), powers_square integer_numbers integer_order xs i h)

  sixteen : c ^ 16 ≡ c ^ 14 *ℕ (c *ℕ c)
  sixteen = pow-suc c 15 ∙ rw (pow-suc c 14) (mul_assoc _ _ _)

  box_scaled : monomial_value a 16 0 -ℤ monomial_value a 16 (2 *ℕ 256 ^ i) ≡ pos (c ^ 14) *ℤ (pos c *ℤ pos c -ℤ x *ℤ x)
  box_scaled =
      rw (constant_scaled a 16, square_scaled, sixteen, *-comm (x *ℤ x) (pos (c ^ 14)))
      (sym (*-+ (pos (c ^ 14)) (pos c *ℤ pos c) (neg_ℤ (x *ℤ x)) ∙ rw (*-minus integer_ring (pos (c ^ 14)) (x *ℤ x))))

module _ (p : Problem) (limits : Limits p) (boxes : EveryBox p) (a : Point) (allowed : Allowed p a) where
  abbrev xs : List ℤ
  xs = a.numerators

  -- |a_i| ≤ c, as c² − a_i² is at least 0
  coordinate_size : (i : ℕ) → i < length xs → Size integer_numbers integer_order (get_or xs i (pos 0)) (pos a.denominator)
  coordinate_size i h =
      size_root integer_numbers integer_order a.denominator allowed.denominator (get_or xs i (pos 0))
      (nonneg_cancel integer_numbers integer_order (a.denominator ^ 14) _ (one-le-pow 14 a.denominator allowed.denominator)
      (subst (Nonneg integer_ring integer_order) (box_scaled a (few p limits a allowed) i h)
      (box_nonneg integer_numbers integer_order (monomial_value a 16) i p.conditions (met p limits a allowed)
      (boxes (suc i) (omega arith) (omega (arith, allowed.coordinates))))))

  monomial_size : (k : ℕ) → Fits p.variables k
      → Size integer_numbers integer_order (monomial_value a 32 k) (pos (a.denominator ^ 32))
  unfolding monomial_value degree
  monomial_size k h =
      let n = degree_of (length xs) k in
      let e : degree_of 8 k ≡ n = degree_within (length xs) 8 k (few p limits a allowed) (rw allowed.coordinates h.1) in
      let s : n +ℕ (32 - n) ≡ 32 = omega arith in
      let whole : power integer_ring (pos a.denominator) n *ℤ pos (a.denominator ^ (32 - n)) ≡ pos (a.denominator ^ 32) = rw (power_pos a.denominator n) (ap pos (sym (pow-add a.denominator n (32 - n)) ∙ ap (λ d. a.denominator ^ d) s)) in
      subst (Size integer_numbers integer_order _) whole
      (rw (e, ← powers_is xs k) (size-* integer_numbers integer_order (powers_size integer_numbers integer_order (pos a.denominator) xs coordinate_size k)
      (size_multiple integer_numbers integer_order (a.denominator ^ (32 - n)))))

pub changed_below : (p : Problem) → Limits p → EveryBox p → (changes : List ℕ)
    → ChangesFit p.variables changes → (x : ℤ) (q : ℕ) → BoundedBelow p x q
    → ChangedBelow p (changes_of changes) (x -ℤ pos (q *ℕ absolute_sum (changes_of changes))) q
unfolding BoundedBelow ChangedBelow
changed_below p limits boxes changes fit x q below a h =
    let l = changes_of changes in
    let sizes = keys_map _ _ (monomial_size p limits boxes a h) l (changes_fit p.variables changes fit) in
    ≤-of_minus integer_ring integer_order _ _ (rw (value_append a 32 p.objective l)
    (moved_nonneg integer_numbers integer_order x q (absolute_sum l) (value a 32 p.objective) (value a 32 l) (pos (a.denominator ^ 32))
    (minus_of-≤ integer_ring integer_order _ _ (below a h))
    (unfold value in sum_size integer_numbers integer_order (monomial_value a 32) (pos (a.denominator ^ 32)) l sizes)))
