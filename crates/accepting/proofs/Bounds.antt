-- The identity bounds the objective at every allowed point, and two bounds give the gap. There is one argument, for all
-- ordered rings and for values scaled in any way that products keep: without a scale it is for points of the ring
-- (RingBounds.antt), and in the integers, with powers of c as scales, for rational points.
use mathlib.Core.Path.{◌≡◌, refl, sym, ap, ◌∙◌, subst}
use mathlib.Core.List.{List, [], ◌∷◌}
use Prim.Native.Nat.{ℕ, zero, suc, ◌*◌ as ◌*ℕ◌, ◌≤◌ as ◌≤ℕ◌, ◌^◌}
use native.Mathlib.Omega.{arith}
use lib.Dec.{lit≤}
use lib.ListN.{length}
use lib.IntN.{ℤ, pos, neg_ℤ, ◌-ℤ◌, ◌*ℤ◌, neg_ℤ-neg_ℤ}
use lib.Signed.{◌≤ℤ◌}
use Rattle.integers.proofs.Ring.{nonneg_pos}
use Rattle.ordered_rings.specs.Rings.{Order, OrderedRing}
use Rattle.ordered_rings.proofs.Laws.{one-*, *-zero, minus-*, sorted}
use Rattle.ordered_rings.proofs.Numbers.{Numbers, whole_minus}
use Rattle.ordered_rings.proofs.AtLeastZero.{Nonneg, ≤-of_minus, minus_of-≤, nonneg_zero, nonneg-+, nonneg_square, nonneg_multiple, nonneg_whole, nonneg_cancel}
use Rattle.ordered_rings.proofs.Integers.{integer_ring, integer_numbers, integer_order, integers}
use Rattle.polynomial.specs.Monomial.{degree_of, degree}
use Rattle.polynomial.specs.Terms.{Term, keys_of}
use Rattle.polynomial.specs.Algebra.{◌⊗◌}
use Rattle.polynomial.specs.Point.{Point, monomial_value, value}
use Rattle.polynomial.proofs.Products.{Degree, degree-⊗}
use Rattle.polynomial.proofs.RingSums.{sum_in, append_in, scale_in, same_in}
use Rattle.polynomial.proofs.RingValues.{Multiplies, product_in}
use Rattle.polynomial.proofs.Values.{constant_scaled, multiplies}
use Rattle.format.specs.declared.problem.Kind.{Kind}
use Rattle.format.specs.declared.problem.Kind.TheVariants as K
use Rattle.format.specs.ProblemRules.{Condition, Problem, no_condition}
use Rattle.format.specs.ProblemBases.{basis_of, multiplier, multiplier_of, kind_of}
use Rattle.format.specs.All.{All}
use Rattle.format.proofs.All.{all_map}
use Rattle.format.proofs.WithinLimits.{ConditionTerms, Limits}
use Rattle.format.proofs.ProblemLimits.{all_at, monomials_none, terms_none}
use Rattle.format.specs.CertificateRules.{Entry, Row, Certificate}
use Rattle.format.specs.declared.certificate.Header.{Header}
use Rattle.accepting.specs.Identity.{combination, square, squares, turned, claim_of, claim, Identity}
use Rattle.accepting.specs.Bounds.{Meets, Allowed, objective_value, objective_scale, BoundedBelow, BoundedAbove, WithinGap}
use Rattle.accepting.specs.RingBounds.{MeetsIn}
use Rattle.accepting.proofs.Reach.{keys_all}
use Rattle.accepting.proofs.Weights.{RowWeighted, Weighted}

combination_degree : (B : List ℕ) → All (λ k. degree k ≤ℕ 8) B → (es : List Entry) → Degree 8 (combination B es)
combination_degree B h [] = tt
combination_degree B h (e ∷ es) =
    (all_at _ B e.index 0 h (unfold degree degree_of in lit≤ tt), combination_degree B h es)

module _ (p : Problem) (limits : Limits p) where
  -- ---- degrees: at most 8 in each basis, and 16 in each multiplier
  pub basis_degrees : (j : ℕ) → All (λ k. degree k ≤ℕ 8) (basis_of p j)
  unfolding basis_of
  basis_degrees j = (all_at _ p.bases j [] limits.members (monomials_none _ _ _)).degrees

  row_degree : (j : ℕ) (es : List Entry) → Degree 8 (combination (basis_of p j) es)
  row_degree j es = combination_degree _ (basis_degrees j) es

  pub multiplier_degrees : (j : ℕ) → All (λ k. degree k ≤ℕ 16) (multiplier_of p j)
  unfolding multiplier_of multiplier keys_of All
  multiplier_degrees zero = unfold degree degree_of in (lit≤ tt, tt)
  multiplier_degrees (suc j) = (all_at (ConditionTerms _) p.conditions j no_condition limits.terms (terms_none _ 16 32)).monomials.degrees

  multiplier_degree : (j : ℕ) → Degree 16 (multiplier p j)
  unfolding multiplier_of
  multiplier_degree j = keys_all _ _ (multiplier_degrees j)

-- ---- in an ordered ring with the whole numbers in it
module _ {A : Type 0} (N : Numbers A) (O : Order N.ring) where
  open N use {ring, whole, whole_one}
  open ring use {◌+◌, -◌, ◌*◌, +-zero, +_comm}

  abbrev ordered : OrderedRing A
  ordered = record { ring = ring; order = O }

  -- w × s × v is at least 0, where s is a square and v the value of a condition that is met: of an inequality because
  -- none of the three is below 0, and of an equality because v is 0, so that a negative weight does no harm there
  weighted_nonneg : (k : Kind) (w : ℤ) (s v : A) → (k ≡ K.Inequality → pos 0 ≤ℤ w) → Nonneg ring O s
      → MeetsIn ordered k v → Nonneg ring O (whole w * (s * v))
  unfolding MeetsIn
  weighted_nonneg K.Inequality w s v weight square met =
      O.≤-* (whole w) (s * v) (nonneg_whole N O w (weight refl)) (O.≤-* s v square met)
  weighted_nonneg K.Equality w s v weight square met =
      rw (met, *-zero ring s, *-zero ring (whole w)) (nonneg_zero ring O)

  -- ---- at a point, given by the values m of its monomials: each is scaled for a degree, and they multiply
  module _ (p : Problem) (limits : Limits p) (m : ℕ → ℕ → A) (M : Multiplies ring m) where
    abbrev value_of : ℕ → List Term → A
    value_of d P = sum_in N (m d) P

    -- the value of w × (sum of l × b)² × g_j, scaled for 32 = 8 + 8 + 16
    square_value : (r : Row)
        → let L = combination (basis_of p r.basis) r.entries in
        value_of 32 (square p r) ≡ whole r.weight * (value_of 8 L * value_of 8 L * value_of 16 (multiplier p r.basis))
    unfolding square
    square_value r =
        let L = combination (basis_of p r.basis) r.entries in
        let G = multiplier p r.basis in
        let v : Degree 8 L = row_degree p limits r.basis r.entries in
        let w : Degree 16 (L ⊗ L) = degree-⊗ 8 8 (lit≤ tt) L L v v in
        scale_in N (m 32) r.weight (L ⊗ L ⊗ G)
        ∙ ap (λ z. whole r.weight * z)
        (product_in N m M 16 16 (lit≤ tt) (L ⊗ L) G w (multiplier_degree p limits r.basis)
        ∙ ap (λ z. z * value_of 16 G) (product_in N m M 8 8 (lit≤ tt) L L v v))

    -- the claim's value: D × (q × V − p × c), where V is the objective's value and c that of 1; for side 1 with both
    -- signs turned
    claim_value : (h : Header) → value_of 32 (claim p h)
        ≡ whole (pos h.scale) * (whole (turned h.side (pos h.q)) * value_of 32 p.objective
        + whole (turned h.side (neg_ℤ h.p)) * m 32 0)
    unfolding claim_of
    claim_value h = simp (scale_in N (m 32), append_in N (m 32), +-zero)

    -- ---- where the point is allowed
    module _ (unit : Nonneg ring O (m 16 0))
        (allowed : All (λ (g : Condition). MeetsIn ordered g.kind (value_of 16 g.terms)) p.conditions) where
      -- g_0 = 1 is at least 0, "the inequalities are at least 0 and the equalities are 0"
      multiplier_meets : (j : ℕ) → MeetsIn ordered (kind_of p j) (value_of 16 (multiplier p j))
      unfolding multiplier kind_of MeetsIn
      multiplier_meets zero = rw (+-zero, whole_one, one-* ring) unit
      multiplier_meets (suc j) = all_at _ p.conditions j no_condition allowed (nonneg_zero ring O)

      -- each weighted square times g_j is at least 0, and so is their sum T
      row_nonneg : (r : Row) → RowWeighted p r → Nonneg ring O (value_of 32 (square p r))
      row_nonneg r w =
          let s = nonneg_square ring O (value_of 8 (combination (basis_of p r.basis) r.entries)) in
          rw (square_value r) (weighted_nonneg (kind_of p r.basis) r.weight _ _ w s (multiplier_meets r.basis))

      squares_nonneg : (rs : List Row) → Weighted p rs → Nonneg ring O (value_of 32 (squares p rs))
      unfolding squares All
      squares_nonneg [] w = nonneg_zero ring O
      squares_nonneg (r ∷ rs) w =
          rw (append_in N (m 32) (square p r) (squares p rs))
          (nonneg-+ ring O (row_nonneg r w.0) (squares_nonneg rs w.1))

      module _ (c : Certificate) (scaled : 1 ≤ℕ c.header.scale) (weighted : Weighted p c.rows)
          (identity : Identity p c) where
        -- by the identity the claim's value is T's, so at least 0; D is at least 1
        claim_nonneg : Nonneg ring O (whole (turned c.header.side (pos c.header.q)) * value_of 32 p.objective
            + whole (turned c.header.side (neg_ℤ c.header.p)) * m 32 0)
        unfolding Identity
        claim_nonneg =
            nonneg_cancel N O c.header.scale _ scaled (subst (Nonneg ring O)
            (sym (same_in N (m 32) (claim p c.header) (squares p c.rows) identity) ∙ claim_value c.header)
            (squares_nonneg c.rows weighted))

        -- so is q × V − p × c by side 0, and p × c − q × V by side 1
        pub lower_nonneg : c.header.side ≡ 0
            → Nonneg ring O (whole (pos c.header.q) * value_of 32 p.objective + - (whole c.header.p * m 32 0))
        lower_nonneg s = rw (s, whole_minus N, minus-* ring) at claim_nonneg

        pub upper_nonneg : c.header.side ≡ 1
            → Nonneg ring O (whole c.header.p * m 32 0 + - (whole (pos c.header.q) * value_of 32 p.objective))
        upper_nonneg s = rw (s, neg_ℤ-neg_ℤ, whole_minus N, minus-* ring, +_comm) at claim_nonneg

  -- ---- two bounds: from v/c ≤ P/Q and p/q ≤ w/d, v/c − w/d ≤ (P × q − p × Q)/(Q × q), by cross products
  pub cross : (P p v w c d : A) (Q q : ℕ) → Nonneg ring O c → Nonneg ring O d
      → Nonneg ring O (whole (pos q) * w + - (p * d)) → Nonneg ring O (P * c + - (whole (pos Q) * v))
      → Nonneg ring O ((P * whole (pos q) + - (p * whole (pos Q))) * (c * d)
      + - ((v * d + - (w * c)) * (whole (pos Q) * whole (pos q))))
  cross P p v w c d Q q unit unit' below above =
      rw same at (nonneg-+ ring O (times (times (nonneg_multiple N O q) unit') above)
      (times (times (nonneg_multiple N O Q) unit) below))
    where
      times : {a b : A} → Nonneg ring O a → Nonneg ring O b → Nonneg ring O (a * b)
      times {a} {b} = O.≤-* a b

      same : (whole (pos q) * d) * (P * c + - (whole (pos Q) * v))
          + (whole (pos Q) * c) * (whole (pos q) * w + - (p * d))
          ≡ (P * whole (pos q) + - (p * whole (pos Q))) * (c * d)
          + - ((v * d + - (w * c)) * (whole (pos Q) * whole (pos q)))
      same = simp (sorted, ring)

-- ---- at rational points: in the integers, with the powers of c as scales
module _ (p : Problem) (limits : Limits p) (a : Point) (allowed : Allowed p a) where
  pub few : length a.numerators ≤ℕ 8
  few = let v = limits.variables.1 in let c = allowed.coordinates in omega arith

  unit : pos 0 ≤ℤ monomial_value a 16 0
  unit = rw (constant_scaled a 16) (nonneg_pos (a.denominator ^ 16))

  pub met : All (λ (g : Condition). MeetsIn integers g.kind (sum_in integer_numbers (monomial_value a 16) g.terms))
      p.conditions
  unfolding value Meets MeetsIn
  met = all_map _ _ (λ (g : Condition). go g.kind (value a 16 g.terms)) p.conditions allowed.conditions
    where
      go : (k : Kind) (v : ℤ) → Meets k v → MeetsIn integers k v
      go K.Inequality v h = h
      go K.Equality v h = h

module _ (p : Problem) (limits : Limits p) (c : Certificate) (scaled : 1 ≤ℕ c.header.scale)
    (weighted : Weighted p c.rows) (identity : Identity p c) where
  -- side 0: "p/q ≤ value is p × c^32 ≤ q × V", at every allowed point
  pub identity_below : c.header.side ≡ 0 → BoundedBelow p c.header.p c.header.q
  unfolding BoundedBelow value
  identity_below s a h =
      ≤-of_minus integer_ring integer_order _ _ (rw (constant_scaled a 32) at
      (lower_nonneg integer_numbers integer_order p limits (monomial_value a) (multiplies a (few p limits a h))
      (unit p limits a h) (met p limits a h) c scaled weighted identity s))

  -- side 1: "value ≤ P/Q is Q × V ≤ P × c^32", at every allowed point
  pub identity_above : c.header.side ≡ 1 → BoundedAbove p c.header.p c.header.q
  unfolding BoundedAbove value
  identity_above s a h =
      ≤-of_minus integer_ring integer_order _ _ (rw (constant_scaled a 32) at
      (upper_nonneg integer_numbers integer_order p limits (monomial_value a) (multiplies a (few p limits a h))
      (unit p limits a h) (met p limits a h) c scaled weighted identity s))

-- ---- "Its gap is (P × q − p × Q)/(Q × q)": the values at two allowed points are at most that apart
pub bounds_gap : (p : Problem) (x X : ℤ) (q Q : ℕ) → BoundedBelow p x q → BoundedAbove p X Q
    → WithinGap p (X *ℤ pos q -ℤ x *ℤ pos Q) (Q *ℕ q)
unfolding BoundedBelow BoundedAbove WithinGap
bounds_gap p x X q Q below above a b ha hb =
    let minus = minus_of-≤ integer_ring integer_order in
    ≤-of_minus integer_ring integer_order _ _ (cross integer_numbers integer_order X x
    (objective_value p a) (objective_value p b) (pos (objective_scale a)) (pos (objective_scale b)) Q q
    (nonneg_pos (objective_scale a)) (nonneg_pos (objective_scale b)) (minus _ _ (below b hb)) (minus _ _ (above a ha)))
