-- The clauses of the call on two problems, from its equation.
use mathlib.Core.Path.{◌≡◌, refl, sym, ap, ap₂, ◌∙◌}
use mathlib.Core.Bool.{Bool, true, false, cond}
use mathlib.Core.List.{List}
use mathlib.Core.Logic.{◌⊎◌, inl, inr}
use Prim.Native.Nat.{ℕ, ◌+◌, ◌*◌ as ◌*ℕ◌, ◌≤◌, ◌<◌}
use native.Mathlib.Omega.{arith}
use lib.Dec.{eqb}
use lib.IntN.{ℤ, pos, ◌+ℤ◌, ◌*ℤ◌}
use lib.Signed.{◌≤ℤ◌}
use borrow.Author.Tests.{eqb-true, eqb-false}
use Rattle.counting.proofs.Cases.{never}
use Rattle.ordered_rings.specs.Rings.{Order}
use Rattle.ordered_rings.proofs.Laws.{sorted}
use Rattle.ordered_rings.proofs.Numbers.{Numbers}
use Rattle.ordered_rings.proofs.AtLeastZero.{Nonneg, ≤-of_minus, minus_of-≤, nonneg-+, nonneg_multiple}
use Rattle.ordered_rings.proofs.Integers.{integer_ring, integer_numbers, integer_order}
use Rattle.polynomial.specs.Point.{Point}
use Rattle.format.specs.Commands.{Outcome, refused, given}
use Rattle.format.specs.ProblemRules.{Problem, read_problem}
use Rattle.accepting.specs.Bounds.{Allowed, objective_value, objective_scale, BoundedBelow, BoundedAbove}
use Rattle.calls.specs.declared.Refusal.{Refusal}
use Rattle.calls.specs.declared.PairVerdict.{PairVerdict}
use Rattle.calls.specs.declared.SumVerdict.{SumVerdict}
use Rattle.calls.specs.Refusals.{no_refusal, problem_refusal}
use Rattle.calls.specs.Promises.{Stated, PairExactly, HoldsBelow, HoldsAbove, RuleUsed}
use Rattle.calls.specs.AddedBounds.{sum_of, same_region, same_region_read, refused_sum, accepted_sum, of_second}
use Rattle.calls.specs.AddedBounds.{sum_second, sum_pairs, Streams, streams, pair_by, sum_verdict, sum_value}
use Rattle.calls.specs.AddedBounds.{SumNumbered, SameRegion, SumStated, BothPairs, SumExactly, RegionsDiffer}
use Rattle.calls.specs.AddedBounds.{FifteenExactly, PairRefusals, SumBetween, HoldsBetween, SameSums, SumKept}
use Rattle.calls.specs.Rules.{UnderOne, AtLarger, SameBounds}
use Rattle.calls.specs.Zeros.{RefusalZeros, PairZeros, SumZeros}
use Rattle.calls.specs.RowOrder.{SumAnyOrder}
use Rattle.calls.proofs.AnyOrder.{sum_any_order}
use Rattle.calls.proofs.Zeros.{none_zeros, problem_zeros, zero_fraction}
use Rattle.calls.proofs.Rules.{AllLead, under_leads, larger_leads}
use Rattle.calls.proofs.Stays.{Decides, decides_kept}
use Rattle.calls.proofs.Regions.{region_equal, region_same, region_allowed, region_back}
use Rattle.calls.proofs.Pairing.{pair_clauses, pair_stream, pair_opens, pair_zeros}

-- ---- two bounds at one point: from x/y ≤ v/c and x'/y' ≤ w/c, (x y' + x' y)/(y y') ≤ (v + w)/c, by cross products;
-- and with the signs turned
module _ {A : Type 0} (N : Numbers A) (O : Order N.ring) where
  open N use {ring, whole}
  open ring use {◌+◌, -◌, ◌*◌}

  module _ (x x' v w c : A) (y y' : ℕ) where
    weighed : {s t : A} → Nonneg ring O s → Nonneg ring O t
        → Nonneg ring O (whole (pos y') * s + whole (pos y) * t)
    weighed {s} {t} h k =
        nonneg-+ ring O (O.≤-* _ s (nonneg_multiple N O y') h) (O.≤-* _ t (nonneg_multiple N O y) k)

    pub added_below : Nonneg ring O (whole (pos y) * v + - (x * c)) → Nonneg ring O (whole (pos y') * w + - (x' * c))
        → Nonneg ring O ((whole (pos y) * whole (pos y')) * (v + w)
        + - ((x * whole (pos y') + x' * whole (pos y)) * c))
    added_below h k = rw same at (weighed h k)
      where
        same : whole (pos y') * (whole (pos y) * v + - (x * c)) + whole (pos y) * (whole (pos y') * w + - (x' * c))
            ≡ (whole (pos y) * whole (pos y')) * (v + w) + - ((x * whole (pos y') + x' * whole (pos y)) * c)
        same = simp (sorted, ring)

    pub added_above : Nonneg ring O (x * c + - (whole (pos y) * v)) → Nonneg ring O (x' * c + - (whole (pos y') * w))
        → Nonneg ring O ((x * whole (pos y') + x' * whole (pos y)) * c
        + - ((whole (pos y) * whole (pos y')) * (v + w)))
    added_above h k = rw same at (weighed h k)
      where
        same : whole (pos y') * (x * c + - (whole (pos y) * v)) + whole (pos y) * (x' * c + - (whole (pos y') * w))
            ≡ (x * whole (pos y') + x' * whole (pos y)) * c + - ((whole (pos y) * whole (pos y')) * (v + w))
        same = simp (sorted, ring)

-- at a rational point that is allowed for both problems
module _ (p q : Problem) (x x' : ℤ) (y y' : ℕ) (a : Point) (h : Allowed p a) (k : Allowed q a) where
  sum_below : BoundedBelow p x y → BoundedBelow q x' y'
      → ((x *ℤ pos y' +ℤ x' *ℤ pos y) *ℤ pos (objective_scale a)) ≤ℤ (pos (y *ℕ y') *ℤ sum_value p q a)
  unfolding BoundedBelow
  sum_below below below' =
      let minus = minus_of-≤ integer_ring integer_order in
      ≤-of_minus integer_ring integer_order _ _ (added_below integer_numbers integer_order x x' (objective_value p a)
      (objective_value q a) (pos (objective_scale a)) y y' (minus _ _ (below a h)) (minus _ _ (below' a k)))

  sum_above : BoundedAbove p x y → BoundedAbove q x' y'
      → (pos (y *ℕ y') *ℤ sum_value p q a) ≤ℤ ((x *ℤ pos y' +ℤ x' *ℤ pos y) *ℤ pos (objective_scale a))
  unfolding BoundedAbove
  sum_above above above' =
      let minus = minus_of-≤ integer_ring integer_order in
      ≤-of_minus integer_ring integer_order _ _ (added_above integer_numbers integer_order x x' (objective_value p a)
      (objective_value q a) (pos (objective_scale a)) y y' (minus _ _ (above a h)) (minus _ _ (above' a k)))

-- ---- what the pair promises of one problem's streams
record Kept (short : Bool) (a : Streams) (w : PairVerdict) : Type 0 where
  most : w.refusal.number ≤ 10
  stream : w.refusal.stream ≤ 2
  exactly : PairExactly short a.problem a.low a.high w
  below : HoldsBelow a.problem w.refusal.number w.lower
  above : HoldsAbove a.problem w.refusal.number w.upper
  rule : RuleUsed a.problem w.refusal.number w.rule
  zeros : PairZeros w

kept : (short : Bool) (a : Streams) → Kept short a (pair_by short a)
kept short a =
    let k = pair_clauses short a.problem a.low a.high (pair_by short a) refl in
    record {
      most = k.0;
      stream = pair_stream short a.problem a.low a.high (pair_by short a) refl;
      exactly = k.1.0;
      below = k.1.1.1.0;
      above = k.1.1.1.1.0;
      rule = k.1.1.1.1.1.1.1.1.1.0;
      zeros = pair_zeros short a.problem a.low a.high (pair_by short a) refl;
    }

-- where the pair a is accepted, c is accepted with the same bounds
record Alike (v w : PairVerdict) : Type 0 where
  refusal : w.refusal.number ≡ 0
  lower : w.lower ≡ v.lower
  upper : w.upper ≡ v.upper

abbrev PairsAlike : Bool → Streams → Streams → Type 0
PairsAlike short a c = (pair_by short a).refusal.number ≡ 0 → Alike (pair_by short a) (pair_by short c)

itself : {v : PairVerdict} → v.refusal.number ≡ 0 → Alike v v
itself z = record { refusal = z; lower = refl; upper = refl }

alike : {v w : PairVerdict} → (v.refusal.number ≡ 0 → (w.refusal ≡ no_refusal) × SameBounds w v) → v.refusal.number ≡ 0
    → Alike v w
alike h z =
    let k = h z in
    record { refusal = ap (λ (u : Refusal). u.number) k.0; lower = k.1.0; upper = k.1.1.0 }

-- ---- how the call ends
module _ (same : Bool) (v w : PairVerdict) where
  data Ended (r : SumVerdict) : Type 0 where
    first_refused : (v.refusal.number ≡ 0 → ⊥) → r ≡ refused_sum v.refusal → Ended r
    second_refused : v.refusal.number ≡ 0 → (w.refusal.number ≡ 0 → ⊥) → r ≡ refused_sum (of_second w.refusal)
        → Ended r
    differing : v.refusal.number ≡ 0 → w.refusal.number ≡ 0 → same ≡ false → r ≡ refused_sum (problem_refusal 15 0)
        → Ended r
    accepted : v.refusal.number ≡ 0 → w.refusal.number ≡ 0 → same ≡ true → r ≡ accepted_sum v w → Ended r

  ends : Ended (sum_pairs same v w)
  unfolding sum_pairs sum_second
  ends = go (eqb v.refusal.number 0) (eqb w.refusal.number 0) same refl refl refl
    where
      go : (x y z : Bool) → eqb v.refusal.number 0 ≡ x → eqb w.refusal.number 0 ≡ y → same ≡ z
          → Ended (cond x (cond y (cond z (accepted_sum v w) (refused_sum (problem_refusal 15 0)))
          (refused_sum (of_second w.refusal))) (refused_sum v.refusal))
      go true true true e f g = accepted (eqb-true _ _ e) (eqb-true _ _ f) g refl
      go true true false e f g = differing (eqb-true _ _ e) (eqb-true _ _ f) g refl
      go true false z e f g = second_refused (eqb-true _ _ e) (eqb-false _ _ f) refl
      go false y z e f g = first_refused (eqb-false _ _ e) refl

module _ (short : Bool) (a b : Streams) (r : SumVerdict) (is : r ≡ sum_verdict short a b) where
  abbrev v : PairVerdict
  v = pair_by short a

  abbrev w : PairVerdict
  w = pair_by short b

  abbrev same : Bool
  same = same_region_read (read_problem a.problem) (read_problem b.problem)

  ended : Ended same v w r
  unfolding sum_verdict
  ended = rw is (ends same v w)

  number_is : (u : SumVerdict) → r ≡ u → r.refusal.number ≡ u.refusal.number
  number_is u e = ap (λ (x : SumVerdict). x.refusal.number) e

  -- where both streams give a problem, 15 is asked of these
  compared : (p q : Problem) → read_problem a.problem ≡ given p → read_problem b.problem ≡ given q
      → same ≡ same_region p q
  compared p q e f = rw (e, f)

  numbered : SumNumbered r.refusal.number
  numbered = go ended
    where
      go : Ended same v w r → SumNumbered r.refusal.number
      go (first_refused h e) = inl (omega (arith, number_is _ e, (kept short a).most))
      go (second_refused h k e) = inl (omega (arith, number_is _ e, (kept short b).most))
      go (differing h k i e) = inr (number_is _ e)
      go (accepted h k i e) = inl (omega (arith, number_is _ e))

  -- ---- where nothing is refused
  found : r.refusal.number ≡ 0 → (v.refusal.number ≡ 0) × ((w.refusal.number ≡ 0) × ((same ≡ true) × (r ≡ accepted_sum v w)))
  found z = go ended
    where
      go : Ended same v w r → (v.refusal.number ≡ 0) × ((w.refusal.number ≡ 0) × ((same ≡ true) × (r ≡ accepted_sum v w)))
      go (first_refused h e) = absurd (h (sym (number_is _ e) ∙ z))
      go (second_refused h k e) = absurd (k (sym (number_is _ e) ∙ z))
      go (differing h k i e) = absurd (omega (arith, number_is _ e))
      go (accepted h k i e) = (h, (k, (i, e)))

  stated : r.refusal.number ≡ 0 → SumStated short a b r
  stated z =
      let k = found z in
      let first = (kept short a).exactly.only k.0 in
      let second = (kept short b).exactly.only k.1.0 in
      let p = first.problem in
      let q = second.problem in
      record {
        first = first;
        second = second;
        region = region_equal p q (sym (compared p q first.read second.read) ∙ k.1.1.0);
        lower = ap (λ (x : SumVerdict). x.lower) k.1.1.1 ∙ ap₂ sum_of first.lower second.lower;
        upper = ap (λ (x : SumVerdict). x.upper) k.1.1.1 ∙ ap₂ sum_of first.upper second.upper;
      }

  -- two pairs that hold are accepted
  module _ (p q : Problem) (both : BothPairs short a b p q) where
    first_passes : v.refusal.number ≡ 0
    first_passes = (kept short a).exactly.always p _ _ both.first both.hold

    second_passes : w.refusal.number ≡ 0
    second_passes = (kept short b).exactly.always q _ _ both.second both.second_hold

    asked : same ≡ same_region p q
    asked = compared p q both.first.read both.second.read

    always : SameRegion p q → r.refusal.number ≡ 0
    always s = go ended
      where
        go : Ended same v w r → r.refusal.number ≡ 0
        go (first_refused h e) = absurd (h first_passes)
        go (second_refused h k e) = absurd (k second_passes)
        go (differing h k i e) = never (sym i ∙ asked ∙ region_same p q s)
        go (accepted h k i e) = number_is _ e

    differs : (SameRegion p q → ⊥) → r.refusal.number ≡ 15
    differs s = go ended
      where
        go : Ended same v w r → r.refusal.number ≡ 15
        go (first_refused h e) = absurd (h first_passes)
        go (second_refused h k e) = absurd (k second_passes)
        go (differing h k i e) = number_is _ e
        go (accepted h k i e) = absurd (s (region_equal p q (sym asked ∙ i)))

  sum_exactly : SumExactly short a b r
  sum_exactly = record { only = stated; always = always }

  -- ---- refusal 15
  fifteen : FifteenExactly short a b r.refusal
  fifteen = record { only = λ z. go z ended; always = differs }
    where
      go : r.refusal.number ≡ 15 → Ended same v w r
          → (r.refusal ≡ problem_refusal 15 0) × RegionsDiffer short a b
      go z (first_refused h e) = absurd (omega (arith, number_is _ e, (kept short a).most))
      go z (second_refused h k e) = absurd (omega (arith, number_is _ e, (kept short b).most))
      go z (differing h k i e) =
          let first = (kept short a).exactly.only h in
          let second = (kept short b).exactly.only k in
          let p = first.problem in
          let q = second.problem in (
            ap (λ (x : SumVerdict). x.refusal) e,
            record {
              first = first;
              second = second;
              differ = λ s. never (sym i ∙ compared p q first.read second.read ∙ region_same p q s);
            },
          )
      go z (accepted h k i e) = absurd (omega (arith, number_is _ e))

  -- ---- the pairs' own refusals
  pair_refusals : PairRefusals short a b r.refusal
  pair_refusals = record {
    first = λ n. let e = first n ended in (e, omega (arith, ap (λ (u : Refusal). u.stream) e, (kept short a).stream));
    second = λ h n.
        let e = second h n ended in
        let s = ap (λ (u : Refusal). u.stream) e in
        (e, (omega arith, omega (arith, (kept short b).stream)));
  }
    where
      first : (v.refusal.number ≡ 0 → ⊥) → Ended same v w r → r.refusal ≡ v.refusal
      first n (first_refused h e) = ap (λ (x : SumVerdict). x.refusal) e
      first n (second_refused h k e) = absurd (n h)
      first n (differing h k i e) = absurd (n h)
      first n (accepted h k i e) = absurd (n h)

      second : v.refusal.number ≡ 0 → (w.refusal.number ≡ 0 → ⊥) → Ended same v w r
          → r.refusal ≡ of_second w.refusal
      second z n (first_refused h e) = absurd (h z)
      second z n (second_refused h k e) = ap (λ (x : SumVerdict). x.refusal) e
      second z n (differing h k i e) = absurd (n k)
      second z n (accepted h k i e) = absurd (n k)

  -- ---- at every point of the region
  between : HoldsBetween a b r
  between p q e f z =
      let k = found z in
      let one = region_equal p q (sym (compared p q e f) ∙ k.1.1.0) in
      let there = region_allowed p q one in
      let x = kept short a in
      let y = kept short b in
      rw k.1.1.1 (record {
        region = λ c. (there c, region_allowed q p (region_back one) c);
        below = λ c h. sum_below p q _ _ _ _ c h (there c h) (x.below p e k.0) (y.below q f k.1.0);
        above = λ c h. sum_above p q _ _ _ _ c h (there c h) (x.above p e k.0) (y.above q f k.1.0);
      })

  -- ---- the rules
  rules : RuleUsed a.problem r.refusal.number r.rules.first
      × RuleUsed b.problem r.refusal.number r.rules.second
  rules = go ended
    where
      rule_refused : (u : Refusal) (s : List ℕ) (n : ℕ) → (u.number ≡ 0 → ⊥) → n ≡ u.number → RuleUsed s n 0
      rule_refused u s n h e = record { named = λ z. absurd (h (sym e ∙ z)); refused = λ _. refl }

      go : Ended same v w r
          → RuleUsed a.problem r.refusal.number r.rules.first
          × RuleUsed b.problem r.refusal.number r.rules.second
      go (first_refused h e) = rw e (rule_refused v.refusal _ _ h refl, rule_refused v.refusal _ _ h refl)
      go (second_refused h k e) = rw e (rule_refused w.refusal _ _ k refl, rule_refused w.refusal _ _ k refl)
      go (differing h k i e) =
          let n : ((problem_refusal 15 0).number ≡ 0 → ⊥) = λ z. omega arith in
          rw e (rule_refused (problem_refusal 15 0) _ _ n refl, rule_refused (problem_refusal 15 0) _ _ n refl)
      go (accepted h k i e) = rw e (rw h at (kept short a).rule, rw k at (kept short b).rule)

  -- ---- the zeros
  zeros : SumZeros r
  zeros = go ended
    where
      with_refusal_lem : (u : Refusal) → RefusalZeros u → SumZeros (refused_sum u)
      with_refusal_lem u z = record {
        refusal = z;
        lower = λ _. zero_fraction;
        upper = λ _. zero_fraction;
        first_rule = λ _. refl;
        second_rule = λ _. refl;
      }

      -- with another stream
      of_second_lem : (u : Refusal) → (u.number ≡ 0 → ⊥) → RefusalZeros u → RefusalZeros (of_second u)
      of_second_lem u n z = record { stream = λ e. absurd (n e); place = λ e. absurd (n e); key = z.key }

      go : Ended same v w r → SumZeros r
      go (first_refused h e) = rw e (with_refusal_lem _ (kept short a).zeros.refusal)
      go (second_refused h k e) = rw e (with_refusal_lem _ (of_second_lem w.refusal k (kept short b).zeros.refusal))
      go (differing h k i e) = rw e (with_refusal_lem _ (problem_zeros 15 0 (omega arith)))
      go (accepted h k i e) =
          rw e (record {
            refusal = none_zeros;
            lower = λ h. absurd (omega arith);
            upper = λ h. absurd (omega arith);
            first_rule = λ h. absurd (omega arith);
            second_rule = λ h. absurd (omega arith);
          })

-- ---- under rule 1, or at a larger order: the call looks at the bounds of both pairs, and at the region
-- another problem over the same region, on either side
region_left : (p q : Problem) (o : Outcome Problem) → q.variables ≡ p.variables → q.conditions ≡ p.conditions
    → same_region_read (given q) o ≡ same_region_read (given p) o
unfolding same_region
region_left p q (refused n place) e f = refl
region_left p q (given x) e f = rw (e, f)

region_right : (p q : Problem) (o : Outcome Problem) → q.variables ≡ p.variables → q.conditions ≡ p.conditions
    → same_region_read o (given q) ≡ same_region_read o (given p)
unfolding same_region
region_right p q (refused n place) e f = refl
region_right p q (given x) e f = rw (e, f)

module _ (short : Bool) (a b : Streams) where
  -- two pairs with the bounds of an accepted call, over one region: the same sums
  same_sums : (c d : Streams) → (sum_verdict short a b).refusal.number ≡ 0
      → PairsAlike short a c → PairsAlike short b d
      → same_region_read (read_problem c.problem) (read_problem d.problem)
      ≡ same_region_read (read_problem a.problem) (read_problem b.problem)
      → ((sum_verdict short c d).refusal ≡ no_refusal) × SameSums (sum_verdict short c d) (sum_verdict short a b)
  same_sums c d h x y region = go (ended short c d _ refl)
    where
      k : ((pair_by short a).refusal.number ≡ 0) × (((pair_by short b).refusal.number ≡ 0)
          × ((same_region_read (read_problem a.problem) (read_problem b.problem) ≡ true)
          × (sum_verdict short a b ≡ accepted_sum (pair_by short a) (pair_by short b))))
      k = found short a b _ refl h

      go : Ended (same_region_read (read_problem c.problem) (read_problem d.problem)) (pair_by short c) (pair_by short d)
          (sum_verdict short c d)
          → ((sum_verdict short c d).refusal ≡ no_refusal) × SameSums (sum_verdict short c d) (sum_verdict short a b)
      go (first_refused n e) = absurd (n (x k.0).refusal)
      go (second_refused m n e) = absurd (n (y k.1.0).refusal)
      go (differing m n i e) = never (sym i ∙ region ∙ k.1.1.0)
      go (accepted m n i e) = (
        ap (λ (u : SumVerdict). u.refusal) e,
        (
          ap (λ (u : SumVerdict). u.lower) e
              ∙ ap₂ sum_of (x k.0).lower (y k.1.0).lower
              ∙ sym (ap (λ (u : SumVerdict). u.lower) k.1.1.1),
          ap (λ (u : SumVerdict). u.upper) e
              ∙ ap₂ sum_of (x k.0).upper (y k.1.0).upper
              ∙ sym (ap (λ (u : SumVerdict). u.upper) k.1.1.1),
        ),
      )

  first_decides : Decides (problem_refusal 7 0) (λ w. w.refusal) SameSums
      (λ t. sum_verdict short (streams t a.low a.high) b) short a.problem
  first_decides = record {
    opens = λ h. pair_opens short a.problem a.low a.high _ refl (found short a b _ refl h).0;
    refuses = λ t s h.
        let c = streams t a.low a.high in
        let e = ap (λ (u : PairVerdict). u.refusal) (s.pair a.low a.high) in
        ((pair_refusals short c b _ refl).first (λ z. omega (arith, ap (λ (u : Refusal). u.number) e))).0 ∙ e;
    accepts = λ t s h.
        same_sums (streams t a.low a.high) b h (alike (s.pair a.low a.high)) (λ z. itself z)
        (ap (λ (o : Outcome Problem). same_region_read o (read_problem b.problem)) s.other_read
        ∙ region_left s.problem s.other (read_problem b.problem) s.variables s.conditions
        ∙ sym (ap (λ (o : Outcome Problem). same_region_read o (read_problem b.problem)) s.read));
  }

  second_decides : Decides (of_second (problem_refusal 7 0)) (λ w. w.refusal) SameSums
      (λ t. sum_verdict short a (streams t b.low b.high)) short b.problem
  second_decides = record {
    opens = λ h. pair_opens short b.problem b.low b.high _ refl (found short a b _ refl h).1.0;
    refuses = λ t s h.
        let d = streams t b.low b.high in
        let e = ap (λ (u : PairVerdict). u.refusal) (s.pair b.low b.high) in
        ((pair_refusals short a d _ refl).second (found short a b _ refl h).0 (λ z. omega (arith, ap (λ (u : Refusal). u.number) e))).0
        ∙ ap of_second e;
    accepts = λ t s h.
        same_sums a (streams t b.low b.high) h (λ z. itself z) (alike (s.pair b.low b.high))
        (ap (same_region_read (read_problem a.problem)) s.other_read
        ∙ region_right s.problem s.other (read_problem a.problem) s.variables s.conditions
        ∙ sym (ap (same_region_read (read_problem a.problem)) s.read));
  }

  kept_sums : (R : List ℕ → List ℕ → Type 0) → ((s t : List ℕ) → R s t → AllLead s t) → SumKept R short a b (sum_verdict short a b)
  kept_sums R leads = record {
    first = decides_kept first_decides R (leads a.problem);
    second = decides_kept second_decides R (leads b.problem);
  }

-- all of them
module _ (short : Bool) (a b : Streams) (r : SumVerdict) (is : r ≡ sum_verdict short a b) where
  sums_kept : (R : List ℕ → List ℕ → Type 0) → ((s t : List ℕ) → R s t → AllLead s t) → SumKept R short a b r
  sums_kept R leads = rw is (kept_sums short a b R leads)

  pub sum_clauses : SumNumbered r.refusal.number
      × (SumExactly short a b r
      × (FifteenExactly short a b r.refusal
      × (PairRefusals short a b r.refusal
      × (HoldsBetween a b r
      × (RuleUsed a.problem r.refusal.number r.rules.first
      × (RuleUsed b.problem r.refusal.number r.rules.second
      × (SumZeros r
      × (SumKept UnderOne short a b r × (SumKept AtLarger short a b r × SumAnyOrder short a b r)))))))))
  sum_clauses = (
    numbered short a b r is,
    (
      sum_exactly short a b r is,
      (
        fifteen short a b r is,
        (
          pair_refusals short a b r is,
          (
            between short a b r is,
            (
              (rules short a b r is).0,
              (
                (rules short a b r is).1,
                (
                  zeros short a b r is,
                  (sums_kept UnderOne under_leads, (sums_kept AtLarger larger_leads, sum_any_order short a b r is)),
                ),
              ),
            ),
          ),
        ),
      ),
    ),
  )
