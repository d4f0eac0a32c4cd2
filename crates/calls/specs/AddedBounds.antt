-- Request 12 of document 02, "Two errors added": what the call on two problems with a pair for each returns, for all
-- inputs; then what it promises.
use Rattle.std.specs.Prelude.{◌≡◌, Bool, true, false, cond, ◌&&◌, List, [], ◌∷◌, ◌⊎◌, ℕ, ◌+◌, ◌*◌, ◌≤◌, eqb, ℤ, pos, ◌+ℤ◌, ◌*ℤ◌, ◌≤ℤ◌}
use Rattle.polynomial.specs.Point.{Point}
use Rattle.format.specs.Commands.{Outcome, refused, given}
use Rattle.format.specs.declared.problem.Kind.{Kind}
use Rattle.format.specs.declared.problem.Kind.TheVariants as K
use Rattle.format.specs.ProblemRules.{Condition, Problem, read_problem}
use Rattle.format.specs.CertificateRules.{Certificate}
use Rattle.accepting.specs.Bounds.{Allowed, objective_value, objective_scale}
use Rattle.calls.specs.Fractions.{fraction, none}
use Rattle.calls.specs.SameTerms.{same_terms}
use Rattle.calls.specs.Refusals.{no_refusal, problem_refusal}
use Rattle.calls.specs.Check.{bound_of}
use Rattle.calls.specs.Pair.{pair_verdict}
use Rattle.calls.specs.Promises.{Within, BothHold, Stated}
use Rattle.calls.specs.Rules.{Kept, KeptUnless}
use Rattle.calls.specs.declared.Fraction.{Fraction}
use Rattle.calls.specs.declared.Refusal.{Refusal}
use Rattle.calls.specs.declared.PairVerdict.{PairVerdict}
use Rattle.calls.specs.declared.RulesUsed.{RulesUsed}
use Rattle.calls.specs.declared.SumVerdict.{SumVerdict}

-- ---- "the sum of the lower bounds and of the upper bounds, each over the product of the denominators, unreduced"
abbrev pub sum_of : Fraction → Fraction → Fraction
sum_of f g = fraction (f.num *ℤ pos g.den +ℤ g.num *ℤ pos f.den) (f.den * g.den)

-- ---- one region: the opposite of "15 when the numbers of variables or of conditions differ, or two conditions of one
-- number differ in kind (03 or 07) or, term by term as sent, in terms"
abbrev pub same_kind : Kind → Kind → Bool
same_kind K.Inequality K.Inequality = true
same_kind K.Inequality K.Equality = false
same_kind K.Equality K.Inequality = false
same_kind K.Equality K.Equality = true

abbrev pub same_conditions : List Condition → List Condition → Bool
same_conditions [] [] = true
same_conditions [] (h ∷ hs) = false
same_conditions (g ∷ gs) [] = false
same_conditions (g ∷ gs) (h ∷ hs) =
    same_kind g.kind h.kind && (same_terms g.terms h.terms && same_conditions gs hs)

unfoldable pub same_region : Problem → Problem → Bool
same_region p q = eqb p.variables q.variables && same_conditions p.conditions q.conditions

-- of what two streams give. It is asked "after both pairs", where both give a problem
abbrev pub same_region_read : Outcome Problem → Outcome Problem → Bool
same_region_read (given p) (given q) = same_region p q
same_region_read (given p) (refused number place) = false
same_region_read (refused number place) o = false

-- ---- the verdict
abbrev pub rules_used : ℕ → ℕ → RulesUsed
rules_used first second = record { first = first; second = second }

-- a refusal: "all other fields are 0"
abbrev pub refused_sum : Refusal → SumVerdict
refused_sum r = record { refusal = r; lower = none; upper = none; rules = rules_used 0 0 }

-- "It returns the sum of the lower bounds and of the upper bounds .., and the rule used by each problem"
abbrev pub accepted_sum : PairVerdict → PairVerdict → SumVerdict
accepted_sum v w = record {
  refusal = no_refusal;
  lower = sum_of v.lower w.lower;
  upper = sum_of v.upper w.upper;
  rules = rules_used v.rule w.rule;
}

-- a refusal of the second problem's pair, "whose streams are 3 to 5"
abbrev pub of_second : Refusal → Refusal
of_second f = record { number = f.number; stream = f.stream + 3; place = f.place; key = f.key }

-- the second pair, after the first was accepted; 15 "after both pairs, with stream and place 0"
unfoldable pub sum_second : Bool → PairVerdict → PairVerdict → SumVerdict
sum_second same v w =
    cond (eqb w.refusal.number 0)
    (cond same (accepted_sum v w) (refused_sum (problem_refusal 15 0)))
    (refused_sum (of_second w.refusal))

-- "Refusals of the first problem's pair come before the second's"
unfoldable pub sum_pairs : Bool → PairVerdict → PairVerdict → SumVerdict
sum_pairs same v w = cond (eqb v.refusal.number 0) (sum_second same v w) (refused_sum v.refusal)

-- "two problems and a pair for each": the streams of one of them
pub record Streams : Type 0 where
  pub problem : List ℕ
  pub low : List ℕ
  pub high : List ℕ

abbrev pub streams : List ℕ → List ℕ → List ℕ → Streams
streams problem low high = record { problem = problem; low = low; high = high }

abbrev pub pair_by : Bool → Streams → PairVerdict
pair_by short a = pair_verdict short a.problem a.low a.high

-- refusal 1 is the first pair's
unfoldable pub sum_verdict : Bool → Streams → Streams → SumVerdict
sum_verdict short a b =
    sum_pairs (same_region_read (read_problem a.problem) (read_problem b.problem)) (pair_by short a) (pair_by short b)

-- ---- what the call promises. a and b are the streams of the two problems, v is what is returned, and f its refusal;
-- short is true where a work table is too short
-- the number is 0, one of the pair's ten, or 15
abbrev pub SumNumbered : ℕ → Type 0
SumNumbered number = (number ≤ 10) ⊎ (number ≡ 15)

-- the same number of variables and the same conditions, number by number: kind, and terms in the order sent
pub record SameRegion (p q : Problem) : Type 0 where
  pub variables : p.variables ≡ q.variables
  pub conditions : p.conditions ≡ q.conditions

-- what an accepted call states: both pairs are accepted, over one region, and the sums are of the bounds that the four
-- certificates state
pub record SumStated (short : Bool) (a b : Streams) (v : SumVerdict) : Type 0 where
  pub first : Stated a.problem a.low a.high (pair_by short a)
  pub second : Stated b.problem b.low b.high (pair_by short b)
  pub region : SameRegion first.problem second.problem
  pub lower : v.lower ≡ sum_of (bound_of first.first.header) (bound_of second.first.header)
  pub upper : v.upper ≡ sum_of (bound_of first.second.header) (bound_of second.second.header)

-- two problems within their limits, with certificates that hold
pub record BothPairs (short : Bool) (a b : Streams) (p q : Problem) : Type 0 where
  pub first : Within short a.problem p
  pub second : Within short b.problem q
  pub low : Certificate
  pub high : Certificate
  pub hold : BothHold p a.low a.high low high
  pub second_low : Certificate
  pub second_high : Certificate
  pub second_hold : BothHold q b.low b.high second_low second_high

-- the call accepts only what is so stated, and it accepts both pairs that hold over one region
pub record SumExactly (short : Bool) (a b : Streams) (v : SumVerdict) : Type 0 where
  pub only : v.refusal.number ≡ 0 → SumStated short a b v
  pub always : (p q : Problem) → BothPairs short a b p q → SameRegion p q → v.refusal.number ≡ 0

-- both pairs are accepted, and the regions differ
pub record RegionsDiffer (short : Bool) (a b : Streams) : Type 0 where
  pub first : Stated a.problem a.low a.high (pair_by short a)
  pub second : Stated b.problem b.low b.high (pair_by short b)
  pub differ : SameRegion first.problem second.problem → ⊥

-- refusal 15 is given exactly there, "with stream and place 0"
pub record FifteenExactly (short : Bool) (a b : Streams) (f : Refusal) : Type 0 where
  pub only : f.number ≡ 15 → (f ≡ problem_refusal 15 0) × RegionsDiffer short a b
  pub always : (p q : Problem) → BothPairs short a b p q → (SameRegion p q → ⊥) → f.number ≡ 15

-- "Refusals of the first problem's pair come before the second's, whose streams are 3 to 5"
pub record PairRefusals (short : Bool) (a b : Streams) (f : Refusal) : Type 0 where
  pub first : ((pair_by short a).refusal.number ≡ 0 → ⊥) → (f ≡ (pair_by short a).refusal) × (f.stream ≤ 2)
  pub second : (pair_by short a).refusal.number ≡ 0 → ((pair_by short b).refusal.number ≡ 0 → ⊥)
      → (f ≡ of_second (pair_by short b).refusal) × ((3 ≤ f.stream) × (f.stream ≤ 5))

-- ---- "At every point of the region the sum of the two objectives is between them"
-- the sum of the two objectives' values, scaled by c^32
abbrev pub sum_value : Problem → Problem → Point → ℤ
sum_value p q a = objective_value p a +ℤ objective_value q a

-- the points of the region are the allowed points of either problem; there the sum V of the two objectives is between
-- the sums p/q and P/Q: "p × c^32 ≤ q × V" and "Q × V ≤ P × c^32"
pub record SumBetween (p q : Problem) (lower upper : Fraction) : Type 0 where
  pub region : (a : Point) → (Allowed p a → Allowed q a) × (Allowed q a → Allowed p a)
  pub below : (a : Point) → Allowed p a
      → (lower.num *ℤ pos (objective_scale a)) ≤ℤ (pos lower.den *ℤ sum_value p q a)
  pub above : (a : Point) → Allowed p a
      → (pos upper.den *ℤ sum_value p q a) ≤ℤ (upper.num *ℤ pos (objective_scale a))

-- where nothing is refused
abbrev pub HoldsBetween : Streams → Streams → SumVerdict → Type 0
HoldsBetween a b v =
    (p q : Problem) → read_problem a.problem ≡ given p → read_problem b.problem ≡ given q
    → v.refusal.number ≡ 0 → SumBetween p q v.lower v.upper

-- ---- between two streams that differ in the joining rule, or in the sparse order (Rules.antt has the relations R)
abbrev pub SameSums : SumVerdict → SumVerdict → Type 0
SameSums w v = (w.lower ≡ v.lower) × (w.upper ≡ v.upper)

-- "what is accepted under 2 is accepted under 1 unless refusal 7 applies there", with the same sums: for the stream of
-- either problem. 7 of the second problem has stream 3
pub record SumKept (R : List ℕ → List ℕ → Type 0) (short : Bool) (a b : Streams) (v : SumVerdict) : Type 0 where
  pub first : Kept (λ w. w.refusal) SameSums (λ t. sum_verdict short (streams t a.low a.high) b) R a.problem v
  pub second : KeptUnless (of_second (problem_refusal 7 0)) (λ w. w.refusal) SameSums
      (λ t. sum_verdict short a (streams t b.low b.high)) R b.problem v
