-- Values at points and two bounds, worked out: the definitions give them by computing.
use mathlib.Core.Path.{◌≡◌, refl, sym, ◌∙◌}
use mathlib.Core.Bool.{true}
use mathlib.Core.List.{List, [], ◌∷◌, map}
use Prim.Native.Nat.{ℕ, zero, suc, ◌≤◌, ◌<◌, ◌+◌, ◌*◌, ◌^◌}
use native.Mathlib.Omega.{arith}
use lib.Dec.{lit≤}
use lib.ListN.{get_or, replicate}
use lib.IntN.{ℤ, pos, negsuc, pow, one}
use Rattle.counting.proofs.Cases.{clash}
use Rattle.integers.proofs.Ring.{nonneg_pos}
use Rattle.polynomial.specs.Monomial.{degree_of, degree, within, among}
use Rattle.polynomial.specs.Terms.{Term, term, keys_of}
use Rattle.polynomial.specs.Algebra.{coefficient}
use Rattle.polynomial.specs.Point.{monomial_value, value}
use Rattle.polynomial.proofs.Keys.{Keys}
use Rattle.polynomial.proofs.Sums.{coefficient_none}
use Rattle.format.specs.All.{All}
use Rattle.format.proofs.WithinLimits.{Distinct, Monomials, Limits}
use Rattle.format.proofs.ProblemLimits.{monomials_none, nothing_basis}
use Rattle.format.specs.declared.problem.Kind.{Kind}
use Rattle.format.specs.declared.problem.Kind.TheVariants as K
use Rattle.format.specs.ProblemRules.{Problem}
use Rattle.format.specs.ProblemBases.{basis_of, multiplier, kind_of}
use Rattle.format.specs.CertificateRules.{Entry, Certificate}
use Rattle.accepting.specs.Identity.{square, squares, claim_of, claim, Identity}
use Rattle.accepting.specs.Bounds.{BoundedBelow}
use Rattle.accepting.proofs.Bounds.{identity_below}

-- case A's objective, x² − 2x + 3: at 5/3 it is 25/9 − 10/3 + 3 = 22/9, and 22/9 × 3^32 = 22 × 3^30
abbrev pub case_a : List Term
case_a = term 2 (pos 1) ∷ term 1 (negsuc 1) ∷ term 0 (pos 3) ∷ []

pub five_thirds : value (record { numerators = pos 5 ∷ []; denominator = 3 }) 32 case_a ≡ pos (22 * 3 ^ 30)
unfolding value monomial_value degree degree_of pow one
five_thirds = refl

-- case F's inequality, 1 − x²: at 1/2 it is 3/4, and 3/4 × 2^16 = 3 × 2^14; at −2 it is −3, so −2 is not allowed
abbrev pub case_f : List Term
case_f = term 0 (pos 1) ∷ term 2 (negsuc 0) ∷ []

pub one_half : value (record { numerators = pos 1 ∷ []; denominator = 2 }) 16 case_f ≡ pos (3 * 2 ^ 14)
unfolding value monomial_value degree degree_of pow one
one_half = refl

pub minus_two : value (record { numerators = negsuc 1 ∷ []; denominator = 1 }) 16 case_f ≡ negsuc 2
unfolding value monomial_value degree degree_of pow one
minus_two = refl

-- two variables: the key of x1 × x2² is 1 + 2 × 256; at (2/5, −3/5) it is 18/125, and 18/125 × 5^16 = 18 × 5^13
pub two_fifths : value (record { numerators = pos 2 ∷ negsuc 2 ∷ []; denominator = 5 }) 16 (term (1 + 2 * 256) (pos 1) ∷ []) ≡ pos (18 * 5 ^ 13)
unfolding value monomial_value degree degree_of pow one
two_fifths = refl

-- "0^0 is 1": at the origin case A's objective is its constant term
pub origin : value (record { numerators = pos 0 ∷ []; denominator = 1 }) 32 case_a ≡ pos 3
unfolding value monomial_value degree degree_of pow one
origin = refl

-- ---- the objective x^e, and one condition with the terms 1 − x², which is an inequality or an equality
abbrev pub problem_with : ℕ → Kind → Problem
problem_with e k = record {
  variables = 1;
  rule = 1;
  order = 0;
  objective = term e (pos 1) ∷ [];
  conditions = record { kind = k; terms = case_f } ∷ [];
  bases = (0 ∷ 1 ∷ []) ∷ (0 ∷ []) ∷ replicate 7 [];
}

limits_with : (e : ℕ) (k : Kind) → degree e ≤ 32 → within 1 e ≡ true → Limits (problem_with e k)
unfolding All Distinct degree degree_of within among keys_of
limits_with e k low one = record {
  variables = omega arith;
  rule = omega arith;
  order = omega arith;
  objective = record {
    monomials = record { count = omega arith; degrees = (low, tt); variables = (one, tt); distinct = (refl, tt) };
    nonzero = (one_not, tt);
  };
  conditions = omega arith;
  terms = (record { monomials = zero_two; nonzero = (one_not, (minus_not, tt)) }, tt);
  bases = refl;
  members = (zero_one, (only_zero, empty));
  begun = begun;
}
  where
    one_not : pos 1 ≡ pos 0 → ⊥
    one_not e = let z : ◌≡◌ {A = ℕ} 1 0 = cc in omega arith

    minus_not : negsuc 0 ≡ pos 0 → ⊥
    minus_not e = clash (cc)

    zero_two : Monomials 1 16 32 (0 ∷ 2 ∷ [])
    zero_two = record {
      count = omega arith;
      degrees = (lit≤ tt, (lit≤ tt, tt));
      variables = (refl, (refl, tt));
      distinct = (refl, (refl, tt));
    }

    zero_one : Monomials 1 8 64 (0 ∷ 1 ∷ [])
    zero_one = record {
      count = omega arith;
      degrees = (lit≤ tt, (lit≤ tt, tt));
      variables = (refl, (refl, tt));
      distinct = (refl, (refl, tt));
    }

    only_zero : Monomials 1 8 64 (0 ∷ [])
    only_zero = record { count = omega arith; degrees = (lit≤ tt, tt); variables = (refl, tt); distinct = (refl, tt) }

    begun : (j : ℕ) → 1 < j → get_or (problem_with e k).bases j [] ≡ []
    begun zero h = absurd (omega arith)
    begun (suc zero) h = absurd (omega arith)
    begun (suc (suc j)) h = nothing_basis (suc (suc j))

    empty : All (Monomials 1 8 64) (replicate 7 [])
    empty = let e = monomials_none 1 8 64 in (e, (e, (e, (e, (e, (e, (e, tt)))))))

abbrev pub entry : ℕ → ℤ → ℕ → Entry
entry i l at = record { index = i; factor = l; place = at }

-- two polynomials that have no key above 2 are the same where they are the same at three keys
three_keys : (P Q : List Term) → Keys (λ k. k ≤ 2) P → Keys (λ k. k ≤ 2) Q
    → coefficient 0 P ≡ coefficient 0 Q → coefficient 1 P ≡ coefficient 1 Q → coefficient 2 P ≡ coefficient 2 Q
    → (k : ℕ) → coefficient k P ≡ coefficient k Q
three_keys P Q p q zeroth first second zero = zeroth
three_keys P Q p q zeroth first second (suc zero) = first
three_keys P Q p q zeroth first second (suc (suc zero)) = second
three_keys P Q p q zeroth first second (suc (suc (suc k))) =
    coefficient_none (λ k. k ≤ 2) _ P p (λ h. omega arith)
    ∙ sym (coefficient_none (λ k. k ≤ 2) _ Q q (λ h. omega arith))

-- ---- case F's lower certificate: 2(x + 1) = (1 + x)² + (1 − x²)
abbrev pub problem_f : Problem
problem_f = problem_with 1 K.Inequality

abbrev pub low_f : Certificate
low_f = record {
  header = record { side = 0; scale = 2; p = negsuc 0; q = 1 };
  rows =
      record { basis = 0; weight = pos 1; entries = entry 0 (pos 1) 14 ∷ entry 1 (pos 1) 18 ∷ [] }
      ∷ record { basis = 1; weight = pos 1; entries = entry 0 (pos 1) 26 ∷ [] }
      ∷ [];
}

-- the left side is 2 + 2x; on the right 1 + 2x + x² and 1 − x² add up to the same, the cross product 1 × x counted
-- twice
pub claim_f :
    map (λ (k : ℕ). coefficient k (claim problem_f low_f.header)) (0 ∷ 1 ∷ 2 ∷ []) ≡ pos 2 ∷ pos 2 ∷ pos 0 ∷ []
unfolding claim_of coefficient
claim_f = refl

pub squares_f :
    map (λ (k : ℕ). coefficient k (squares problem_f low_f.rows)) (0 ∷ 1 ∷ 2 ∷ []) ≡ pos 2 ∷ pos 2 ∷ pos 0 ∷ []
unfolding squares square multiplier basis_of coefficient
squares_f = refl

-- no term has another key, so the identity holds
identity_f : Identity problem_f low_f
unfolding Identity claim_of squares square multiplier basis_of coefficient
identity_f =
    three_keys (claim problem_f low_f.header) (squares problem_f low_f.rows) (omega arith) (omega arith)
    refl refl refl

-- so x is at least −1 wherever 1 − x² is at least 0
pub bound_f : BoundedBelow problem_f (negsuc 0) 1
unfolding All degree degree_of within
bound_f =
    identity_below problem_f (limits_with 1 K.Inequality (lit≤ tt) refl) low_f (lit≤ tt)
    ((λ _. nonneg_pos 1), ((λ _. nonneg_pos 1), tt)) identity_f refl

-- ---- the same terms as an equality, and a negative weight: x² − 1 = −1 × (1 − x²)
abbrev pub problem_equal : Problem
problem_equal = problem_with 2 K.Equality

abbrev pub low_equal : Certificate
low_equal = record {
  header = record { side = 0; scale = 1; p = pos 1; q = 1 };
  rows = record { basis = 1; weight = negsuc 0; entries = entry 0 (pos 1) 14 ∷ [] } ∷ [];
}

identity_equal : Identity problem_equal low_equal
unfolding Identity claim_of squares square multiplier basis_of coefficient
identity_equal =
    three_keys (claim problem_equal low_equal.header) (squares problem_equal low_equal.rows)
    (omega arith) (omega arith) refl refl refl

-- so x² is at least 1 wherever 1 − x² is 0, as it is not wherever 1 − x² is at least 0
pub bound_equal : BoundedBelow problem_equal (pos 1) 1
unfolding All degree degree_of within kind_of
bound_equal =
    identity_below problem_equal (limits_with 2 K.Equality (lit≤ tt) refl) low_equal (lit≤ tt) ((λ e. clash (cc)), tt)
    identity_equal refl
