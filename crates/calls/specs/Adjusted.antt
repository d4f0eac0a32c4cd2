-- Request 13 of document 02, "How far an adjusted coefficient moves the bound": what the call returns, for all inputs;
-- then what it promises.
use Rattle.std.specs.Prelude.{◌≡◌, Bool, true, false, cond, not, ◌&&◌, ◌||◌, List, [], ◌∷◌, ◌++◌, ◌⊎◌, ℕ, zero, suc, ◌+◌, ◌-◌, ◌*◌, ◌/◌, ◌%◌, ◌^◌, ◌≤◌, ◌<◌, eqb, ltb, ℤ, pos, negsuc, nat_abs, ◌-ℤ◌, ◌*ℤ◌, length, get_or, ◌≤ℤ◌}
use Rattle.std.proofs.Math.Option.{Option, none, some}
use Rattle.counting.specs.Counting.{listed}
use Rattle.polynomial.specs.Terms.{Term, term}
use Rattle.polynomial.specs.Point.{Point, value}
use Rattle.format.specs.Commands.{Outcome, refused, given}
use Rattle.format.specs.Operands.{number, signed}
use Rattle.format.specs.Layouts.{E, i32}
use Rattle.format.specs.ProblemLimits.{most_objective_degree}
use Rattle.format.specs.ProblemRules.{Condition, no_condition, Problem, fitting, read_problem}
use Rattle.format.specs.ProblemBases.{is_equality}
use Rattle.format.specs.declared.problem.Kind.TheVariants as K
use Rattle.format.specs.CertificateRules.{Certificate}
use Rattle.accepting.specs.Judgement as J
use Rattle.accepting.specs.Bounds.{Allowed, objective_scale}
use Rattle.calls.specs.Fractions.{fraction}
use Rattle.calls.specs.Fractions as F
use Rattle.calls.specs.SameTerms.{same_terms}
use Rattle.calls.specs.Refusals.{no_refusal, problem_refusal}
use Rattle.calls.specs.Check.{bound_of, check_verdict}
use Rattle.calls.specs.Superseding.{is_accepted}
use Rattle.calls.specs.Promises.{WhereAccepted, Reads, Within}
use Rattle.calls.specs.Rules.{Kept}
use Rattle.calls.specs.declared.Fraction.{Fraction}
use Rattle.calls.specs.declared.Refusal.{Refusal}
use Rattle.calls.specs.declared.CheckVerdict.{CheckVerdict}
use Rattle.calls.specs.declared.AdjustedVerdict.{AdjustedVerdict}

-- ---- the changes: "A change is 12 bytes, E then d, added to the objective", with "d as i32"
abbrev pub change_size : ℕ
change_size = E + i32

-- change i, from 0 on, as the term that is added
unfoldable pub change_at : List ℕ → ℕ → Term
change_at s i = term (number E s (change_size * i)) (signed 31 (number i32 s (change_size * i + E)))

-- how many are whole
abbrev pub change_count : List ℕ → ℕ
change_count s = length s / change_size

unfoldable pub changes_of : List ℕ → List Term
changes_of s = listed (change_count s) (change_at s)

-- "up to 256 changes"
abbrev pub most_changes : ℕ
most_changes = 256

-- ---- their refusals, "each with stream 2 and the first such change's index, from 0, as place (256 at 6)"
abbrev pub change_refusal : ℕ → ℕ → Refusal
change_refusal number index = record { number = number; stream = 2; place = index; key = 0 }

-- "exponents against n or degree 32": a change that no objective in n variables can have as a term
abbrev pub change_fits : ℕ → Term → Bool
change_fits n t = fitting n most_objective_degree t.key

-- the index of the first change that does not fit, of a list whose first has index i
unfoldable pub first_unfit : ℕ → ℕ → List Term → Option ℕ
first_unfit n i [] = none
first_unfit n i (t ∷ l) = cond (change_fits n t) (first_unfit n (i + 1) l) (some i)

abbrev pub unfit_refusal : Option ℕ → Refusal
unfit_refusal none = no_refusal
unfit_refusal (some i) = change_refusal 4 i

-- "a last change cut short meets refusal 2, then more than 256 changes meet refusal 6, then exponents against n or
-- degree 32 meet 4"
unfoldable pub changes_refusal : ℕ → List ℕ → Refusal
changes_refusal n s =
    cond (ltb 0 (length s % change_size)) (change_refusal 2 (change_count s))
    (cond (ltb most_changes (change_count s)) (change_refusal 6 most_changes)
    (unfit_refusal (first_unfit n 0 (changes_of s))))

-- ---- refusal 16: "unless for every variable some inequality is exactly 1 − x_i²"
-- the key of x_i²: "A monomial's key is the sum of e_i × 256^(i−1)"
abbrev pub square_key : ℕ → ℕ
square_key i = 2 * 256 ^ (i - 1)

-- the terms 1 and − x_i²
abbrev pub unit : Term
unit = term 0 (pos 1)

abbrev pub minus_square : ℕ → Term
minus_square i = term (square_key i) (negsuc 0)

-- exactly these two terms, in either order
unfoldable pub is_one_minus_square : ℕ → List Term → Bool
is_one_minus_square i P = same_terms P (unit ∷ minus_square i ∷ []) || same_terms P (minus_square i ∷ unit ∷ [])

-- "some inequality": an equality with these terms is none
unfoldable pub has_box : ℕ → List Condition → Bool
has_box i [] = false
has_box i (g ∷ gs) = (not (is_equality g.kind) && is_one_minus_square i g.terms) || has_box i gs

-- "for every variable": 1 to n
unfoldable pub boxed_to : ℕ → List Condition → Bool
boxed_to zero gs = true
boxed_to (suc n) gs = boxed_to n gs && has_box (suc n) gs

-- ---- the moved bound: "p − q × (sum of absolute d) over q"; "Repeated monomials add up by the absolute values listed"
unfoldable pub absolute_sum : List Term → ℕ
absolute_sum [] = 0
absolute_sum (t ∷ l) = nat_abs t.coefficient + absolute_sum l

unfoldable pub moved_bound : Fraction → List Term → Fraction
moved_bound f l = fraction (f.num -ℤ pos (f.den * absolute_sum l)) f.den

-- ---- the verdict
-- "all other fields are 0"
abbrev pub refused_adjusted : Refusal → AdjustedVerdict
refused_adjusted r = record { refusal = r; bound = F.none }

abbrev pub found_bound : Fraction → AdjustedVerdict
found_bound f = record { refusal = no_refusal; bound = f }

-- "16 ..; 17 for an upper certificate; both last, in this order, with stream and place 0"
unfoldable pub adjusted_by : Problem → CheckVerdict → List Term → AdjustedVerdict
adjusted_by p v l =
    cond (boxed_to p.variables p.conditions)
    (cond (eqb v.side 0) (found_bound (moved_bound v.bound l)) (refused_adjusted (problem_refusal 17 0)))
    (refused_adjusted (problem_refusal 16 0))

-- a certificate that the check accepts: the refusals of the changes come before 16 and 17. v is the check's verdict
unfoldable pub adjusted_of : Problem → CheckVerdict → List ℕ → AdjustedVerdict
adjusted_of p v changes =
    let f = changes_refusal p.variables changes in
    cond (eqb f.number 0) (adjusted_by p v (changes_of changes)) (refused_adjusted f)

-- the check accepts nothing for a stream that gives no problem
abbrev pub adjusted_read : Outcome Problem → CheckVerdict → List ℕ → AdjustedVerdict
adjusted_read (refused number place) v changes = refused_adjusted (problem_refusal number place)
adjusted_read (given p) v changes = adjusted_of p v changes

-- where the check refuses, its refusal
unfoldable pub adjusted_checked : List ℕ → CheckVerdict → List ℕ → AdjustedVerdict
adjusted_checked s v changes =
    cond (is_accepted v) (adjusted_read (read_problem s) v changes) (refused_adjusted v.refusal)

-- "After the check"
unfoldable pub adjusted_verdict : Bool → List ℕ → List ℕ → List ℕ → AdjustedVerdict
adjusted_verdict short s t changes = adjusted_checked s (check_verdict short s t) changes

-- ---- what the call promises. s is the problem stream, t the certificate, and f what is returned as refusal
-- the number is 0, one of the check's 1 to 9, 16 or 17
abbrev pub AdjustedNumber : ℕ → Type 0
AdjustedNumber number = (number ≤ 9) ⊎ ((number ≡ 16) ⊎ (number ≡ 17))

-- "The changed objective is at least that at every allowed point": x/q ≤ value, which "is p × c^32 ≤ q × V", of the
-- objective with every listed change added
unfoldable pub ChangedBelow : Problem → List Term → ℤ → ℕ → Type 0
ChangedBelow p l x q =
    (a : Point) → Allowed p a
    → (x *ℤ pos (objective_scale a)) ≤ℤ (pos q *ℤ value a most_objective_degree (p.objective ++ l))

abbrev pub HoldsChanged : List ℕ → List ℕ → ℕ → Fraction → Type 0
HoldsChanged s changes number f =
    WhereAccepted s number (λ p. ChangedBelow p (changes_of changes) f.num f.den)

-- whole changes, up to 256, each with a monomial of the problem's variables and of degree at most 32
pub record ChangesFit (n : ℕ) (changes : List ℕ) : Type 0 where
  pub whole : length changes % change_size ≡ 0
  pub few : change_count changes ≤ most_changes
  pub fit : (i : ℕ) → i < change_count changes → change_fits n (change_at changes i) ≡ true

-- an inequality that is exactly 1 − x_i²
pub record Box (i : ℕ) (gs : List Condition) : Type 0 where
  pub place : ℕ
  pub within : place < length gs
  pub kind : (get_or gs place no_condition).kind ≡ K.Inequality
  pub terms : ((get_or gs place no_condition).terms ≡ unit ∷ minus_square i ∷ [])
      ⊎ ((get_or gs place no_condition).terms ≡ minus_square i ∷ unit ∷ [])

abbrev pub EveryBox : Problem → Type 0
EveryBox p = (i : ℕ) → 1 ≤ i → i ≤ p.variables → Box i p.conditions

-- what the call asks: an accepted certificate of a lower bound, changes that fit, and the boxes
pub record Adjusts (p : Problem) (t changes : List ℕ) (c : Certificate) : Type 0 where
  pub accepted : J.Accepted p t c
  pub fit : ChangesFit p.variables changes
  pub boxes : EveryBox p
  pub lower : c.header.side ≡ 0

-- and what it returns there
pub record Moved (p : Problem) (t changes : List ℕ) (f : Fraction) : Type 0 where
  pub certificate : Certificate
  pub adjusts : Adjusts p t changes certificate
  pub bound : f ≡ moved_bound (bound_of certificate.header) (changes_of changes)

pub record AdjustedExactly (short : Bool) (s t changes : List ℕ) (v : AdjustedVerdict) : Type 0 where
  pub only : v.refusal.number ≡ 0 → Reads s (λ p. Moved p t changes v.bound)
  pub always : (p : Problem) (c : Certificate) → Within short s p → Adjusts p t changes c → v.refusal.number ≡ 0

-- the first change that does not fit
pub record FirstUnfit (n : ℕ) (changes : List ℕ) (i : ℕ) : Type 0 where
  pub within : i < change_count changes
  pub unfit : change_fits n (change_at changes i) ≡ false
  pub before : (j : ℕ) → j < i → change_fits n (change_at changes j) ≡ true

-- the refusals in their order; c is the certificate that the check accepts
pub record InOrder (short : Bool) (s t changes : List ℕ) (f : Refusal) : Type 0 where
  pub check : ((check_verdict short s t).refusal.number ≡ 0 → ⊥) → f ≡ (check_verdict short s t).refusal
  pub cut : (p : Problem) (c : Certificate) → Within short s p → J.Accepted p t c
      → 0 < length changes % change_size → f ≡ change_refusal 2 (change_count changes)
  pub many : (p : Problem) (c : Certificate) → Within short s p → J.Accepted p t c
      → length changes % change_size ≡ 0 → most_changes < change_count changes → f ≡ change_refusal 6 most_changes
  pub unfit : (p : Problem) (c : Certificate) → Within short s p → J.Accepted p t c
      → length changes % change_size ≡ 0 → change_count changes ≤ most_changes
      → (i : ℕ) → FirstUnfit p.variables changes i → f ≡ change_refusal 4 i
  pub unboxed : (p : Problem) (c : Certificate) → Within short s p → J.Accepted p t c
      → ChangesFit p.variables changes → (i : ℕ) → 1 ≤ i → i ≤ p.variables → (Box i p.conditions → ⊥)
      → f ≡ problem_refusal 16 0
  pub upper : (p : Problem) (c : Certificate) → Within short s p → J.Accepted p t c
      → ChangesFit p.variables changes → EveryBox p → c.header.side ≡ 1 → f ≡ problem_refusal 17 0

-- ---- between two streams that differ in the joining rule, or in the sparse order (Rules.antt has the relations R):
-- "what is accepted under 2 is accepted under 1 unless refusal 7 applies there", with the same moved bound
abbrev pub AdjustedKept : (List ℕ → List ℕ → Type 0) → Bool → List ℕ → List ℕ → List ℕ → AdjustedVerdict → Type 0
AdjustedKept R short s certificate changes v =
    Kept (λ w. w.refusal) (λ w u. w.bound ≡ u.bound) (λ t. adjusted_verdict short t certificate changes) R s v
