-- What the search for the boxes finds: an inequality with exactly the terms of 1 − x_i², for one variable and for all.
use mathlib.Core.Path.{◌≡◌, refl}
use mathlib.Core.Bool.{Bool, true, false, not, ◌&&◌, ◌||◌}
use mathlib.Core.List.{List, [], ◌∷◌}
use mathlib.Core.Logic.{◌⊎◌, inl, inr, ⊎_elim}
use Prim.Native.Nat.{ℕ, zero, suc, ◌≤◌, ◌<◌}
use native.Mathlib.Nat.{eq-or-lt_of_le}
use native.Mathlib.Omega.{arith}
use lib.ListN.{length, get_or}
use Rattle.counting.proofs.Cases.{never, and_left, and_right}
use Rattle.polynomial.specs.Terms.{Term}
use Rattle.format.specs.ProblemRules.{Condition, no_condition}
use Rattle.format.specs.ProblemBases.{is_equality}
use Rattle.format.specs.declared.problem.Kind.{Kind}
use Rattle.format.specs.declared.problem.Kind.TheVariants as K
use Rattle.calls.specs.Adjusted.{unit, minus_square, is_one_minus_square, has_box, boxed_to, Box}
use Rattle.calls.specs.SameTerms.{same_terms}
use Rattle.calls.proofs.SameTerms.{terms_equal, terms_self}

-- ---- tests
or_cases : (a b : Bool) → (a || b) ≡ true → (a ≡ true) ⊎ (b ≡ true)
or_cases true b h = inl refl
or_cases false b h = inr h

or_left : (a b : Bool) → a ≡ true → (a || b) ≡ true
or_left a b h = rw h

or_right : (a b : Bool) → b ≡ true → (a || b) ≡ true
or_right true b h = refl
or_right false b h = h

-- ---- one condition
abbrev pub Exactly : ℕ → List Term → Type 0
Exactly i P = (P ≡ unit ∷ minus_square i ∷ []) ⊎ (P ≡ minus_square i ∷ unit ∷ [])

pub boxed_exactly : (i : ℕ) (P : List Term) → is_one_minus_square i P ≡ true → Exactly i P
unfolding is_one_minus_square
boxed_exactly i P h = ⊎_elim (λ e. inl (terms_equal _ _ e)) (λ e. inr (terms_equal _ _ e)) (or_cases _ _ h)

exactly_boxed : (i : ℕ) (P : List Term) → Exactly i P → is_one_minus_square i P ≡ true
unfolding is_one_minus_square
exactly_boxed i P e =
    ⊎_elim
    (λ f. or_left (same_terms P (unit ∷ minus_square i ∷ [])) _ (rw f (terms_self (unit ∷ minus_square i ∷ []))))
    (λ f. or_right (same_terms P (unit ∷ minus_square i ∷ [])) _ (rw f (terms_self (minus_square i ∷ unit ∷ [])))) e

is_inequality : (k : Kind) → not (is_equality k) ≡ true → k ≡ K.Inequality
is_inequality K.Inequality h = refl
is_inequality K.Equality h = never h

-- ---- some condition
pub box_found : (i : ℕ) (gs : List Condition) → has_box i gs ≡ true → Box i gs
unfolding has_box
box_found i [] h = never h
box_found i (g ∷ gs) h = ⊎_elim here (λ e. later (box_found i gs e)) (or_cases _ (has_box i gs) h)
  where
    here : (not (is_equality g.kind) && is_one_minus_square i g.terms) ≡ true → Box i (g ∷ gs)
    here e = record {
      place = 0;
      within = omega arith;
      kind = is_inequality g.kind (and_left _ (is_one_minus_square i g.terms) e);
      terms = boxed_exactly i g.terms (and_right (not (is_equality g.kind)) _ e);
    }

    later : Box i gs → Box i (g ∷ gs)
    later b = record { place = suc b.place; within = omega (arith, b.within); kind = b.kind; terms = b.terms }

pub found_box : (i : ℕ) (gs : List Condition) → Box i gs → has_box i gs ≡ true
unfolding has_box
found_box i gs b = at gs b.place b.within b.kind b.terms
  where
    at : (gs : List Condition) (j : ℕ) → j < length gs → (get_or gs j no_condition).kind ≡ K.Inequality
        → Exactly i (get_or gs j no_condition).terms → has_box i gs ≡ true
    at [] j h k e = absurd (omega arith)
    at (g ∷ gs) zero h k e = rw (k, exactly_boxed i g.terms e)
    at (g ∷ gs) (suc j) h k e =
        or_right (not (is_equality g.kind) && is_one_minus_square i g.terms) (has_box i gs) (at gs j (omega arith) k e)

-- ---- for every variable
pub boxes_found : (n : ℕ) (gs : List Condition) → boxed_to n gs ≡ true → (i : ℕ) → 1 ≤ i → i ≤ n → Box i gs
unfolding boxed_to
boxes_found zero gs h i a b = absurd (omega arith)
boxes_found (suc n) gs h i a b =
    ⊎_elim (λ e. rw e (box_found (suc n) gs (and_right (boxed_to n gs) _ h)))
    (λ l. boxes_found n gs (and_left _ (has_box (suc n) gs) h) i a (omega arith)) (eq-or-lt_of_le {n = i} {m = suc n} b)

pub found_boxes : (n : ℕ) (gs : List Condition) → ((i : ℕ) → 1 ≤ i → i ≤ n → Box i gs) → boxed_to n gs ≡ true
unfolding boxed_to
found_boxes zero gs h = refl
found_boxes (suc n) gs h =
    rw (found_boxes n gs (λ i a b. h i a (omega arith))) (found_box (suc n) gs (h (suc n) (omega arith) (omega arith)))
