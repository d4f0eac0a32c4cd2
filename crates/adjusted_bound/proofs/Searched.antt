-- The search for the boxes: the conditions one by one for a variable, and the variables one by one.
use native.Mathlib.Nat.{pow-suc, pow-le-pow_right}
use native.Mathlib.Numerals.{add-one}
use native.Mathlib.Omega.{arith}
use mathlib.Core.Path.{◌≡◌, refl, sym, ap, ap₂, ◌∙◌}
use mathlib.Core.Bool.{Bool, true, false, not, ◌&&◌, ◌||◌}
use mathlib.Core.List.{List}
use Prim.Native.Nat.{ℕ, zero, suc, ◌+◌, ◌-◌, ◌*◌, ◌^◌, ◌≤◌, ◌<◌}
use lib.Dec.{lit<}
use lib.IntN.{ℤ}
use lib.ListN.{length, get_or, drop, drop_of_length-le}
use lib.Seq.{drop-cons}
use Rattle.counting.proofs.Cases.{never}
use Rattle.polynomial.specs.Terms.{Term}
use Rattle.format.specs.ProblemRules.{Condition, no_condition, Problem}
use Rattle.format.specs.ProblemBases.{multiplier, kind_of, is_equality}
use Rattle.flat.specs.Flat.{FlatProblem}
use Rattle.flat.proofs.Flat.{conditions_few, kind_part}
use Rattle.calls.specs.Adjusted.{square_key, is_one_minus_square, has_box, boxed_to}
use Rattle.calls.proofs.Boxes.{found_box, boxes_found}
use Rattle.adjusted_bound.specs.Boxes.{box_in}

-- ---- the conditions one by one
module _ (i : ℕ) (gs : List Condition) where
  test : ℕ → Bool
  test j =
      let g = get_or gs j no_condition in
      not (is_equality g.kind) && is_one_minus_square i g.terms

  -- what is found from condition j on is what is found of all
  abbrev pub Searched : ℕ → Type 0
  Searched j = has_box i (drop j gs) ≡ has_box i gs

  search_first : (j : ℕ) → j < length gs → has_box i (drop j gs) ≡ (test j || has_box i (drop (j + 1) gs))
  unfolding has_box test
  search_first j h =
      ap (has_box i) (drop-cons gs j no_condition h)
      ∙ ap (λ (m : ℕ). test j || has_box i (drop m gs)) (sym (add-one j))

  module _ (j : ℕ) (h : j < length gs) (k : Searched j) where
    found_here : test j ≡ true → true ≡ has_box i gs
    found_here e = sym (rw e at (search_first j h)) ∙ k

    not_here : test j ≡ false → Searched (j + 1)
    not_here e = sym (rw e at (search_first j h)) ∙ k

  pub searched_all : (j : ℕ) → length gs ≤ j → Searched j → false ≡ has_box i gs
  unfolding has_box
  searched_all j h k = sym (ap (has_box i) (drop_of_length-le gs h)) ∙ k

-- in the arrays, where condition j has the number j + 1
module _ (p : Problem) (keys : List ℕ) (coefficients : List ℤ) (sizes : List ℕ)
    (flat : FlatProblem p keys coefficients sizes) (i j : ℕ) (h : j < length p.conditions) where
  same_test : box_in i keys coefficients sizes (j + 1) ≡ test i p.conditions j
  unfolding test multiplier kind_of
  same_test =
      let n : j + 1 < 9 = omega (arith, conditions_few flat.limits, flat.conditions) in
      ap₂ (λ (e : Bool) (l : List Term). not e && is_one_minus_square i l)
      (kind_part flat (j + 1) n ∙ ap (λ (m : ℕ). is_equality (kind_of p m)) (add-one j))
      (flat.multipliers (j + 1) n ∙ ap (multiplier p) (add-one j))

  pub box_found : box_in i keys coefficients sizes (j + 1) ≡ true → Searched i p.conditions j
      → true ≡ has_box i p.conditions
  box_found e k = found_here i p.conditions j h k (sym same_test ∙ e)

  pub box_passed : box_in i keys coefficients sizes (j + 1) ≡ false → Searched i p.conditions j
      → Searched i p.conditions (j + 1)
  box_passed e k = not_here i p.conditions j h k (sym same_test ∙ e)

-- ---- the variables one by one
module _ (gs : List Condition) where
  pub not_boxed : (n i : ℕ) → 1 ≤ i → i ≤ n → has_box i gs ≡ false → false ≡ boxed_to n gs
  not_boxed n i h k e = go (boxed_to n gs) refl
    where
      go : (b : Bool) → boxed_to n gs ≡ b → false ≡ b
      go true f = never (sym e ∙ found_box i gs (boxes_found n gs f i h k))
      go false f = refl

  pub boxed_next : (i : ℕ) → 1 ≤ i → boxed_to (i - 1) gs ≡ true → boxed_to i gs ≡ has_box i gs
  unfolding boxed_to
  boxed_next zero h k = absurd (omega arith)
  boxed_next (suc i) h k = let z : suc i - 1 ≡ i = omega arith in rw (rw z at k)

-- the key of x_i² is the one before it times 256
pub next_square : (i square : ℕ) → 1 ≤ i → square ≡ square_key i → square * 256 ≡ square_key (i + 1)
next_square i square h e =
    let z : i + 1 - 1 ≡ suc (i - 1) = omega arith in
    rw (z, pow-suc 256 (i - 1)) (omega arith)

pub square_low : (i square : ℕ) → 1 ≤ i → i ≤ 7 → square ≡ square_key i → square * 256 ≤ 2 * 256 ^ 7
square_low i square h k e =
    let b : 256 ^ (i - 1) ≤ 256 ^ 6 = pow-le-pow_right {n = 256} (lit< tt) {i = i - 1} {j = 6} (omega arith) in
    omega arith
