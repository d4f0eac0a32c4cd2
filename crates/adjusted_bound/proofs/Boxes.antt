-- A box in the arrays: by the number of its terms, and by these in either order.
use native.Mathlib.Nat.{add-zero}
use mathlib.Core.Path.{◌≡◌, refl, sym, ap, ◌∙◌}
use mathlib.Core.Bool.{Bool, true, false, ◌&&◌, ◌||◌}
use mathlib.Core.List.{List, [], ◌∷◌}
use mathlib.Core.Logic.{⊎_elim}
use Prim.Native.Nat.{ℕ, ◌+◌, ◌*◌}
use lib.IntN.{ℤ, pos, negsuc}
use lib.ListN.{length, get_or, drop}
use lib.Seq.{get_or-drop}
use Rattle.counting.specs.Counting.{listed}
use Rattle.counting.proofs.Cases.{never}
use Rattle.counting.proofs.Listed.{listed_length}
use Rattle.polynomial.specs.Terms.{Term, term}
use Rattle.flat.specs.TermArrays.{terms_in}
use Rattle.flat.specs.Flat.{exponents_at, coefficients_at, count_at, polynomial_in, equality_in}
use Rattle.calls.specs.Adjusted.{square_key, unit, minus_square, is_one_minus_square}
use Rattle.calls.specs.SameTerms.{same_term}
use Rattle.calls.proofs.Boxes.{boxed_exactly}
use Rattle.adjusted_bound.specs.Boxes.{box_in}

-- ---- the tests of four terms, in either order
exchanged : (a b : Bool) → (b && (a && true)) ≡ (a && b)
exchanged true true = refl
exchanged true false = refl
exchanged false true = refl
exchanged false false = refl

one_way : (a b : Bool) (x : Bool) → (a && b) ≡ true → ((a && (b && true)) || x) ≡ true
one_way true true x h = refl
one_way true false x h = never h
one_way false b x h = never h

other_way : (a b c d : Bool) → (a && b) ≡ false → ((a && (b && true)) || (d && (c && true))) ≡ (c && d)
other_way true true c d h = never (sym h)
other_way true false c d h = exchanged c d
other_way false b c d h = exchanged c d

module _ (i : ℕ) (keys : List ℕ) (coefficients : List ℤ) (sizes : List ℕ) (j : ℕ) where
  abbrev there : List Term
  there = polynomial_in keys coefficients sizes j

  pub no_equality : equality_in sizes j ≡ true → false ≡ box_in i keys coefficients sizes j
  no_equality e = rw e

  module _ (e : equality_in sizes j ≡ false) where
    -- ---- another number of terms
    not_two : (get_or sizes (count_at j) 0 ≡ 2 → ⊥) → is_one_minus_square i there ≡ false
    unfolding terms_in
    not_two n = go (is_one_minus_square i there) refl
      where
        counted : (P : List Term) → there ≡ P → length P ≡ 2 → get_or sizes (count_at j) 0 ≡ 2
        counted P f h = sym (listed_length (get_or sizes (count_at j) 0) _) ∙ ap length f ∙ h

        go : (b : Bool) → is_one_minus_square i there ≡ b → b ≡ false
        go true h = absurd (⊎_elim (λ f. n (counted _ f refl)) (λ f. n (counted _ f refl)) (boxed_exactly i there h))
        go false h = refl

    pub no_terms_lem : (get_or sizes (count_at j) 0 ≡ 2 → ⊥) → false ≡ box_in i keys coefficients sizes j
    no_terms_lem n = rw (e, not_two n)

    -- ---- two terms
    module _ (two : get_or sizes (count_at j) 0 ≡ 2) where
      abbrev first : Term
      first = term (get_or keys (576 + 32 * j) 0) (get_or coefficients (32 * j) (pos 0))

      abbrev second : Term
      second = term (get_or keys (576 + 32 * j + 1) 0) (get_or coefficients (32 * j + 1) (pos 0))

      terms_are : there ≡ first ∷ second ∷ []
      unfolding terms_in listed
      terms_are =
          ap (λ n. terms_in n (drop (exponents_at j) keys) (drop (coefficients_at j) coefficients)) two
          ∙ simp (get_or-drop, add-zero)

      box_is : box_in i keys coefficients sizes j
          ≡ ((same_term first unit && (same_term second (minus_square i) && true))
          || (same_term first (minus_square i) && (same_term second unit && true)))
      unfolding is_one_minus_square
      box_is = rw (e, terms_are)

      module _ (square : ℕ) (s : square ≡ square_key i) where
        pub this_way : (same_term first unit && same_term second (term square (negsuc 0))) ≡ true
            → true ≡ box_in i keys coefficients sizes j
        this_way h = sym (box_is ∙ one_way (same_term first unit) (same_term second (minus_square i))
            (same_term first (minus_square i) && (same_term second unit && true)) (rw s at h))

        pub that_way : (same_term first unit && same_term second (term square (negsuc 0))) ≡ false
            → (same_term second unit && same_term first (term square (negsuc 0))) ≡ box_in i keys coefficients sizes j
        that_way h =
            rw s (sym (box_is ∙ other_way (same_term first unit) (same_term second (minus_square i)) (same_term second unit)
            (same_term first (minus_square i)) (rw s at h)))
