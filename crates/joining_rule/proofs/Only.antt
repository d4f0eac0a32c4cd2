-- Closed, least and numbered by lowest indices: there is one such result, and the full closing is it.
use mathlib.Core.Path.{◌≡◌, refl, sym, ◌∙◌}
use mathlib.Core.Logic.{⊎_elim}
use mathlib.Core.Bool.{true}
use mathlib.Core.List.{List, [], ◌∷◌}
use Prim.Native.Nat.{ℕ, ◌≤◌, ◌<◌, zero-le, suc-le-suc}
use native.Mathlib.Omega.{arith}
use lib.ListN.{length}
use lib.Dec.{eqb}
use borrow.Author.Tests.{eqb-true, eq-eqb}
use Rattle.counting.proofs.Listed.{same_or_not}
use Rattle.joining_rule.specs.Sets.{In, member}
use Rattle.joining_rule.proofs.Rising.{Above, Rising}
use Rattle.joining_rule.proofs.Elements.{above_in, not_nil, in_cons, in_here, in_there}
use Rattle.joining_rule.specs.Rounds.{Bases, enough_rounds, most_rounds, closing_of}
use Rattle.joining_rule.specs.Meaning.{Closed, Other, Contained, Least, Lowest, without}
use Rattle.joining_rule.proofs.Closing.{closing_rising}
use Rattle.joining_rule.proofs.Meaning.{LeastOfAny, least_tests, label_of, full_closed, closing_least, closing_lowest}

-- ---- rising lists with the same elements are the same

-- the first of a rising list is at most each element
first_least : (x y : ℕ) (l : List ℕ) → Above x l → In y (x ∷ l) → x ≤ y
first_least x y l a m = ⊎_elim (λ e. omega arith) (λ n. omega (arith, above_in x y l a n)) (in_cons y x l m)

-- what is in the rest is not the first
rest_in : (x y z : ℕ) (l m : List ℕ) → x ≡ y → Above x l → (In z (x ∷ l) → In z (y ∷ m)) → In z l → In z m
rest_in x y z l m e a f i = ⊎_elim (λ q. absurd (omega (arith, above_in x z l a i))) (λ j. j) (in_cons z y m (f (in_there z x l i)))

pub rising_same : (l m : List ℕ) → Rising l → Rising m → ((x : ℕ) → In x l → In x m) → ((x : ℕ) → In x m → In x l) → l ≡ m
rising_same [] [] r s f g = refl
rising_same [] (y ∷ ys) r s f g = not_nil y (g y (in_here y y ys refl))
rising_same (x ∷ xs) [] r s f g = not_nil x (f x (in_here x x xs refl))
rising_same (x ∷ xs) (y ∷ ys) r s f g =
    let e : x ≡ y = omega (arith, first_least x y xs r.0 (g y (in_here y y ys refl)), first_least y x ys s.0 (f x (in_here x x xs refl))) in
    let t : xs ≡ ys = rising_same xs ys r.1 s.1 (λ z. rest_in x y z xs ys e r.0 (f z)) (λ z. rest_in y x z ys xs (sym e) s.0 (g z)) in
    cc

-- one whose elements the other has is no longer than it
pub rising_shorter : (l m : List ℕ) → Rising l → Rising m → ((x : ℕ) → In x l → In x m) → length l ≤ length m
rising_shorter [] m r s f = zero-le
rising_shorter (x ∷ xs) [] r s f = not_nil x (f x (in_here x x xs refl))
rising_shorter (x ∷ xs) (y ∷ ys) r s f =
    ⊎_elim
    (λ e. suc-le-suc (rising_shorter xs ys r.1 s.1 (λ z. rest_in x y z xs ys e r.0 (f z))))
    (λ d.
    let b : y < x = omega (arith, first_least y x ys s.0 (f x (in_here x x xs refl))) in
    omega (
      arith,
      rising_shorter (x ∷ xs) ys r s.1
          (λ z m. ⊎_elim (λ q. absurd (omega (arith, first_least x z xs r.0 m))) (λ n. n) (in_cons z y ys (f z m))),
    ))
    (same_or_not x y)

-- ---- what is closed is one of the others

module _ (rule : ℕ) (g : Bases) (S₀ : List ℕ) where
  -- as tests
  pub closed_other : (label : ℕ → ℕ → ℕ) (S : List ℕ) → Closed rule g S₀ label S → Other rule g S₀ (λ j i k. eqb (label j i) (label j k) ≡ true) (λ x. In x S)
  closed_other label S c = record {
    reflexive = λ j i. eq-eqb (label j i) (label j i) refl;
    symmetric = λ j i k e. eq-eqb (label j k) (label j i) (sym (eqb-true (label j i) (label j k) e));
    transitive = λ j i k l e f. eq-eqb (label j i) (label j l) (eqb-true (label j i) (label j k) e ∙ eqb-true (label j k) (label j l) f);
    starts = c.starts;
    joins = λ j i k t p q. eq-eqb (label j i) (label j k) (c.joins j i k t p q);
    adds = λ j i k t n p e. c.adds j i k t n p (eqb-true (label j i) (label j k) e);
  }

  -- a least result has its blocks within a closed one's, and its set within that one's
  module _ (label label' : ℕ → ℕ → ℕ) (S S' : List ℕ) (least : Least rule g S₀ label S) (closed : Closed rule g S₀ label' S') where
    pub least_contained : Contained g label S (λ j i k. label' j i ≡ label' j k) (λ x. In x S')
    least_contained =
        let w = least.within (λ j i k. eqb (label' j i) (label' j k)) (λ x. member x S') (closed_other label' S' closed) in
        record { blocks = λ j i k h a b e. eqb-true (label' j i) (label' j k) (w.blocks j i k h a b e); set = w.set }

    -- so its numbers are no lower
    number_le : Lowest g label → Lowest g label' → (j i : ℕ) → j < 9 → i < length (g.basis j) → label' j i ≤ label j i
    number_le n n' j i h b =
        omega (arith, n'.lowest j (label j i) h (n.within j i h b), least_contained.blocks j (label j i) i h (n.within j i h b) b (n.own j i h b))

  module _ (rising : Rising S₀) (sizes : (j : ℕ) → length (g.basis j) ≤ 64) (label : ℕ → ℕ → ℕ) (S : List ℕ) where
    closed : Closed rule g S₀ (label_of rule enough_rounds g S₀) (closing_of rule enough_rounds g S₀).state.support
    unfolding most_rounds
    closed = full_closed rule 0 g S₀ rising sizes (without refl)

    -- What is least among the blocks and sets that tests give is least among any: it is within the closing, which tests give.
    pub least_of_any : Least rule g S₀ label S → LeastOfAny rule g S₀ label S
    least_of_any l = record {
      within = λ R Q o.
          let u = least_contained label (label_of rule enough_rounds g S₀) S (closing_of rule enough_rounds g S₀).state.support l closed in
          let v = (closing_least rule enough_rounds g S₀).within R Q o in
          record { blocks = λ j i k h a b e. v.blocks j i k h a b (u.blocks j i k h a b e); set = λ x m. v.set x (u.set x m) };
    }

    -- The full closing is the one result that is closed, least and numbered by lowest indices.
    pub closing_only : Closed rule g S₀ label S → Least rule g S₀ label S → Lowest g label → Rising S
        → ((j i : ℕ) → j < 9 → i < length (g.basis j) → label j i ≡ label_of rule enough_rounds g S₀ j i) × (S ≡ (closing_of rule enough_rounds g S₀).state.support)
    closing_only c l n r =
        let c' = closed in
        let l' = least_tests _ _ _ _ _ (closing_least rule enough_rounds g S₀) in
        let n' = closing_lowest rule enough_rounds g S₀ in
        let S' = (closing_of rule enough_rounds g S₀).state.support in (
          (λ j i h b. omega (arith, number_le label (label_of rule enough_rounds g S₀) S S' l c' n n' j i h b, number_le (label_of rule enough_rounds g S₀) label S' S l' c n' n j i h b)),
          rising_same S S' r (closing_rising rule enough_rounds g S₀ rising) (least_contained label (label_of rule enough_rounds g S₀) S S' l c').set (least_contained (label_of rule enough_rounds g S₀) label S' S l' c).set,
        )
