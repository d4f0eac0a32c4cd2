-- The tests of the definitions say whether two lists, two lists of lists and two states are the same; and the closing
-- depends only on S and on what the nine bases and multipliers are.
use mathlib.Core.Path.{◌≡◌, refl, sym, ap, ap₂, ◌∙◌}
use mathlib.Core.Bool.{Bool, true, false, cond, ◌&&◌}
use mathlib.Core.List.{List, [], ◌∷◌}
use Prim.Native.Nat.{ℕ, zero, suc, ◌+◌, ◌≤◌, ◌<◌}
use native.Mathlib.Numerals.{add-one}
use native.Mathlib.Omega.{arith}
use lib.Dec.{eqb}
use lib.ListN.{length, get_or, drop, drop_of_length-le}
use lib.Seq.{drop-cons}
use borrow.Author.Tests.{eqb-true, eq-eqb, ne_eqb}
use Rattle.counting.proofs.Cases.{never}
use Rattle.counting.proofs.Listed.{listed_same}
use Rattle.joining_rule.proofs.Products.{products_same}
use Rattle.joining_rule.proofs.Rounds.{adding_most}
use Rattle.joining_rule.specs.Rounds.{Bases, State, Closing, singles, start, join_all, adding_bases, round, same, same_all, same_state, close_from, closing_of}

pub same_refl : (l : List ℕ) → same l l ≡ true
unfolding same
same_refl [] = refl
same_refl (x ∷ xs) = rw (eq-eqb x x refl) (same_refl xs)

pub same_true : (l m : List ℕ) → same l m ≡ true → l ≡ m
unfolding same
same_true [] [] e = refl
same_true [] (y ∷ ys) e = never e
same_true (x ∷ xs) [] e = never e
same_true (x ∷ xs) (y ∷ ys) e = go (same_true xs ys) (eqb x y) refl e
  where
    go : (same xs ys ≡ true → xs ≡ ys) → (b : Bool) → eqb x y ≡ b → cond b (same xs ys) false ≡ true → x ∷ xs ≡ y ∷ ys
    go h true f e = let p = eqb-true x y f in let q = h e in cc
    go h false f e = never e

pub same_apart : (l m : List ℕ) → same l m ≡ false → l ≡ m → ⊥
same_apart l m e q = never (sym e ∙ rw q (same_refl m))

pub same_all_refl : (l : List (List ℕ)) → same_all l l ≡ true
unfolding same_all
same_all_refl [] = refl
same_all_refl (x ∷ xs) = rw (same_refl x) (same_all_refl xs)

pub same_all_true : (l m : List (List ℕ)) → same_all l m ≡ true → l ≡ m
unfolding same_all
same_all_true [] [] e = refl
same_all_true [] (y ∷ ys) e = never e
same_all_true (x ∷ xs) [] e = never e
same_all_true (x ∷ xs) (y ∷ ys) e = go (same_all_true xs ys) (same x y) refl e
  where
    go : (same_all xs ys ≡ true → xs ≡ ys) → (b : Bool) → same x y ≡ b → cond b (same_all xs ys) false ≡ true → x ∷ xs ≡ y ∷ ys
    go h true f e = let p = same_true x y f in let q = h e in cc
    go h false f e = never e

pub same_state_refl : (s : State) → same_state s s ≡ true
unfolding same_state
same_state_refl s = rw (same_all_refl s.labels) (same_refl s.support)

pub same_state_true : (s t : State) → same_state s t ≡ true → s ≡ t
unfolding same_state
same_state_true s t e = go (same_all s.labels t.labels) refl e
  where
    go : (b : Bool) → same_all s.labels t.labels ≡ b → b && same s.support t.support ≡ true → s ≡ t
    go true f e =
        ap₂ (λ (L : List (List ℕ)) (S : List ℕ). record { labels = L; support = S }) (same_all_true s.labels t.labels f) (same_true s.support t.support e)
    go false f e = never e

module _ (s t : State) where
  pub state_same : t.labels ≡ s.labels → t.support ≡ s.support → same_state s t ≡ true
  unfolding same_state
  state_same p q = rw (p, q, same_all_refl, same_refl)

  pub state_differs : (t.labels ≡ s.labels → t.support ≡ s.support → ⊥) → same_state s t ≡ false
  unfolding same_state
  state_differs h = go (same_all s.labels t.labels) refl (same s.support t.support) refl
    where
      go : (a : Bool) → same_all s.labels t.labels ≡ a → (b : Bool) → same s.support t.support ≡ b → a && b ≡ false
      go true e true f = absurd (h (sym (same_all_true _ _ e)) (sym (same_true _ _ f)))
      go true e false f = refl
      go false e b f = refl

-- ---- one more round

pub close_next : (rule : ℕ) (g : Bases) (m : ℕ) (s : State) (c : ℕ) → close_from rule g (suc m) s c ≡ cond (same_state s (round rule g s)) (record { state = round rule g s; rounds = c + 1 }) (close_from rule g m (round rule g s) (c + 1))
unfolding close_from
close_next rule g m s c = go (same_state s (round rule g s)) _ _
  where
    go : (b : Bool) (x y : Closing) → elim b [ true ↦ x | false ↦ y ] ≡ cond b x y
    go true x y = refl
    go false x y = refl

-- ---- bases that agree

module _ (g g' : Bases) (bases : (j : ℕ) → j < 9 → g.basis j ≡ g'.basis j) (multipliers : (j : ℕ) → j < 9 → g.multiplier j ≡ g'.multiplier j) where
  start_same : (S : List ℕ) → start g S ≡ start g' S
  unfolding start singles
  start_same S = ap (λ (L : List (List ℕ)). record { labels = L; support = S }) (listed_same 9 _ _ (λ j h. rw (bases j h)))

  module _ (rule : ℕ) where
    pub round_same : (s : State) → round rule g s ≡ round rule g' s
    unfolding round join_all
    round_same s =
        let e : join_all g s.support s.labels ≡ join_all g' s.support s.labels = listed_same 9 _ _ (λ j h. rw (bases j h, multipliers j h)) in
        ap₂ (λ (L : List (List ℕ)) (S : List ℕ). record { labels = L; support = S }) e
        (rw e (products_same (adding_bases rule) g g' (λ j h. bases j (omega (arith, adding_most rule))) (λ j h. multipliers j (omega (arith, adding_most rule))) _ s.support))

    close_same : (m : ℕ) (s : State) (c : ℕ) → close_from rule g m s c ≡ close_from rule g' m s c
    unfolding close_from
    close_same zero s c = refl
    close_same (suc m) s c = rw (close_next rule g m s c, close_next rule g' m s c, round_same s, close_same m (round rule g' s) (c + 1))

    -- the closing is the same for bases and multipliers that are the same for every j
    pub closing_same : (most : ℕ) (S : List ℕ) → closing_of rule most g S ≡ closing_of rule most g' S
    unfolding closing_of
    closing_same most S = rw (start_same S) (close_same _ (start g' S) 0)

-- ---- a loop that compares two lists from the front

module _ (l m : List ℕ) (i : ℕ) where
  same_next : i < length l → i < length m → same (drop i l) (drop i m) ≡ cond (eqb (get_or l i 0) (get_or m i 0)) (same (drop (i + 1) l) (drop (i + 1) m)) false
  unfolding same
  same_next h k = rw (add-one, drop-cons l i 0 h, drop-cons m i 0 k)

  pub same_on : i < length l → i < length m → get_or l i 0 ≡ get_or m i 0 → same (drop i l) (drop i m) ≡ same (drop (i + 1) l) (drop (i + 1) m)
  same_on h k e = rw (same_next h k, eq-eqb (get_or l i 0) (get_or m i 0) e)

  pub same_not : i < length l → i < length m → (get_or l i 0 ≡ get_or m i 0 → ⊥) → same (drop i l) (drop i m) ≡ false
  same_not h k e = rw (same_next h k, ne_eqb (get_or l i 0) (get_or m i 0) e)

  pub same_end : length l ≤ i → length m ≤ i → same (drop i l) (drop i m) ≡ true
  unfolding same
  same_end h k = rw (drop_of_length-le l h, drop_of_length-le m k)
