-- What a block's number is, and how many blocks there are then: as many as indices that are the lowest of their block.
use mathlib.Core.Path.{◌≡◌, refl, sym, ap, ◌∙◌}
use mathlib.Core.Logic.{⊎_elim}
use mathlib.Core.Bool.{Bool, true, false, cond}
use mathlib.Core.List.{List, [], ◌∷◌, ◌++◌}
use Prim.Native.Nat.{ℕ, zero, suc, ◌+◌, ◌≤◌, ◌<◌}
use native.Mathlib.Numerals.{add-one}
use native.Mathlib.Omega.{arith}
use lib.ListN.{length, get_or, take, drop, drop_of_length-le}
use lib.Seq.{take-suc, take_all, length-take-le, get_or-take, drop-cons}
use lib.Dec.{eqb}
use borrow.Author.Tests.{eqb-true, eqb-false, eq-eqb, ne_eqb}
use Rattle.counting.specs.Counting.{sum_to}
use Rattle.joining_rule.specs.Sets.{member, different}
use Rattle.joining_rule.proofs.Elements.{member_at}

-- "A block's number is its lowest index": no index is below its block's number, and the number is itself an index of
-- the block
pub record Numbered (L : List ℕ) : Type 0 where
  pub lowest : (x : ℕ) → x < length L → get_or L x 0 ≤ x
  pub own : (x : ℕ) → x < length L → get_or L (get_or L x 0) 0 ≡ get_or L x 0

-- how many indices are the lowest of their block, where the first index is i
unfoldable pub lowest_from : ℕ → List ℕ → ℕ
lowest_from i [] = 0
lowest_from i (x ∷ xs) = cond (eqb x i) 1 0 + lowest_from (suc i) xs

-- and so in all nine bases
unfoldable pub lowest_in : List (List ℕ) → ℕ
lowest_in L = sum_to 9 (λ j. lowest_from 0 (get_or L j []))

-- ---- one more element at the end

member_snoc : (x y : ℕ) (l : List ℕ) → (y ≡ x → ⊥) → member x (l ++ (y ∷ [])) ≡ member x l
unfolding member
member_snoc x y [] d = rw (ne_eqb y x d)
member_snoc x y (z ∷ zs) d = rw (member_snoc x y zs d)

member_last : (x : ℕ) (l : List ℕ) → member x (l ++ (x ∷ [])) ≡ true
unfolding member
member_last x [] = rw (eq-eqb x x refl)
member_last x (z ∷ zs) = go (eqb z x) (member_last x zs)
  where
    go : (b : Bool) → member x (zs ++ (x ∷ [])) ≡ true → cond b true (member x (zs ++ (x ∷ []))) ≡ true
    go true h = refl
    go false h = h

different_snoc : (l : List ℕ) (y : ℕ) → different (l ++ (y ∷ [])) ≡ different l + cond (member y l) 0 1
unfolding different member
different_snoc [] y = refl
different_snoc (x ∷ xs) y = go (eqb x y) refl (different_snoc xs y)
  where
    go : (b : Bool) → eqb x y ≡ b → different (xs ++ (y ∷ [])) ≡ different xs + cond (member y xs) 0 1
        → cond (member x (xs ++ (y ∷ []))) 0 1 + different (xs ++ (y ∷ [])) ≡ cond (member x xs) 0 1 + different xs + cond (cond b true (member y xs)) 0 1
    go true e h = let q = eqb-true x y e in rw (h, q, member_last y xs) (omega arith)
    go false e h = rw (h, member_snoc x y xs (λ q. eqb-false x y e (sym q))) (omega arith)

lowest_snoc : (i : ℕ) (l : List ℕ) (y : ℕ) → lowest_from i (l ++ (y ∷ [])) ≡ lowest_from i l + cond (eqb y (i + length l)) 1 0
unfolding lowest_from
lowest_snoc i [] y = let e : i + 0 ≡ i = omega arith in rw e (omega arith)
lowest_snoc i (x ∷ xs) y = let e : i + suc (length xs) ≡ suc i + length xs = omega arith in rw (e, lowest_snoc (suc i) xs y) (omega arith)

-- ---- numbered blocks

-- a number that no index reaches is no block's
not_in : (k : ℕ) (l : List ℕ) → ((x : ℕ) → x < length l → get_or l x 0 < k) → member k l ≡ false
unfolding member
not_in k [] h = refl
not_in k (x ∷ xs) h = rw (ne_eqb x k (λ e. omega (arith, h 0 (omega arith)))) (not_in k xs (λ y b. h (suc y) (omega arith)))

module _ (L : List ℕ) (n : Numbered L) where
  -- index m has a block number that stands before it, or it is the lowest of its block
  first_or_not : (m : ℕ) → m < length L → ◌≡◌ {A = ℕ} (cond (member (get_or L m 0) (take m L)) 0 1) (cond (eqb (get_or L m 0) m) 1 0)
  first_or_not m h = let e : length (take m L) ≡ m = length-take-le m L (omega arith) in go e (eqb (get_or L m 0) m) refl
    where
      go : length (take m L) ≡ m → (b : Bool) → eqb (get_or L m 0) m ≡ b → ◌≡◌ {A = ℕ} (cond (member (get_or L m 0) (take m L)) 0 1) (cond b 1 0)
      go long true e =
          let q = eqb-true (get_or L m 0) m e in
          rw (not_in (get_or L m 0) (take m L) (λ x b. rw (get_or-take m L x 0 (omega arith)) (omega (arith, n.lowest x (omega arith)))))
      go long false e =
          let d = eqb-false (get_or L m 0) m e in
          let l = n.lowest m h in
          let b : get_or L m 0 < m = omega arith in
          rw (member_at (get_or L m 0) (take m L) (get_or L m 0) (omega arith) (get_or-take m L (get_or L m 0) 0 b ∙ n.own m h))

  so_far : (m : ℕ) → m ≤ length L → different (take m L) ≡ lowest_from 0 (take m L)
  unfolding different lowest_from
  so_far zero h = refl
  so_far (suc m) h =
      let e : 0 + length (take m L) ≡ m = omega (arith, length-take-le m L (omega arith)) in
      rw (take-suc L m 0 h, different_snoc (take m L) (get_or L m 0), lowest_snoc 0 (take m L) (get_or L m 0), e, so_far m (omega arith), first_or_not m h)

  -- there are as many blocks as indices that are their block's number
  pub different_lowest : different L ≡ lowest_from 0 L
  different_lowest = rw (take_all (length L) L (omega arith)) at (so_far (length L) (omega arith))

-- ---- a loop that counts from index i on

module _ (l : List ℕ) (i : ℕ) where
  pub lowest_here : i < length l → get_or l i 0 ≡ i → lowest_from i (drop i l) ≡ 1 + lowest_from (i + 1) (drop (i + 1) l)
  unfolding lowest_from
  lowest_here h e = rw (add-one, drop-cons l i 0, lowest_from, eq-eqb (get_or l i 0) i e)

  pub lowest_not : i < length l → (get_or l i 0 ≡ i → ⊥) → lowest_from i (drop i l) ≡ lowest_from (i + 1) (drop (i + 1) l)
  unfolding lowest_from
  lowest_not h e = rw (drop-cons l i 0 h, ne_eqb (get_or l i 0) i e, add-one i) (omega arith)

  pub lowest_done : length l ≤ i → lowest_from i (drop i l) ≡ 0
  unfolding lowest_from
  lowest_done h = rw (drop_of_length-le l h)

-- there are at most as many as there are indices
pub lowest_few : (i : ℕ) (l : List ℕ) → lowest_from i l ≤ length l
unfolding lowest_from
lowest_few i [] = omega arith
lowest_few i (x ∷ xs) = go (eqb x i) (lowest_few (suc i) xs)
  where
    go : (b : Bool) → lowest_from (suc i) xs ≤ length xs → cond b 1 0 + lowest_from (suc i) xs ≤ suc (length xs)
    go true h = omega arith
    go false h = omega arith
