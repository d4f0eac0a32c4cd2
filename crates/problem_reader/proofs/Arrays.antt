-- Laws of stores in the arrays: one list changes, and the others stay. The lists have the numbers of their lengths'
-- places: 0 to 8 are the bases, 9 to 17 the multipliers, and 18 is the objective.
use mathlib.Core.Path.{◌≡◌, refl, sym, ap, subst, ◌∙◌}
use mathlib.Core.Bool.{cond}
use mathlib.Core.List.{List, ◌++◌}
use mathlib.Core.Logic.{◌⊎◌, inl, inr, ⊎_elim, ◌≢◌}
use Prim.Native.Nat.{ℕ, zero, suc, ◌+◌, ◌-◌, ◌*◌, ◌^◌, ◌≤◌, ◌<◌}
use native.Mathlib.Decide.{dec_lt}
use native.Mathlib.Numerals.{lt_of_le_of_ne}
use native.Mathlib.Omega.{arith}
use lib.Dec.{ltb}
use lib.IntN.{ℤ, pos, nat_abs}
use lib.ListN.{length, take, drop, set, get_or, length-set}
use lib.Seq.{get_or-set_other, drop-set-add, drop-set-lt, take-set-le, paste, paste-zero, paste-suc, take-append-le, drop-append-le, drop_at, length_paste_head, length-take-le, take-take}
use borrow.Author.Tests.{lt-ltb, le-ltb}
use Rattle.counting.proofs.Cases.{lt_or_le}
use Rattle.flat.specs.Flat.{basis_at, exponents_at, basis_in, polynomial_in, most_at, degree_at, largest_at, FlatLimits}
use Rattle.flat.proofs.TermArrays.{set_all, terms_same}
use Rattle.flat.proofs.Flat.{basis_most, multiplier_most, multiplier_size}

-- ---- where a list begins in keys; the lists follow one another
unfoldable pub list_at : ℕ → ℕ
list_at i = cond (ltb i 9) (basis_at i) (exponents_at (i - 9))

pub basis_list : (i : ℕ) → i < 9 → list_at i ≡ 64 * i
unfolding list_at
basis_list i h = rw (lt-ltb i 9 h)

pub polynomial_list : (i : ℕ) → 9 ≤ i → list_at i ≡ 576 + 32 * (i - 9)
unfolding list_at
polynomial_list i h = rw (le-ltb i 9 h)

ordered : (j i : ℕ) → j < i → i < 19 → list_at j + most_at j ≤ list_at i
ordered j i h k =
    ⊎_elim
    (λ a. ⊎_elim (λ b. omega (arith, basis_list j a, basis_most j a, basis_list i b)) (λ b. omega (arith, basis_list j a, basis_most j a, polynomial_list i b)) (lt_or_le i 9))
    (λ a. omega (arith, polynomial_list j a, multiplier_most j a (omega arith), polynomial_list i (omega arith)))
    (lt_or_le j 9)

before_or_after : (i j : ℕ) → i ≢ j → (i < j) ⊎ (j < i)
before_or_after i j d = go (dec_lt i j)
  where
    go : Dec (i < j) → (i < j) ⊎ (j < i)
    go (yes h) = inl h
    go (no h) = inr (lt_of_le_of_ne (omega arith) (λ e. d (sym e)))

-- ---- the part of n places from a on may have changed: every part apart from it is the same
pub record Apart {A : Type 0} (a n : ℕ) (l l' : List A) : Type 0 where
  pub same : (b m : ℕ) → (b + m ≤ a) ⊎ (a + n ≤ b) → take m (drop b l') ≡ take m (drop b l)

module _ {A : Type 0} (l : List A) where
  pub apart_set : (a n i : ℕ) (x : A) → a ≤ i → i < a + n → Apart a n l (set l i x)
  apart_set a n i x h k = record {
    same = λ b m.
        ⊎_elim
        (λ p.
        let e : i ≡ b + (i - b) = omega arith in
        rw e (rw (drop-set-add b l (i - b) x) (take-set-le m (drop b l) (i - b) x (omega arith))))
        (λ p. rw (drop-set-lt b l i x (omega arith)));
  }

module _ {A : Type 0} (l : List A) (a : ℕ) (s : List A) (d : A) where
  pub apart_paste : (n : ℕ) → a + n ≤ length l → n ≤ length s → Apart a n l (paste l a s n)
  apart_paste zero h k = record { same = λ b m _. ap (λ (x : List A). take m (drop b x)) (sym (paste-zero l a s)) }
  apart_paste (suc n) h k = record {
    same = λ b m q.
        ap (λ (x : List A). take m (drop b x)) (sym (paste-suc l a s n d (omega arith) (omega arith)))
        ∙ (apart_set (paste l a s n) a (suc n) (a + n) (get_or s n d) (omega arith) (omega arith)).same b m q
        ∙ (apart_paste n (omega arith) (omega arith)).same b m (⊎_elim inl (λ p. inr (omega arith)) q);
  }

  -- what holds at each place of both lists holds after the copy
  pub paste_all : (P : ℕ → A → Type 0) → ((i : ℕ) → P i (get_or l i d)) → (n : ℕ) → a + n ≤ length l → n ≤ length s
      → ((i : ℕ) → i < n → P (a + i) (get_or s i d)) → (i : ℕ) → P i (get_or (paste l a s n) i d)
  paste_all P f zero h k g i = subst (λ (x : List A). P i (get_or x i d)) (paste-zero l a s) (f i)
  paste_all P f (suc n) h k g i =
      subst (λ (x : List A). P i (get_or x i d)) (paste-suc l a s n d (omega arith) (omega arith))
      (set_all P (paste l a s n) (a + n) (get_or s n d) d (paste_all P f n (omega arith) (omega arith) (λ j q. g j (omega arith))) (g n (omega arith)) i)

  -- and the copy stands in its part
  pub paste_here : (n : ℕ) → a ≤ length l → n ≤ length s → take n (drop a (paste l a s n)) ≡ take n s
  paste_here n h k =
      let u = length_paste_head l a s n h k in
      let v = length-take-le n s k in
      ap (take n) (drop-append-le a (take a l ++ take n s) (drop (a + n) l) (omega arith))
      ∙ ap (λ (x : List A). take n (x ++ drop (a + n) l)) (drop_at (take a l) (take n s) a (length-take-le a l h))
      ∙ take-append-le n (take n s) (drop (a + n) l) (omega arith)
      ∙ take-take n n s (omega arith)

-- ---- list i may have changed, and no other
pub record Others (i : ℕ) (keys : List ℕ) (coefficients : List ℤ) (sizes keys' : List ℕ) (coefficients' : List ℤ) (sizes' : List ℕ) : Type 0 where
  pub bases : (j : ℕ) → j < 9 → j ≢ i → basis_in keys' sizes' j ≡ basis_in keys sizes j
  pub polynomials : (j : ℕ) → j < 10 → 9 + j ≢ i → polynomial_in keys' coefficients' sizes' j ≡ polynomial_in keys coefficients sizes j
  pub lengths : (j : ℕ) → j ≢ i → get_or sizes' j 0 ≡ get_or sizes j 0

pub polynomial_place : (j : ℕ) → list_at (9 + j) ≡ 576 + 32 * j
polynomial_place j = let e : 9 + j - 9 ≡ j = omega arith in rw e at (polynomial_list (9 + j) (omega arith))

module _ {keys : List ℕ} {coefficients : List ℤ} {sizes : List ℕ} (f : FlatLimits keys coefficients sizes) where
  -- the coefficients of polynomial q may have changed: the others' are the same
  pub coefficients_apart : (q : ℕ) (coefficients' : List ℤ) → q < 10 → Apart (32 * q) (most_at (9 + q)) coefficients coefficients' → (j : ℕ) → j < 10 → 9 + j ≢ 9 + q
      → take (get_or sizes (9 + j) 0) (drop (32 * j) coefficients') ≡ take (get_or sizes (9 + j) 0) (drop (32 * j) coefficients)
  coefficients_apart q coefficients' b a j c d =
      a.same (32 * j) (get_or sizes (9 + j) 0)
      (⊎_elim
      (λ h. inl (omega (arith, multiplier_size f j (omega arith))))
      (λ h. inr (omega (arith, multiplier_most (9 + q) (omega arith) (omega arith))))
      (before_or_after j q (λ e. d (ap (λ (x : ℕ). 9 + x) e))))

  module _ (i m : ℕ) (keys' : List ℕ) (coefficients' : List ℤ) where
    pub others : i < 19 → Apart (list_at i) (most_at i) keys keys'
        → ((j : ℕ) → j < 10 → 9 + j ≢ i → take (get_or sizes (9 + j) 0) (drop (32 * j) coefficients') ≡ take (get_or sizes (9 + j) 0) (drop (32 * j) coefficients))
        → Others i keys coefficients sizes keys' coefficients' (set sizes i m)
    others h k c = record {
      bases = λ j q d. rw (get_or-set_other sizes i j m 0 d) (rw (basis_list j q) at (list_same j (omega arith) d));
      polynomials = λ j q d. rw (get_or-set_other sizes i (9 + j) m 0 d) (terms_same (get_or sizes (9 + j) 0) _ _ _ _ (rw (polynomial_place j) at (list_same (9 + j) (omega arith) d)) (c j q d));
      lengths = λ j d. get_or-set_other sizes i j m 0 d;
    }
      where
        list_same : (j : ℕ) → j < 19 → j ≢ i → take (get_or sizes j 0) (drop (list_at j) keys') ≡ take (get_or sizes j 0) (drop (list_at j) keys)
        list_same j q d = k.same (list_at j) (get_or sizes j 0) (⊎_elim (λ p. inl (omega (arith, ordered j i p h, f.sizes_low j))) (λ p. inr (ordered i j p q)) (before_or_after j i d))

    pub limits_more : length keys' ≡ length keys → length coefficients' ≡ length coefficients → ((x : ℕ) → get_or keys' x 0 ≤ degree_at x * 2 ^ 56)
        → ((x : ℕ) → nat_abs (get_or coefficients' x (pos 0)) ≤ largest_at x) → m ≤ most_at i → FlatLimits keys' coefficients' (set sizes i m)
    limits_more u v low small few = record {
      keys_length = u ∙ f.keys_length;
      coefficients_length = v ∙ f.coefficients_length;
      sizes_length = length-set sizes i m ∙ f.sizes_length;
      sizes_low = set_all (λ j n. n ≤ most_at j) sizes i m 0 f.sizes_low few;
      keys_low = low;
      coefficients_low = small;
    }

  -- ---- a number of sizes alone: the lists stay, but for one whose length it is
  pub number_others : (i m : ℕ) → Others i keys coefficients sizes keys coefficients (set sizes i m)
  number_others i m = record {
    bases = λ j q d. rw (get_or-set_other sizes i j m 0 d);
    polynomials = λ j q d. rw (get_or-set_other sizes i (9 + j) m 0 d);
    lengths = λ j d. get_or-set_other sizes i j m 0 d;
  }

  pub number_limits : (i m : ℕ) → m ≤ most_at i → FlatLimits keys coefficients (set sizes i m)
  number_limits i m few = limits_more i m keys coefficients refl refl f.keys_low f.coefficients_low few
