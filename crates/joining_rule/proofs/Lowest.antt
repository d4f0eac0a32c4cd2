-- A block's number is its lowest index; and the number of blocks falls with each joining that changes a block. For one basis.
use mathlib.Core.Path.{◌≡◌, refl, sym, ap, ◌∙◌}
use mathlib.Core.Logic.{◌⊎◌, inl, inr, ⊎_elim}
use mathlib.Core.Bool.{Bool, true, false, cond}
use mathlib.Core.List.{List, [], ◌∷◌, map}
use Prim.Native.Nat.{ℕ, zero, suc, ◌+◌, ◌≤◌, ◌<◌, min, max, zero-le}
use native.Mathlib.Nat.{le_of_suc-le-suc, not-suc-le-zero, le_refl, le_trans, zero-lt-suc}
use native.Mathlib.Omega.{arith}
use lib.ListN.{length, get_or}
use lib.Dec.{eqb, leb}
use borrow.Author.Tests.{eqb-true, eqb-false, eq-eqb, ne_eqb, leb-true, leb-false}
use Rattle.counting.specs.Counting.{listed}
use Rattle.counting.proofs.Listed.{listed_length, listed_at}
use Rattle.joining_rule.specs.Join.{linked, renamed, merged, join_pair, join}
use Rattle.joining_rule.specs.Sets.{different}
use Rattle.joining_rule.proofs.Numbered.{Numbered, lowest_from, different_lowest}
use Rattle.joining_rule.proofs.Laws.{merged_same}
use Rattle.joining_rule.proofs.Pairs.{pairs_keep}
use Rattle.joining_rule.proofs.Labels.{in_one, InOne, merged_long, merged_at, two_low, other_same, in_one_lem, pair_long}
use Rattle.joining_rule.proofs.Labels.InOne.{two, other}

-- ---- every index its own block

pub singles_numbered : (n : ℕ) → Numbered (listed n (λ i. i))
singles_numbered n = let e = listed_length n (λ i. i) in record {
  lowest = λ x h. rw (listed_at n (λ i. i) x 0 (omega arith)) (le_refl x);
  own = λ x h. rw (listed_at n (λ i. i) x 0 (omega arith)) (listed_at n (λ i. i) x 0 (omega arith));
}

all_lowest : (i : ℕ) (l : List ℕ) → ((x : ℕ) → x < length l → get_or l x 0 ≡ i + x) → lowest_from i l ≡ length l
unfolding lowest_from
all_lowest i [] h = refl
all_lowest i (x ∷ xs) h =
    let e : eqb x i ≡ true = eq-eqb x i (h 0 (omega arith) ∙ omega arith) in
    rw e (omega (arith, all_lowest (suc i) xs (λ y b. h (suc y) (omega arith) ∙ omega arith)))

-- then there are as many blocks as indices
pub singles_count : (n : ℕ) → different (listed n (λ i. i)) ≡ n
singles_count n =
    let e = listed_length n (λ i. i) in
    different_lowest (listed n (λ i. i)) (singles_numbered n) ∙ all_lowest 0 (listed n (λ i. i)) (λ x h. listed_at n (λ i. i) x 0 (omega arith) ∙ omega arith) ∙ e

-- a basis that is not empty has a block
some_lowest : (L : List ℕ) → Numbered L → 0 < length L → 1 ≤ lowest_from 0 L
unfolding lowest_from
some_lowest [] n h = absurd (not-suc-le-zero h)
some_lowest (x ∷ xs) n h = let e : eqb x 0 ≡ true = eq-eqb x 0 (omega (arith, n.lowest 0 h)) in rw e (omega arith)

pub some_block : (L : List ℕ) → Numbered L → 0 < length L → 1 ≤ different L
some_block L n h = rw (different_lowest L n) (some_lowest L n h)

-- ---- Block b renamed to a, where index a is not in block b: no index becomes the number of its block, and index b, where it was, is not any more

module _ (a b : ℕ) (ne : a ≡ b → ⊥) where
  renamed_one : (x i : ℕ) → (x ≡ b → i ≡ a → ⊥) → cond (eqb (renamed b a x) i) 1 0 ≤ cond (eqb x i) 1 0
  renamed_one x i h = go (eqb x b) refl
    where
      go : (d : Bool) → eqb x b ≡ d → cond (eqb (cond d a x) i) 1 0 ≤ cond (eqb x i) 1 0
      go true e = rw (ne_eqb a i (λ q. h (eqb-true x b e) (sym q))) zero-le
      go false e = le_refl _

  renamed_fewer : (i : ℕ) (l : List ℕ) → ((x : ℕ) → x < length l → get_or l x 0 ≡ b → i + x ≡ a → ⊥) → lowest_from i (map (renamed b a) l) ≤ lowest_from i l
  unfolding lowest_from
  renamed_fewer i [] h = zero-le
  renamed_fewer i (x ∷ xs) h =
      omega (arith, renamed_one x i (λ e q. h zero (zero-lt-suc (length xs)) e (omega arith)), renamed_fewer (suc i) xs (λ y l e q. h (suc y) (omega arith) e (omega arith)))

  renamed_less : (i : ℕ) (l : List ℕ) → ((x : ℕ) → x < length l → get_or l x 0 ≡ b → i + x ≡ a → ⊥) → (y : ℕ) → y < length l → i + y ≡ b → get_or l y 0 ≡ b
      → lowest_from i (map (renamed b a) l) < lowest_from i l
  unfolding lowest_from
  renamed_less i [] h y hy e f = absurd (not-suc-le-zero hy)
  renamed_less i (x ∷ xs) h zero hy e f =
      let q : eqb (renamed b a x) i ≡ false = rw (eq-eqb x b f) (ne_eqb a i (λ g. ne (omega arith))) in
      let r : eqb x i ≡ true = eq-eqb x i (omega arith) in
      rw (q, r) (omega (arith, renamed_fewer (suc i) xs (λ y l e q. h (suc y) (omega arith) e (omega arith))))
  renamed_less i (x ∷ xs) h (suc y) hy e f =
      omega (
        arith,
        renamed_one x i (λ e q. h zero (zero-lt-suc (length xs)) e (omega arith)),
        renamed_less (suc i) xs (λ y l e q. h (suc y) (omega arith) e (omega arith)) y (le_of_suc-le-suc hy) (omega arith) f,
      )

-- ---- L' is L with blocks made one: numbered by the lowest index too, with fewer blocks, or just as L

pub record Falls (L L' : List ℕ) : Type 0 where
  pub numbered : Numbered L'
  pub less : different L' ≤ different L
  pub same : different L' ≡ different L → L' ≡ L

pub falls_refl : (L : List ℕ) → Numbered L → Falls L L
falls_refl L n = record { numbered = n; less = le_refl (different L); same = λ _. refl }

pub falls_trans : (L L' L'' : List ℕ) → Falls L L' → Falls L' L'' → Falls L L''
falls_trans L L' L'' a b = record {
  numbered = b.numbered;
  less = le_trans b.less a.less;
  same = λ e. b.same (omega (arith, a.less, b.less)) ∙ a.same (omega (arith, a.less, b.less));
}

-- of two numbers one is the lower and the other the upper
lower_upper : (a b : ℕ) → ((min a b ≡ a) × (max a b ≡ b)) ⊎ ((min a b ≡ b) × (max a b ≡ a))
lower_upper a b = go (leb a b) refl
  where
    go : (d : Bool) → leb a b ≡ d → ((min a b ≡ a) × (max a b ≡ b)) ⊎ ((min a b ≡ b) × (max a b ≡ a))
    go true e = let l = leb-true a b e in inl (omega arith, omega arith)
    go false e = let l = leb-false a b e in inr (omega arith, omega arith)

-- a and b are the numbers of two blocks
module _ (L : List ℕ) (n : Numbered L) (a b : ℕ) (ha : a < length L) (hb : b < length L) (oa : get_or L a 0 ≡ a) (ob : get_or L b 0 ≡ b) where
  lower_own : get_or L (min a b) 0 ≡ min a b
  lower_own = ⊎_elim (λ e. rw e.0 oa) (λ e. rw e.0 ob) (lower_upper a b)

  upper_own : get_or L (max a b) 0 ≡ max a b
  upper_own = ⊎_elim (λ e. rw e.1 ob) (λ e. rw e.1 oa) (lower_upper a b)

  merged_numbered : Numbered (merged a b L)
  merged_numbered = record {
    lowest = λ x h. let l : x < length L = omega (arith, merged_long a b L) in rw (merged_at a b L x l) (low x l (in_one_lem a b (get_or L x 0)));
    own = λ x h. let l : x < length L = omega (arith, merged_long a b L) in rw (merged_at a b L x l) (own x l (in_one_lem a b (get_or L x 0)));
  }
    where
      low : (x : ℕ) → x < length L → {r : ℕ} → InOne a b (get_or L x 0) r → r ≤ x
      low x l (two h) = ⊎_elim (λ e. omega (arith, n.lowest x l)) (λ e. omega (arith, n.lowest x l)) h
      low x l (other p q) = n.lowest x l

      own : (x : ℕ) → x < length L → {r : ℕ} → InOne a b (get_or L x 0) r → get_or (merged a b L) r 0 ≡ r
      own x l (two h) =
          merged_at a b L (min a b) (omega arith) ∙ ap (in_one a b) lower_own ∙ two_low a b (min a b) (⊎_elim (λ e. inl e.0) (λ e. inr e.0) (lower_upper a b))
      own x l (other p q) = merged_at a b L (get_or L x 0) (omega (arith, n.lowest x l)) ∙ ap (in_one a b) (n.own x l) ∙ other_same a b (get_or L x 0) p q

  -- one block fewer
  merged_less : (a ≡ b → ⊥) → different (merged a b L) < different L
  unfolding merged
  merged_less ne =
      rw (different_lowest (merged a b L) merged_numbered, different_lowest L n)
      (renamed_less (min a b) (max a b) (λ e. ne (omega arith)) 0 L
      (λ x l e q. let w : x ≡ min a b = omega arith in let u : get_or L x 0 ≡ min a b = rw w lower_own in ne (omega arith))
      (max a b) (omega arith) (omega arith) upper_own)

  two_falls : Falls L (merged a b L)
  two_falls = go (eqb a b) refl
    where
      go : (d : Bool) → eqb a b ≡ d → Falls L (merged a b L)
      go true e = let q : merged a b L ≡ L = rw (eqb-true a b e) (merged_same b L) in rw q (falls_refl L n)
      go false e =
          let l = merged_less (eqb-false a b e) in
          record { numbered = merged_numbered; less = omega arith; same = λ q. absurd (omega arith) }

pub merged_falls : (L : List ℕ) → Numbered L → (i k : ℕ) → i < length L → k < length L → Falls L (merged (get_or L i 0) (get_or L k 0) L)
merged_falls L n i k hi hk =
    two_falls L n (get_or L i 0) (get_or L k 0) (omega (arith, n.lowest i hi)) (omega (arith, n.lowest k hk)) (n.own i hi) (n.own k hk)

module _ (S T B : List ℕ) where
  pair_falls : (i k : ℕ) (L : List ℕ) → Numbered L → i < length L → k < length L → Falls L (join_pair S T B i k L)
  unfolding join_pair
  pair_falls i k L n hi hk = go (linked S T (get_or B i 0 + get_or B k 0))
    where
      go : (b : Bool) → Falls L (cond b (merged (get_or L i 0) (get_or L k 0) L) L)
      go true = merged_falls L n i k hi hk
      go false = falls_refl L n

  -- a joining keeps the numbers' rule; it has fewer blocks after it, or changes none
  pub join_falls : (L : List ℕ) → length L ≡ length B → Numbered L → Falls L (join S T B L)
  unfolding join
  join_falls L l n =
      (pairs_keep (length B) (λ i. i + 1) (join_pair S T B) (λ M. (length M ≡ length B) × Falls L M)
      (λ i k M hi _ hk f. (pair_long S T B i k M ∙ f.0, falls_trans L M (join_pair S T B i k M) f.1 (pair_falls i k M f.1.numbered (omega (arith, f.0)) (omega (arith, f.0)))))
      L (l, falls_refl L n)).1
