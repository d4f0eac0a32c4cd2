-- The matrix of the products w × l × l' is symmetric, and so is b × b': half of it is enough, with what is off the diagonal doubled.
use mathlib.Core.Path.{◌≡◌, refl, sym, ap, ap₂, ◌∙◌}
use mathlib.Core.Bool.{Bool, true, false, cond}
use mathlib.Core.List.{List, [], ◌∷◌}
use mathlib.Core.Logic.{⊎_elim}
use Prim.Native.Nat.{ℕ, zero, suc, ◌+◌, ◌*◌, ◌/◌, ◌%◌, ◌<◌}
use native.Mathlib.Nat.{add_comm, eq-or-lt_of_le}
use native.Mathlib.Omega.{arith}
use lib.Dec.{leb, ltb}
use lib.IntN.{ℤ, pos, ◌+ℤ◌, ◌*ℤ◌, *ℤ-zero, zero-*ℤ, +ℤ_idl}
use lib.ListN.{get_or}
use borrow.Author.Tests.{eq-eqb, ne_eqb, leb-true, leb-false, lt-ltb, le-ltb}
use Rattle.integers.proofs.Ring.{view, diffs, ⊖-eq, *ℤ_assoc, *ℤ_left_comm}
use Rattle.counting.specs.Counting.{listed}
use Rattle.polynomial.specs.Terms.{Term, term}
use Rattle.polynomial.specs.Algebra.{sum, match, coefficient, ◌⊗◌}
use Rattle.polynomial.proofs.Keys.{Keys}
use Rattle.polynomial.proofs.Sums.{sum_append, sum_scale, sum-⊗}
use Rattle.format.specs.ProblemRules.{Problem}
use Rattle.format.specs.ProblemBases.{basis_of, multiplier}
use Rattle.format.specs.All.{All}
use Rattle.format.specs.CertificateRules.{Entry, Row}
use Rattle.accepting.specs.Identity.{squares}
use Rattle.row_outer.specs.Gram.{factor_terms, rekeyed, outer, gram, times, times_at, doubled}
use Rattle.row_outer.specs.Frame.{share}
use Rattle.row_outer.proofs.Gram.{sum_same, sum_rekeyed, factors_low, gram_places, at, under, place_key, rows_gram}

-- ---- sums over one list and over two
pub sum_alike : (m m' : ℕ → ℤ) → ((k : ℕ) → m k ≡ m' k) → (P : List Term) → sum m P ≡ sum m' P
sum_alike m m' f [] = refl
sum_alike m m' f (t ∷ P) = rw (f t.key, sum_alike m m' f P)

pub sum_zeros : (P : List Term) → sum (λ _. pos 0) P ≡ pos 0
sum_zeros [] = refl
sum_zeros (t ∷ P) = rw (*ℤ-zero t.coefficient, sum_zeros P)

module _ (a b : ℕ → ℤ) where
  plus_step : (c x y s t : ℤ) → c *ℤ (x +ℤ y) +ℤ (s +ℤ t) ≡ (c *ℤ x +ℤ s) +ℤ (c *ℤ y +ℤ t)
  plus_step c x y s t = rw ((view c).eq, (view x).eq, (view y).eq, (view s).eq, (view t).eq) (simp diffs (⊖-eq _ _ _ _ (omega arith)))

  pub sum_plus : (P : List Term) → sum (λ k. a k +ℤ b k) P ≡ sum a P +ℤ sum b P
  sum_plus [] = refl
  sum_plus (t ∷ P) = rw (sum_plus P) (plus_step t.coefficient (a t.key) (b t.key) (sum a P) (sum b P))

pub sum_times : (x : ℤ) (m : ℕ → ℤ) (P : List Term) → sum (λ k. x *ℤ m k) P ≡ x *ℤ sum m P
sum_times x m [] = sym (*ℤ-zero x)
sum_times x m (t ∷ P) = rw (sum_times x m P) (step t.coefficient x (m t.key) (sum m P))
  where
    step : (c x y s : ℤ) → c *ℤ (x *ℤ y) +ℤ x *ℤ s ≡ x *ℤ (c *ℤ y +ℤ s)
    step c x y s = rw ((view c).eq, (view x).eq, (view y).eq, (view s).eq) (simp diffs (⊖-eq _ _ _ _ (omega arith)))

sum_swap : (f : ℕ → ℕ → ℤ) (P Q : List Term) → sum (λ j. sum (f j) Q) P ≡ sum (λ k. sum (λ j. f j k) P) Q
sum_swap f [] Q = sym (sum_zeros Q)
sum_swap f (t ∷ P) Q =
    ap₂ ◌+ℤ◌ (sym (sum_times t.coefficient (f t.key) Q)) (sum_swap f P Q)
    ∙ sym (sum_plus (λ k. t.coefficient *ℤ f t.key k) (λ k. sum (λ j. f j k) P) Q)

-- each two terms of a list
abbrev pairs : (ℕ → ℕ → ℤ) → List Term → ℤ
pairs f F = sum (λ i. sum (f i) F) F

pairs_plus : (f g : ℕ → ℕ → ℤ) (F : List Term) → pairs (λ i k. f i k +ℤ g i k) F ≡ pairs f F +ℤ pairs g F
pairs_plus f g F = sum_alike _ _ (λ i. sum_plus (f i) (g i) F) F ∙ sum_plus (λ i. sum (f i) F) (λ i. sum (g i) F) F

-- ---- the half
module _ (m : ℕ → ℕ → ℤ) where
  abbrev below : ℕ → ℕ → ℤ
  below i k = cond (ltb k i) (m i k) (pos 0)

  abbrev above : ℕ → ℕ → ℤ
  above i k = cond (leb i k) (m i k) (pos 0)

  parted : (i k : ℕ) → m i k ≡ below i k +ℤ above i k
  parted i k = go (leb i k) refl
    where
      go : (b : Bool) → leb i k ≡ b → m i k ≡ below i k +ℤ above i k
      go true e = rw (le-ltb k i (leb-true i k e), e) (sym (+ℤ_idl (m i k)))
      go false e = rw (lt-ltb k i (leb-false i k e), e) (view_idr (m i k))
        where
          view_idr : (z : ℤ) → z ≡ z +ℤ pos 0
          view_idr z = rw (view z).eq (simp diffs (⊖-eq _ _ _ _ (omega arith)))

  module _ (symmetric : (i k : ℕ) → i < 64 → k < 64 → m i k ≡ m k i) where
    -- what is below the diagonal, mirrored, and what is not
    mirrored : (i k : ℕ) → i < 64 → k < 64 → below k i +ℤ above i k ≡ times i k *ℤ m i k
    mirrored i k a b = go (leb i k) refl
      where
        two : (z : ℤ) → z +ℤ z ≡ pos 2 *ℤ z
        two z = rw (view z).eq (simp diffs (⊖-eq _ _ _ _ (omega arith)))

        one : (z : ℤ) → pos 0 +ℤ z ≡ pos 1 *ℤ z
        one z = rw (view z).eq (simp diffs (⊖-eq _ _ _ _ (omega arith)))

        go : (b : Bool) → leb i k ≡ b → below k i +ℤ above i k ≡ times i k *ℤ m i k
        go true e =
            ⊎_elim
            (λ q. rw (le-ltb i k (omega arith), e, eq-eqb i k q) (one (m i k)))
            (λ l. rw (lt-ltb i k l, e, ne_eqb i k (λ q. omega arith)) (ap (λ (z : ℤ). z +ℤ m i k) (symmetric k i b a) ∙ two (m i k)))
            (eq-or-lt_of_le {n = i} {m = k} (leb-true i k e))
        go false e = let l = leb-false i k e in rw (le-ltb i k (omega arith), e) (sym (zero-*ℤ (m i k)))

    halved : (F : List Term) → Keys (λ i. i < 64) F → pairs m F ≡ pairs (λ i k. times i k *ℤ m i k) F
    halved F low =
        sum_alike _ _ (λ i. sum_alike _ _ (parted i) F) F
        ∙ pairs_plus below above F
        ∙ ap (λ (z : ℤ). z +ℤ pairs above F) (sum_swap below F F)
        ∙ sym (pairs_plus (λ i k. below k i) above F)
        ∙ sum_same (λ i. i < 64) _ _ (λ i a. sum_same (λ i. i < 64) _ _ (λ k b. mirrored i k a b) F low) F low

-- ---- the products of the rows
module _ (M : ℕ → ℤ) (symmetric : (i k : ℕ) → i < 64 → k < 64 → M (64 * i + k) ≡ M (64 * k + i)) where
  abbrev half : ℕ → ℤ
  half n = doubled n (M n)

  outer_pairs : (m : ℕ → ℤ) (r : Row) → sum m (outer r) ≡ r.weight *ℤ pairs (λ i k. m (64 * i + k)) (factor_terms r.entries)
  outer_pairs m r =
      let F = factor_terms r.entries in
      sum_scale m r.weight (rekeyed (λ i. 64 * i) F ⊗ F)
      ∙ ap (λ (z : ℤ). r.weight *ℤ z) (sum-⊗ m (rekeyed (λ i. 64 * i) F) F ∙ sum_rekeyed _ (λ i. 64 * i) F)

  half_at : (i k : ℕ) → k < 64 → times i k *ℤ M (64 * i + k) ≡ half (64 * i + k)
  half_at i k h =
      let q : (64 * i + k) / 64 ≡ i = omega arith in
      let r : (64 * i + k) % 64 ≡ k = omega arith in
      rw (q, r)

  outer_half : (r : Row) → All (λ (e : Entry). e.index < 64) r.entries → sum M (outer r) ≡ sum half (outer r)
  outer_half r h =
      let F = factor_terms r.entries in
      let low = factors_low 64 r.entries h in
      outer_pairs M r
      ∙ ap (λ (z : ℤ). r.weight *ℤ z)
      (halved (λ i k. M (64 * i + k)) symmetric F low ∙ sum_alike _ _ (λ i. sum_same (λ i. i < 64) _ _ (λ k b. half_at i k b) F low) F)
      ∙ sym (outer_pairs half r)

  gram_half : (rs : List Row) → All (λ (r : Row). All (λ (e : Entry). e.index < 64) r.entries) rs → sum M (gram rs) ≡ sum half (gram rs)
  unfolding gram All
  gram_half [] h = refl
  gram_half (r ∷ rs) h = rw (sum_append M (outer r) (gram rs), sum_append half (outer r) (gram rs), outer_half r h.0, gram_half rs h.1)

  -- a table of half of it, doubled
  listed_same_sum : (f f' m m' : ℕ → ℤ) (n : ℕ) → ((i : ℕ) → f i *ℤ m i ≡ f' i *ℤ m' i) → sum m (listed n (λ i. term i (f i))) ≡ sum m' (listed n (λ i. term i (f' i)))
  unfolding listed
  listed_same_sum f f' m m' zero h = refl
  listed_same_sum f f' m m' (suc n) h =
      rw (sum_append m (listed n (λ i. term i (f i))) (term n (f n) ∷ []), sum_append m' (listed n (λ i. term i (f' i))) (term n (f' n) ∷ []), listed_same_sum f f' m m' n h, h n)

  doubled_moved : (n : ℕ) (c x : ℤ) → doubled n c *ℤ x ≡ c *ℤ doubled n x
  doubled_moved n c x = *ℤ_assoc (times_at n) c x ∙ *ℤ_left_comm (times_at n) c x

  half_table : (rs : List Row) → All (λ (r : Row). All (λ (e : Entry). e.index < 64) r.entries) rs
      → sum M (gram rs) ≡ sum M (listed 4096 (λ n. term n (doubled n (coefficient n (gram rs)))))
  half_table rs small =
      gram_half rs small
      ∙ gram_places rs small half
      ∙ listed_same_sum (λ n. coefficient n (gram rs)) (λ n. doubled n (coefficient n (gram rs))) half M 4096 (λ n. sym (doubled_moved n (coefficient n (gram rs)) (M n)))

-- ---- the law: a table with half of the rows' products, doubled, gives the same polynomial as the rows
module _ (p : Problem) (j : ℕ) where
  pair_symmetric : (m : ℕ → ℤ) (i k : ℕ) → i < 64 → k < 64 → at p j m (64 * i + k) ≡ at p j m (64 * k + i)
  pair_symmetric m i k a b =
      ap (under p j m) (place_key p j i k b ∙ add_comm (get_or (basis_of p j) i 0) (get_or (basis_of p j) k 0) ∙ sym (place_key p j k i a))

  pub gram_table : (rs : List Row) → All (λ (r : Row). r.basis ≡ j) rs → All (λ (r : Row). All (λ (e : Entry). e.index < 64) r.entries) rs
      → (k : ℕ) → coefficient k (squares p rs) ≡ sum (share (basis_of p j) (multiplier p j) k) (listed 4096 (λ n. term n (doubled n (coefficient n (gram rs)))))
  unfolding coefficient
  gram_table rs on small k = rows_gram p j (match k) rs on small ∙ half_table (at p j (match k)) (pair_symmetric (match k)) rs small
