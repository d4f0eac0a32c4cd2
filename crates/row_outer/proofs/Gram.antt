-- A table of the products w × l × l' may stand for the rows on a basis, and the rows may be taken basis by basis.
use mathlib.Core.Path.{◌≡◌, refl, sym, ap, ◌∙◌}
use mathlib.Core.Bool.{Bool, true, false, cond}
use mathlib.Core.List.{List, [], ◌∷◌, ◌++◌}
use mathlib.Core.Logic.{⊎_elim}
use Prim.Native.Nat.{ℕ, zero, suc, ◌+◌, ◌*◌, ◌/◌, ◌%◌, ◌≤◌, ◌<◌}
use native.Mathlib.Nat.{eq-or-lt_of_le}
use native.Mathlib.Omega.{arith}
use lib.Dec.{eqb, ltb}
use lib.IntN.{ℤ, pos, one, ◌+ℤ◌, ◌*ℤ◌, *ℤ-one, +ℤ_idl, +ℤ_idr, +ℤ_assoc, +ℤ_comm}
use lib.ListN.{get_or}
use borrow.Author.Tests.{eqb-true, eq-eqb, ne_eqb, ltb-true, ltb-false}
use Rattle.integers.proofs.Ring.{+ℤ_left_comm}
use Rattle.counting.specs.Counting.{listed}
use Rattle.polynomial.specs.Terms.{Term, term}
use Rattle.polynomial.specs.Algebra.{sum, match, coefficient, scale, ◌⊗◌}
use Rattle.polynomial.proofs.Keys.{Keys}
use Rattle.polynomial.proofs.Sums.{sum_append, sum_scale, sum-⊗, same_sums, coefficient_append, coefficient_none}
use Rattle.polynomial.proofs.Products.{keys_append, keys_scale, keys-⊗, keys_map}
use Rattle.format.specs.ProblemRules.{Problem}
use Rattle.format.specs.ProblemBases.{basis_of, multiplier}
use Rattle.format.specs.All.{All}
use Rattle.format.specs.CertificateRules.{Entry, Row}
use Rattle.accepting.specs.Identity.{combination, square, squares}
use Rattle.row_outer.specs.Gram.{factor_terms, rekeyed, outer, gram, pair_key, expanded, rows_on, by_basis}

-- ---- sums under another m
pub sum_same : (A : ℕ → Type 0) (m m' : ℕ → ℤ) → ((k : ℕ) → A k → m k ≡ m' k) → (P : List Term) → Keys A P → sum m P ≡ sum m' P
sum_same A m m' f [] h = refl
sum_same A m m' f (t ∷ P) h = rw (f t.key h.0, sum_same A m m' f P h.1)

pub sum_rekeyed : (m : ℕ → ℤ) (f : ℕ → ℕ) (P : List Term) → sum m (rekeyed f P) ≡ sum (λ k. m (f k)) P
sum_rekeyed m f [] = refl
sum_rekeyed m f (t ∷ P) = rw (sum_rekeyed m f P)

combination_factors : (B : List ℕ) (es : List Entry) → combination B es ≡ rekeyed (λ i. get_or B i 0) (factor_terms es)
combination_factors B [] = refl
combination_factors B (e ∷ es) = rw (combination_factors B es)

pub factors_low : (m : ℕ) (es : List Entry) → All (λ (e : Entry). e.index < m) es → Keys (λ i. i < m) (factor_terms es)
unfolding All
factors_low m [] h = tt
factors_low m (e ∷ es) h = (h.0, factors_low m es h.1)

pub keys_rekeyed : (A : ℕ → Type 0) (f : ℕ → ℕ) (P : List Term) → Keys (λ k. A (f k)) P → Keys A (rekeyed f P)
keys_rekeyed A f [] h = tt
keys_rekeyed A f (t ∷ P) h = (h.0, keys_rekeyed A f P h.1)

-- the places of the products are below 64 × 64
outer_keys : (r : Row) → All (λ (e : Entry). e.index < 64) r.entries → Keys (λ n. n < 4096) (outer r)
outer_keys r h =
    let F = factor_terms r.entries in
    let b = factors_low 64 r.entries h in
    keys_scale _ r.weight (rekeyed (λ i. 64 * i) F ⊗ F)
    (keys-⊗ _ (rekeyed (λ i. 64 * i) F) F (keys_rekeyed _ (λ i. 64 * i) F (keys_map _ _ (λ i l. keys_map _ _ (λ i' l'. omega arith) F b) F b)))

gram_keys : (rs : List Row) → All (λ (r : Row). All (λ (e : Entry). e.index < 64) r.entries) rs → Keys (λ n. n < 4096) (gram rs)
unfolding gram All
gram_keys [] h = tt
gram_keys (r ∷ rs) h = keys_append _ (outer r) (gram rs) (outer_keys r h.0) (gram_keys rs h.1)

-- ---- a table as a polynomial: each place has its own number as coefficient
module _ (f : ℕ → ℤ) where
  listed_keys : (n : ℕ) → Keys (λ i. i < n) (listed n (λ i. term i (f i)))
  unfolding listed
  listed_keys zero = tt
  listed_keys (suc n) = keys_append _ (listed n (λ i. term i (f i))) (term n (f n) ∷ []) (keys_map _ _ (λ i l. omega arith) (listed n (λ i. term i (f i))) (listed_keys n)) (omega arith, tt)

  one_coefficient : (n : ℕ) → coefficient n (term n (f n) ∷ []) ≡ f n
  unfolding coefficient one
  one_coefficient n = rw (eq-eqb n n refl, +ℤ_idr (f n *ℤ pos 1)) (*ℤ-one (f n))

  listed_coefficient : (n i : ℕ) → i < n → coefficient i (listed n (λ i. term i (f i))) ≡ f i
  unfolding listed
  listed_coefficient zero i l = absurd (omega arith)
  listed_coefficient (suc n) i l =
      coefficient_append i (listed n (λ i. term i (f i))) (term n (f n) ∷ []) ∙
      ⊎_elim
      (λ e. rw (e, coefficient_none (λ i. i < n) n (listed n (λ i. term i (f i))) (listed_keys n) (λ b. omega arith), one_coefficient n) (+ℤ_idl (f n)))
      (λ b. rw (listed_coefficient n i b, coefficient_none (λ k. k ≡ n) i (term n (f n) ∷ []) (refl, tt) (λ e. omega arith)) (+ℤ_idr (f i)))
      (eq-or-lt_of_le {n = i} {m = n} (omega arith))

module _ (p : Problem) (j : ℕ) where
  -- what the terms of g_j give a monomial s, and so a place of the table
  abbrev pub under : (ℕ → ℤ) → ℕ → ℤ
  under m s = sum (λ t. m (s + t)) (multiplier p j)

  abbrev pub at : (ℕ → ℤ) → ℕ → ℤ
  at m n = under m (pair_key (basis_of p j) n)

  pub place_key : (i i' : ℕ) → i' < 64 → pair_key (basis_of p j) (64 * i + i') ≡ get_or (basis_of p j) i 0 + get_or (basis_of p j) i' 0
  place_key i i' h =
      let q : (64 * i + i') / 64 ≡ i = omega arith in
      let r : (64 * i + i') % 64 ≡ i' = omega arith in
      rw (q, r)

  module _ (m : ℕ → ℤ) where
    -- a weighted square times g_j, as a sum over two entries
    square_sum : (w : ℤ) (es : List Entry)
        → let L = combination (basis_of p j) es in
        sum m (scale w (L ⊗ L ⊗ multiplier p j)) ≡ w *ℤ sum (λ i. sum (λ i'. under m (get_or (basis_of p j) i 0 + get_or (basis_of p j) i' 0)) (factor_terms es)) (factor_terms es)
    square_sum w es =
        let L = rekeyed (λ i. get_or (basis_of p j) i 0) (factor_terms es) in
        rw (combination_factors (basis_of p j) es, sum_scale m w (L ⊗ L ⊗ multiplier p j), sum-⊗ m (L ⊗ L) (multiplier p j), sum-⊗ (under m) L L) (simp sum_rekeyed)

    -- the row's products, each under what its place gives, are the same sum
    outer_sum : (r : Row) → All (λ (e : Entry). e.index < 64) r.entries
        → sum (at m) (outer r) ≡ r.weight *ℤ sum (λ i. sum (λ i'. under m (get_or (basis_of p j) i 0 + get_or (basis_of p j) i' 0)) (factor_terms r.entries)) (factor_terms r.entries)
    outer_sum r h =
        let F = factor_terms r.entries in
        let small = factors_low 64 r.entries h in
        sum_scale (at m) r.weight (rekeyed (λ i. 64 * i) F ⊗ F)
        ∙ ap (λ (z : ℤ). r.weight *ℤ z) (sum-⊗ (at m) (rekeyed (λ i. 64 * i) F) F ∙ sum_rekeyed _ (λ i. 64 * i) F
        ∙ sum_same (λ i. i < 64) _ _ (λ i _. sum_same (λ i. i < 64) _ _ (λ i' b. ap (under m) (place_key i i' b)) F small) F small)

    row_gram : (r : Row) → r.basis ≡ j → All (λ (e : Entry). e.index < 64) r.entries → sum m (square p r) ≡ sum (at m) (outer r)
    unfolding square
    row_gram r e h = rw e (square_sum r.weight r.entries ∙ sym (outer_sum r h))

    pub rows_gram : (rs : List Row) → All (λ (r : Row). r.basis ≡ j) rs → All (λ (r : Row). All (λ (e : Entry). e.index < 64) r.entries) rs → sum m (squares p rs) ≡ sum (at m) (gram rs)
    unfolding squares gram All
    rows_gram [] e h = refl
    rows_gram (r ∷ rs) e h = rw (sum_append m (square p r) (squares p rs), sum_append (at m) (outer r) (gram rs), row_gram r e.0 h.0, rows_gram rs e.1 h.1)

    expanded_sum : (M : List Term) → sum m (expanded p j M) ≡ sum (at m) M
    expanded_sum M = sum-⊗ m (rekeyed (pair_key (basis_of p j)) M) (multiplier p j) ∙ sum_rekeyed _ (pair_key (basis_of p j)) M

  -- ---- the law
  module _ (rs : List Row) (on : All (λ (r : Row). r.basis ≡ j) rs) (small : All (λ (r : Row). All (λ (e : Entry). e.index < 64) r.entries) rs) where
    -- a matrix M with the rows' products at each place gives the same polynomial as the rows
    pub gram_squares : (M : List Term) → ((n : ℕ) → coefficient n M ≡ coefficient n (gram rs)) → (k : ℕ) → coefficient k (squares p rs) ≡ coefficient k (expanded p j M)
    unfolding coefficient
    gram_squares M e k = rows_gram (match k) rs on small ∙ same_sums (gram rs) M (λ n. sym (e n)) (at (match k)) ∙ sym (expanded_sum (match k) M)

-- ---- what the two loops add up
-- a row adds w × l × l' at the place of each two entries
pub outer_coefficient : (n : ℕ) (r : Row) → coefficient n (outer r) ≡ r.weight *ℤ sum (λ i. sum (λ i'. match n (64 * i + i')) (factor_terms r.entries)) (factor_terms r.entries)
unfolding coefficient
outer_coefficient n r =
    let F = factor_terms r.entries in
    rw (sum_scale (match n) r.weight (rekeyed (λ i. 64 * i) F ⊗ F), sum-⊗ (match n) (rekeyed (λ i. 64 * i) F) F, sum_rekeyed (λ j. sum (λ k. match n (j + k)) F) (λ i. 64 * i) F)

-- one row more at the end
pub gram_more : (n : ℕ) (rs : List Row) (r : Row) → coefficient n (gram (rs ++ (r ∷ []))) ≡ coefficient n (gram rs) +ℤ coefficient n (outer r)
unfolding gram
gram_more n [] r = coefficient_append n (outer r) [] ∙ +ℤ_comm (coefficient n (outer r)) (coefficient n [])
gram_more n (x ∷ rs) r =
    rw (coefficient_append n (outer x) (gram (rs ++ (r ∷ []))), coefficient_append n (outer x) (gram rs), gram_more n rs r)
    (sym (+ℤ_assoc (coefficient n (outer x)) (coefficient n (gram rs)) (coefficient n (outer r))))

-- 64 × 64 numbers, each the rows' products at its place, have the same sums as the rows' products
pub gram_places : (rs : List Row) → All (λ (r : Row). All (λ (e : Entry). e.index < 64) r.entries) rs → (m : ℕ → ℤ) → sum m (gram rs) ≡ sum m (listed 4096 (λ n. term n (coefficient n (gram rs))))
gram_places rs small m = same_sums (gram rs) (listed 4096 (λ n. term n (f n))) (λ n. sym (go n (ltb n 4096) refl)) m
  where
    f : ℕ → ℤ
    f n = coefficient n (gram rs)

    go : (n : ℕ) (b : Bool) → ltb n 4096 ≡ b → coefficient n (listed 4096 (λ n. term n (f n))) ≡ f n
    go n true q = listed_coefficient f 4096 n (ltb-true n 4096 q)
    go n false q =
        let l = ltb-false n 4096 q in
        coefficient_none (λ n. n < 4096) n (listed 4096 (λ n. term n (f n))) (listed_keys f 4096) (λ b. omega arith)
        ∙ sym (coefficient_none (λ n. n < 4096) n (gram rs) (gram_keys rs small) (λ b. omega arith))

-- ---- the rows basis by basis
pub rows_on_lem : (j : ℕ) (rs : List Row) → All (λ (r : Row). r.basis ≡ j) (rows_on j rs)
unfolding rows_on All
rows_on_lem j [] = tt
rows_on_lem j (r ∷ rs) = go (eqb r.basis j) refl (rows_on_lem j rs)
  where
    go : (b : Bool) → eqb r.basis j ≡ b → All (λ (r : Row). r.basis ≡ j) (rows_on j rs) → All (λ (r : Row). r.basis ≡ j) (cond b (r ∷ rows_on j rs) (rows_on j rs))
    go true e h = (eqb-true r.basis j e, h)
    go false e h = h

pub rows_all : (A : Row → Type 0) (j : ℕ) (rs : List Row) → All A rs → All A (rows_on j rs)
unfolding rows_on All
rows_all A j [] h = tt
rows_all A j (r ∷ rs) h = go (eqb r.basis j) (rows_all A j rs h.1)
  where
    go : (b : Bool) → All A (rows_on j rs) → All A (cond b (r ∷ rows_on j rs) (rows_on j rs))
    go true k = (h.0, k)
    go false k = k

module _ (p : Problem) where
  module _ (m : ℕ → ℤ) (r : Row) (rs : List Row) where
    more_bases : (X : List Row) (n : ℕ) → sum m (by_basis p X (suc n)) ≡ sum m (by_basis p X n) +ℤ sum m (squares p (rows_on n X))
    unfolding by_basis
    more_bases X n = sum_append m (by_basis p X n) (squares p (rows_on n X))

    -- a row on a basis that is not reached
    before : (n : ℕ) → n ≤ r.basis → sum m (by_basis p (r ∷ rs) n) ≡ sum m (by_basis p rs n)
    unfolding rows_on
    before zero h = unfold by_basis in refl
    before (suc n) h =
        let e : rows_on n (r ∷ rs) ≡ rows_on n rs = rw (ne_eqb r.basis n (λ q. omega arith)) in
        rw (more_bases (r ∷ rs) n, more_bases rs n, e, before n (omega arith))

    reached : (n : ℕ) → r.basis < n → sum m (by_basis p (r ∷ rs) n) ≡ sum m (square p r) +ℤ sum m (by_basis p rs n)
    unfolding rows_on squares
    reached zero h = absurd (omega arith)
    reached (suc n) h =
        more_bases (r ∷ rs) n ∙
        ⊎_elim
        (λ q.
        let e : rows_on n (r ∷ rs) ≡ r ∷ rows_on n rs = rw (eq-eqb r.basis n q) in
        rw (e, before n (omega arith), more_bases rs n) (rw (sum_append m (square p r) (squares p (rows_on n rs))) (+ℤ_left_comm (sum m (by_basis p rs n)) (sum m (square p r)) (sum m (squares p (rows_on n rs))))))
        (λ l.
        let e : rows_on n (r ∷ rs) ≡ rows_on n rs = rw (ne_eqb r.basis n (λ q. omega arith)) in
        rw (e, reached n l, more_bases rs n) (+ℤ_assoc (sum m (square p r)) (sum m (by_basis p rs n)) (sum m (squares p (rows_on n rs)))))
        (eq-or-lt_of_le {n = r.basis} {m = n} (omega arith))

  no_rows : (m : ℕ → ℤ) (n : ℕ) → sum m (by_basis p [] n) ≡ pos 0
  unfolding by_basis rows_on squares
  no_rows m zero = refl
  no_rows m (suc n) = sum_append m (by_basis p [] n) [] ∙ ap (λ (z : ℤ). z +ℤ pos 0) (no_rows m n)

  bases_sum : (m : ℕ → ℤ) (n : ℕ) (rs : List Row) → All (λ (r : Row). r.basis < n) rs → sum m (squares p rs) ≡ sum m (by_basis p rs n)
  unfolding squares All
  bases_sum m n [] h = sym (no_rows m n)
  bases_sum m n (r ∷ rs) h = sum_append m (square p r) (squares p rs) ∙ ap (λ (z : ℤ). sum m (square p r) +ℤ z) (bases_sum m n rs h.1) ∙ sym (reached m r rs n h.0)

  -- T is the sum over the bases
  pub squares_bases : (rs : List Row) (n : ℕ) → All (λ (r : Row). r.basis < n) rs → (k : ℕ) → coefficient k (squares p rs) ≡ coefficient k (by_basis p rs n)
  unfolding coefficient
  squares_bases rs n h k = bases_sum (match k) n rs h
