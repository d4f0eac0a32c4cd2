-- The three parts together: what the tables of the parts give, times 1, 2^16 and 2^32, are the squares of the rows.
use Rattle.std.proofs.Common.{Option, None}
use mathlib.Core.Path.{◌≡◌, refl, sym, ap, ap₂, ◌∙◌}
use mathlib.Core.Bool.{Bool}
use mathlib.Core.List.{List, [], ◌∷◌}
use mathlib.Core.Logic.{⊎_elim}
use Prim.Native.Nat.{ℕ, zero, suc, ◌+◌, ◌*◌, ◌/◌, ◌%◌, ◌^◌, ◌<◌}
use native.Mathlib.Omega.{arith}
use lib.IntN.{ℤ, pos, ◌+ℤ◌, ◌*ℤ◌, *ℤ-zero, +ℤ_idr}
use Rattle.integers.proofs.Ring.{view, diffs, ⊖-eq, *ℤ-+ℤ, *ℤ_left_comm}
use Rattle.counting.specs.Counting.{listed}
use Rattle.counting.proofs.Listed.{listed_same, same_or_not}
use Rattle.polynomial.specs.Terms.{Term, term}
use Rattle.polynomial.specs.Algebra.{sum, match, coefficient}
use Rattle.polynomial.proofs.Keys.{Keys}
use Rattle.polynomial.proofs.Sums.{sum_append, coefficient_append}
use Rattle.format.specs.All.{All}
use Rattle.format.specs.ProblemRules.{Problem}
use Rattle.format.specs.ProblemBases.{basis_of, multiplier}
use Rattle.format.specs.CertificateRules.{Entry, Row}
use Rattle.format.proofs.All.{all_map}
use Rattle.certificate_rows.specs.Offsets.{rows_by}
use Rattle.format.proofs.ProblemLimits.{basis_few}
use Rattle.accepting.specs.Identity.{squares}
use Rattle.row_digits.specs.declared.Part.{Part}
use Rattle.row_digits.specs.declared.Part.TheVariants as P
use Rattle.row_outer.specs.Gram.{factor_terms, outer, gram, times_at, doubled, rows_on}
use Rattle.row_outer.specs.Frame.{share, spread_at}
use Rattle.row_outer.specs.Outer.{above, in_row, outer_at}
use Rattle.row_digits.specs.Digits.{NarrowRow, part_at, parts, part_spread}
use Rattle.row_products.specs.Gather.{RowsFor, Gathered}
use Rattle.row_outer.proofs.Gram.{sum_same, factors_low, outer_coefficient, rows_on_lem}
use Rattle.row_outer.proofs.Halves.{sum_alike, sum_times, gram_table}
use Rattle.row_outer.proofs.Outers.{match_other, above_other}
use Rattle.row_digits.proofs.Digits.{Upper, cross_upper, high_upper, outer_parts, upper_none}
use Rattle.row_products.proofs.Gathering.{on_low}

-- ---- the half that is kept
module _ (x : ℕ) where
  above_is : (i k : ℕ) → k < 64 → above x i k ≡ doubled x (match x (64 * i + k))
  above_is i k h =
      ⊎_elim
      (λ e.
      let q : x / 64 ≡ i = omega arith in
      let r : x % 64 ≡ k = omega arith in
      rw (q, r))
      (λ f. above_other x i k f ∙ sym (ap (doubled x) (match_other x (64 * i + k) f) ∙ *ℤ-zero (times_at x)))
      (same_or_not (64 * i + k) x)

  outer_doubled : (F : List Term) → Keys (λ i. i < 64) F → sum (in_row F x) F ≡ doubled x (sum (λ i. sum (λ i'. match x (64 * i + i')) F) F)
  outer_doubled F low =
      sum_alike _ _ (λ i. sum_same (λ i. i < 64) _ _ (λ k b. above_is i k b) F low ∙ sum_times (times_at x) (λ i'. match x (64 * i + i')) F) F
      ∙ sum_times (times_at x) (λ i. sum (λ i'. match x (64 * i + i')) F) F

  -- half of the products of a row, doubled
  outer_is : (r : Row) → All (λ (e : Entry). e.index < 64) r.entries
      → doubled x (coefficient x (outer r)) ≡ outer_at r.weight (factor_terms r.entries) (factor_terms r.entries) x
  unfolding outer_at
  outer_is r low =
      let F = factor_terms r.entries in
      ap (doubled x) (outer_coefficient x r)
      ∙ *ℤ_left_comm (times_at x) r.weight (sum (λ i. sum (λ i'. match x (64 * i + i')) F) F)
      ∙ ap (λ (z : ℤ). r.weight *ℤ z) (sym (outer_doubled F (factors_low 64 r.entries low)))

-- ---- three numbers, times 1, 2^16 and 2^32
abbrev pub together : ℤ → ℤ → ℤ → ℤ
together a b c = a +ℤ pos (2 ^ 16) *ℤ b +ℤ pos (2 ^ 32) *ℤ c

together_plus : (a b c a' b' c' : ℤ) → together a b c +ℤ together a' b' c' ≡ together (a +ℤ a') (b +ℤ b') (c +ℤ c')
together_plus a b c a' b' c' =
    rw ((view a).eq, (view b).eq, (view c).eq, (view a').eq, (view b').eq, (view c').eq) (simp diffs (⊖-eq _ _ _ _ (omega arith)))

together_times : (a b c m : ℤ) → together a b c *ℤ m ≡ together (a *ℤ m) (b *ℤ m) (c *ℤ m)
together_times a b c m = rw ((view a).eq, (view b).eq, (view c).eq, (view m).eq) (simp diffs (⊖-eq _ _ _ _ (omega arith)))

-- the products of rows at a place
gram_parts : (x : ℕ) (rs : List Row) → All (λ (r : Row). All (λ (e : Entry). e.index < 64) r.entries) rs
    → doubled x (coefficient x (gram rs)) ≡ together (parts P.Low rs x) (parts P.Cross rs x) (parts P.High rs x)
unfolding gram parts All
gram_parts x [] h = unfold coefficient in *ℤ-zero (times_at x)
gram_parts x (r ∷ rs) h =
    ap (doubled x) (coefficient_append x (outer r) (gram rs))
    ∙ *ℤ-+ℤ (times_at x) (coefficient x (outer r)) (coefficient x (gram rs))
    ∙ ap₂ ◌+ℤ◌ (outer_is x r h.0 ∙ outer_parts r.weight x (factor_terms r.entries)) (gram_parts x rs h.1)
    ∙ together_plus (part_at P.Low r x) (part_at P.Cross r x) (part_at P.High r x) (parts P.Low rs x) (parts P.Cross rs x) (parts P.High rs x)

-- ---- sums over a table
module _ (m : ℕ → ℤ) where
  abbrev over : ℕ → (ℕ → ℤ) → ℤ
  over n f = sum m (listed n (λ x. term x (f x)))

  over_more : (n : ℕ) (f : ℕ → ℤ) → over (suc n) f ≡ over n f +ℤ f n *ℤ m n
  unfolding listed
  over_more n f = sum_append m (listed n (λ x. term x (f x))) (term n (f n) ∷ []) ∙ ap (λ (z : ℤ). over n f +ℤ z) (+ℤ_idr (f n *ℤ m n))

  over_together : (n : ℕ) (f a b c : ℕ → ℤ) → ((x : ℕ) → f x ≡ together (a x) (b x) (c x)) → over n f ≡ together (over n a) (over n b) (over n c)
  over_together zero f a b c h = unfold listed in refl
  over_together (suc n) f a b c h =
      over_more n f
      ∙ ap₂ (λ (s z : ℤ). s +ℤ z *ℤ m n) (over_together n f a b c h) (h n)
      ∙ ap (λ (z : ℤ). together (over n a) (over n b) (over n c) +ℤ z) (together_times (a n) (b n) (c n) (m n))
      ∙ together_plus (over n a) (over n b) (over n c) (a n *ℤ m n) (b n *ℤ m n) (c n *ℤ m n)
      ∙ sym (rw (over_more n a, over_more n b, over_more n c) refl)

  over_none : (n : ℕ) (f : ℕ → ℤ) → ((x : ℕ) → f x ≡ pos 0) → over n f ≡ pos 0
  over_none zero f h = unfold listed in refl
  over_none (suc n) f h = over_more n f ∙ rw (over_none n f h, h n) (nothing (m n))
    where
      nothing : (z : ℤ) → pos 0 +ℤ pos 0 *ℤ z ≡ pos 0
      nothing z = rw (view z).eq (simp diffs (⊖-eq _ _ _ _ (omega arith)))

-- ---- (1) the table of a part, once gathered, gives that part
module _ {part : Part} {rs : List Row} {j : ℕ} {g₀ g : List ℤ} {found : Option Bool} (k : Gathered part rs j g₀ g found) (p : Problem) (m : ℕ) where
  pub gathered_spread : spread_at (basis_of p j) (multiplier p j) g m ≡ part_spread p j part (rows_on j rs) m
  unfolding spread_at part_spread
  gathered_spread = ap (sum (share (basis_of p j) (multiplier p j) m)) (listed_same 4096 _ _ (λ x b. ap (term x) (k.holds x)))

-- without a row, none
pub none_spread : {part : Part} {rs : List Row} {j : ℕ} {g₀ g : List ℤ} → Gathered part rs j g₀ g None → (p : Problem) (m : ℕ)
    → part_spread p j part (rows_on j rs) m ≡ pos 0
unfolding part_spread parts
none_spread {j = j} k p m = rw k.wide (over_none (share (basis_of p j) (multiplier p j) m) 4096 (λ _. pos 0) (λ x. refl))

-- ---- (2) the three parts are the squares of the rows, of whatever problem the basis and its multiplier are
pub squares_parts : {s starts : List ℕ} {rows j room : ℕ} → RowsFor s starts rows j room → (p : Problem) (m : ℕ)
    → let on = rows_on j (rows_by s starts rows) in
    coefficient m (squares p on) ≡ part_spread p j P.Low on m +ℤ pos (2 ^ 16) *ℤ part_spread p j P.Cross on m +ℤ pos (2 ^ 32) *ℤ part_spread p j P.High on m
unfolding part_spread
squares_parts {s} {starts} {rows} {j} w p m =
    let on = rows_on j (rows_by s starts rows) in
    let few = basis_few w.problem w.rows_sound.limits j in
    let low : All (λ (r : Row). All (λ (e : Entry). e.index < 64) r.entries) on =
    all_map _ _ (λ (r : Row) a. all_map _ _ (λ (e : Entry) b. omega (arith, few)) r.entries a) on (on_low w.rows_sound j) in
    gram_table p j on (rows_on_lem j (rows_by s starts rows)) low m
    ∙ over_together (share (basis_of p j) (multiplier p j) m) 4096 (λ x. doubled x (coefficient x (gram on))) (parts P.Low on) (parts P.Cross on) (parts P.High on)
    (λ x. gram_parts x on low)

-- ---- (3) without a wide factor the first part is all
narrow_none : {part : Part} → Upper part → (x : ℕ) (rs : List Row) → All NarrowRow rs → parts part rs x ≡ pos 0
unfolding parts All
narrow_none u x [] h = refl
narrow_none u x (r ∷ rs) h = rw (upper_none r.weight x (factor_terms r.entries) h.0 u, narrow_none u x rs h.1)

module _ (rs : List Row) (j : ℕ) (k : All NarrowRow (rows_on j rs)) (p : Problem) (m : ℕ) where
  pub narrow_spread : {upper : Part} → Upper upper → part_spread p j upper (rows_on j rs) m ≡ pos 0
  unfolding part_spread
  narrow_spread u = over_none (share (basis_of p j) (multiplier p j) m) 4096 _ (λ x. narrow_none u x (rows_on j rs) k)

  pub narrow_cross_spread : part_spread p j P.Cross (rows_on j rs) m ≡ pos 0
  narrow_cross_spread = narrow_spread cross_upper

  pub narrow_high_spread : part_spread p j P.High (rows_on j rs) m ≡ pos 0
  narrow_high_spread = narrow_spread high_upper
