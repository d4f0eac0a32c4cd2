-- The products of the digits of a row: what each place of the table gets, and how large it is at most.
use mathlib.Core.Path.{◌≡◌, refl, sym, ap, ◌∙◌, subst}
use mathlib.Core.Bool.{Bool, true, false, cond}
use mathlib.Core.List.{List}
use mathlib.Core.Logic.{⊎_elim}
use Prim.Native.Nat.{ℕ, zero, suc, ◌+◌, ◌-◌, ◌*◌, ◌/◌, ◌%◌, ◌≤◌, ◌<◌}
use native.Mathlib.Numerals.{add-one}
use native.Mathlib.Omega.{arith}
use borrow.Author.Tests.{eq-eqb, ne_eqb, le-leb, lt-leb}
use lib.Dec.{eqb, leb}
use lib.IntN.{ℤ, pos, one, nat_abs, ◌+ℤ◌, ◌*ℤ◌, +ℤ_assoc, +ℤ_idl, +ℤ_idr, *ℤ-zero, zero-*ℤ, *ℤ-one}
use lib.ListN.{length, get_or, set, length-set}
use lib.Seq.{get_or-set_same, get_or-set_other}
use Rattle.integers.proofs.Ranges.{abs_sum, abs_mul_le}
use Rattle.integers.proofs.Ring.{view, diffs, ⊖-eq}
use Rattle.counting.proofs.Listed.{same_or_not}
use Rattle.polynomial.specs.Terms.{Term}
use Rattle.flat.specs.TermArrays.{terms_in}
use Rattle.polynomial.specs.Algebra.{sum, match}
use Rattle.row_outer.specs.Gram.{times}
use Rattle.row_outer.specs.Frame.{Below}
use Rattle.row_outer.specs.Outer.{weight_most, digit_most, outer_unit, Entries, Raised, above, in_row, outer_at}
use Rattle.row_outer.proofs.Prefixes.{at, sum_none, sum_more, times_more}

pub match_other : (x y : ℕ) → (y ≡ x → ⊥) → match x y ≡ pos 0
match_other x y f = rw (ne_eqb y x f)

match_small : (x y : ℕ) → nat_abs (match x y) ≤ 1
match_small x y = go (eqb y x)
  where
    go : (b : Bool) → nat_abs (cond b (pos 1) (pos 0)) ≤ 1
    go true = omega arith
    go false = omega arith

-- ---- how often a product counts
module _ (i k : ℕ) where
  lower_never : k < i → times i k ≡ pos 0
  lower_never h = rw (lt-leb i k h)

  upper_twice : i < k → times i k ≡ pos 2
  upper_twice h = rw (le-leb i k (omega arith), ne_eqb i k (λ e. omega arith))

  times_small : nat_abs (times i k) ≤ 2
  times_small = go (leb i k) (eqb i k)
    where
      go : (a b : Bool) → nat_abs (cond a (cond b (pos 1) (pos 2)) (pos 0)) ≤ 2
      go true true = omega arith
      go true false = omega arith
      go false b = omega arith

diagonal_once : (i : ℕ) → times i i ≡ pos 1
diagonal_once i = rw (le-leb i i (omega arith), eq-eqb i i refl)

module _ (x i k : ℕ) where
  pub above_other : (64 * i + k ≡ x → ⊥) → above x i k ≡ pos 0
  above_other f = ap (λ (z : ℤ). times i k *ℤ z) (match_other x (64 * i + k) f) ∙ *ℤ-zero (times i k)

  above_small : nat_abs (above x i k) ≤ 2
  above_small = abs_mul_le (times i k) (match x (64 * i + k)) 2 1 (times_small i k) (match_small x (64 * i + k))

  above_lower : k < i → above x i k ≡ pos 0
  above_lower h = ap (λ (z : ℤ). z *ℤ match x (64 * i + k)) (lower_never i k h) ∙ zero-*ℤ (match x (64 * i + k))

  -- below the diagonal
  pub above_never : k < 64 → x % 64 < x / 64 → above x i k ≡ pos 0
  above_never b l = ⊎_elim (λ e. above_lower (omega arith)) above_other (same_or_not (64 * i + k) x)

-- ---- a sum in which at most one term counts is no larger than that term
module _ (m : ℕ → ℤ) (E : List ℕ) (C : List ℤ) where
  sum_next : (n : ℕ) → sum m (terms_in (suc n) E C) ≡ sum m (terms_in n E C) +ℤ get_or C n (pos 0) *ℤ m (get_or E n 0)
  unfolding terms_in
  sum_next n = rw (← add-one n) (sym (sum_more m (at E C) n))

  sum_zero : (n : ℕ) → ((i : ℕ) → i < n → m (get_or E i 0) ≡ pos 0) → sum m (terms_in n E C) ≡ pos 0
  sum_zero zero h = unfold terms_in in sum_none m (at E C)
  sum_zero (suc n) h =
      sum_next n
      ∙ ap (λ (z : ℤ). z +ℤ get_or C n (pos 0) *ℤ m (get_or E n 0)) (sum_zero n (λ i b. h i (omega arith)))
      ∙ ap (λ (z : ℤ). pos 0 +ℤ get_or C n (pos 0) *ℤ z) (h n (omega arith))
      ∙ ap (λ (z : ℤ). pos 0 +ℤ z) (*ℤ-zero (get_or C n (pos 0)))

  single : (y M L : ℕ) → ((k : ℕ) → (k ≡ y → ⊥) → m k ≡ pos 0) → ((k : ℕ) → nat_abs (m k) ≤ M)
      → (n : ℕ) → ((i k : ℕ) → i < k → k < n → get_or E i 0 < get_or E k 0) → ((k : ℕ) → k < n → nat_abs (get_or C k (pos 0)) ≤ L) → nat_abs (sum m (terms_in n E C)) ≤ L * M
  single y M L only most zero rising small = let e = ap nat_abs (sum_zero 0 (λ i b. absurd (omega arith))) in omega arith
  single y M L only most (suc n) rising small =
      ⊎_elim
      (λ e.
      let z : sum m (terms_in n E C) ≡ pos 0 = sum_zero n (λ i b. only (get_or E i 0) (λ q. let r = rising i n b (omega arith) in omega arith)) in
      let w : nat_abs (sum m (terms_in (suc n) E C)) ≡ nat_abs (get_or C n (pos 0) *ℤ m (get_or E n 0)) = ap nat_abs (sum_next n ∙ ap (λ (v : ℤ). v +ℤ get_or C n (pos 0) *ℤ m (get_or E n 0)) z ∙ +ℤ_idl (get_or C n (pos 0) *ℤ m (get_or E n 0))) in
      omega (arith, abs_mul_le (get_or C n (pos 0)) (m (get_or E n 0)) L M (small n (omega arith)) (most (get_or E n 0))))
      (λ d.
      let w : nat_abs (sum m (terms_in (suc n) E C)) ≡ nat_abs (sum m (terms_in n E C)) = ap nat_abs (sum_next n ∙ ap (λ (v : ℤ). sum m (terms_in n E C) +ℤ get_or C n (pos 0) *ℤ v) (only (get_or E n 0) d) ∙ ap (λ (v : ℤ). sum m (terms_in n E C) +ℤ v) (*ℤ-zero (get_or C n (pos 0))) ∙ +ℤ_idr (sum m (terms_in n E C))) in
      omega (arith, single y M L only most n (λ i k a b. rising i k a (omega arith)) (λ k b. small k (omega arith))))
      (same_or_not (get_or E n 0) y)

-- ---- the entries of a row, with one digit of each
module _ (E : List ℕ) (C : List ℤ) (count room : ℕ) (e : Entries digit_most E C count room) where
  -- one entry with the first n
  inner_small : (x i n : ℕ) → n ≤ count → nat_abs (in_row (terms_in n E C) x i) ≤ digit_most * 2
  inner_small x i n h =
      single (above x i) E C (x - 64 * i) 2 digit_most (λ k f. above_other x i k (λ q. f (omega arith))) (above_small x i) n
      (λ i k a b. e.rising i k a (omega arith)) (λ k b. e.factors_small k (omega arith))

  other_row : (x i : ℕ) → (i ≡ x / 64 → ⊥) → in_row (terms_in count E C) x i ≡ pos 0
  other_row x i f = sum_zero (above x i) E C count (λ k b. above_other x i (get_or E k 0) (λ q. f (let l = e.inside k b in omega arith)))

  -- the entries before one have lower indices
  pub before_none : (first : ℕ) → first < count → (x : ℕ) → in_row (terms_in first E C) x (get_or E first 0) ≡ pos 0
  before_none first h x = sum_zero (above x (get_or E first 0)) E C first (λ k b. above_lower x (get_or E first 0) (get_or E k 0) (e.rising k first b h))

  pub inner_bound : (a : ℤ) → nat_abs a ≤ weight_most * digit_most → (x i n : ℕ) → n ≤ count → nat_abs (a *ℤ in_row (terms_in n E C) x i) ≤ outer_unit
  inner_bound a h x i n l = abs_mul_le a (in_row (terms_in n E C) x i) (weight_most * digit_most) (digit_most * 2) h (inner_small x i n l)

-- and with two, one on the left and one on the right
module _ {E : List ℕ} {C C' : List ℤ} {count room : ℕ} (e : Entries digit_most E C count room) (e' : Entries digit_most E C' count room) where
  abbrev F' : List Term
  F' = terms_in count E C'

  -- the first n entries on the left with all on the right
  outer_small : (x n : ℕ) → n ≤ count → nat_abs (sum (in_row F' x) (terms_in n E C)) ≤ digit_most * (digit_most * 2)
  outer_small x n h =
      single (in_row F' x) E C (x / 64) (digit_most * 2) digit_most (other_row E C' count room e' x) (λ i. inner_small E C' count room e' x i count (omega arith)) n
      (λ i k a b. e.rising i k a (omega arith)) (λ k b. e.factors_small k (omega arith))

  module _ (w : ℤ) (h : nat_abs w ≤ weight_most) where
    pub outer_bound : (x n : ℕ) → n ≤ count → nat_abs (w *ℤ sum (in_row F' x) (terms_in n E C)) ≤ outer_unit
    outer_bound x n l = abs_mul_le w (sum (in_row F' x) (terms_in n E C)) weight_most (digit_most * (digit_most * 2)) h (outer_small x n l)

    pub outer_at_bound : (x : ℕ) → nat_abs (outer_at w (terms_in count E C) F' x) ≤ outer_unit
    unfolding outer_at
    outer_at_bound x = outer_bound x count (omega arith)

-- ---- what is added to the table
pub raised_same : {g₀ g₁ : List ℤ} {f h : ℕ → ℤ} → Raised g₀ f g₁ → ((y : ℕ) → f y ≡ h y) → Raised g₀ h g₁
raised_same {g₀} r e = record { long = r.long; there = λ y. r.there y ∙ ap (λ (z : ℤ). get_or g₀ y (pos 0) +ℤ z) (e y) }

pub raised_none : {g : List ℤ} {f : ℕ → ℤ} → ((y : ℕ) → f y ≡ pos 0) → Raised g f g
raised_none {g} e = record { long = refl; there = λ y. sym (ap (λ (z : ℤ). get_or g y (pos 0) +ℤ z) (e y) ∙ +ℤ_idr (get_or g y (pos 0))) }

pub raised_then : {g₀ g₁ g₂ : List ℤ} {f h : ℕ → ℤ} → Raised g₀ f g₁ → Raised g₁ h g₂ → Raised g₀ (λ y. f y +ℤ h y) g₂
raised_then {g₀} {f = f} {h = h} r k =
    record { long = k.long ∙ r.long; there = λ y. k.there y ∙ ap (λ (z : ℤ). z +ℤ h y) (r.there y) ∙ +ℤ_assoc (get_or g₀ y (pos 0)) (f y) (h y) }

pub raised_below : {g₀ g₁ : List ℤ} {f : ℕ → ℤ} (c d : ℕ) → Raised g₀ f g₁ → Below c g₀ → ((y : ℕ) → nat_abs (f y) ≤ d) → Below (c + d) g₁
raised_below {g₀} {f = f} c d r b h y = let e = ap nat_abs (r.there y) in omega (arith, abs_sum (get_or g₀ y (pos 0)) (f y), b y, h y)

-- ---- the turns of the loops: x times the sum over the first t entries
pub record Raising (g₀ : List ℤ) (m : ℕ → ℕ → ℤ) (x : ℤ) (E : List ℕ) (C : List ℤ) (t : ℕ) (g₁ : List ℤ) : Type 0 where
  pub raised : Raised g₀ (λ y. x *ℤ sum (m y) (terms_in t E C)) g₁

module _ {g₀ : List ℤ} {m : ℕ → ℕ → ℤ} {x : ℤ} {E : List ℕ} {C : List ℤ} where
  pub raising_from : {t : ℕ} → ((y : ℕ) → sum (m y) (terms_in t E C) ≡ pos 0) → Raising g₀ m x E C t g₀
  raising_from {t} e =
      record { raised = record { long = refl; there = λ y. sym (ap (λ (z : ℤ). get_or g₀ y (pos 0) +ℤ x *ℤ z) (e y) ∙ ap (λ (z : ℤ). get_or g₀ y (pos 0) +ℤ z) (*ℤ-zero x) ∙ +ℤ_idr (get_or g₀ y (pos 0))) } }

  pub raising_start : Raising g₀ m x E C 0 g₀
  unfolding terms_in
  raising_start = raising_from (λ y. sum_none (m y) (at E C))

  pub raising_more : {g₁ g₂ : List ℤ} {t : ℕ} → Raising g₀ m x E C t g₁ → Raised g₁ (λ y. x *ℤ get_or C t (pos 0) *ℤ m y (get_or E t 0)) g₂ → Raising g₀ m x E C (t + 1) g₂
  unfolding terms_in
  raising_more {g₁} {g₂} {t} h k =
      record {
        raised = record {
          long = k.long ∙ h.raised.long;
          there = λ y.
              k.there y
              ∙ ap (λ (z : ℤ). z +ℤ x *ℤ get_or C t (pos 0) *ℤ m y (get_or E t 0)) (h.raised.there y)
              ∙ +ℤ_assoc (get_or g₀ y (pos 0)) (x *ℤ sum (m y) (terms_in t E C)) (x *ℤ get_or C t (pos 0) *ℤ m y (get_or E t 0))
              ∙ ap (λ (z : ℤ). get_or g₀ y (pos 0) +ℤ z) (times_more (m y) (at E C) x t);
        };
      }

  pub raising_below : {g₁ : List ℤ} {t : ℕ} (c d : ℕ) → Raising g₀ m x E C t g₁ → Below c g₀ → ((y : ℕ) → nat_abs (x *ℤ sum (m y) (terms_in t E C)) ≤ d) → Below (c + d) g₁
  raising_below c d h b f = raised_below c d h.raised b f

  -- the last turn
  pub raising_end : {g₁ : List ℤ} {t n : ℕ} → Raising g₀ m x E C t g₁ → t ≡ n → Raised g₀ (λ y. x *ℤ sum (m y) (terms_in n E C)) g₁
  raising_end {g₁} h e = subst (λ (n : ℕ). Raised g₀ (λ y. x *ℤ sum (m y) (terms_in n E C)) g₁) e h.raised

-- one number added at a place
pub raised_set : (g : List ℤ) (y : ℕ) (v : ℤ) → y < length g → Raised g (λ z. v *ℤ match z y) (set g y (get_or g y (pos 0) +ℤ v))
unfolding one
raised_set g y v b =
    record {
      long = length-set g y _;
      there = λ z.
          ⊎_elim
          (λ e. subst (λ (w : ℕ). get_or (set g y (get_or g y (pos 0) +ℤ v)) w (pos 0) ≡ get_or g w (pos 0) +ℤ v *ℤ match w y) (sym e) here)
          (λ d.
          get_or-set_other g y z (get_or g y (pos 0) +ℤ v) (pos 0) d
          ∙ sym (ap (λ (u : ℤ). get_or g z (pos 0) +ℤ v *ℤ u) (match_other z y (λ q. d (sym q))) ∙ ap (λ (u : ℤ). get_or g z (pos 0) +ℤ u) (*ℤ-zero v) ∙ +ℤ_idr _))
          (same_or_not z y);
    }
  where
    here : get_or (set g y (get_or g y (pos 0) +ℤ v)) y (pos 0) ≡ get_or g y (pos 0) +ℤ v *ℤ match y y
    here = rw (eq-eqb y y refl) (get_or-set_same g y (get_or g y (pos 0) +ℤ v) (pos 0) b ∙ ap (λ (u : ℤ). get_or g y (pos 0) +ℤ u) (sym (*ℤ-one v)))

-- the product of an entry with itself, and with a later one
module _ (a f : ℤ) (i : ℕ) {g₀ g₁ : List ℤ} where
  pub added_once : Raised g₀ (λ z. a *ℤ f *ℤ match z (65 * i)) g₁ → Raised g₀ (λ z. a *ℤ f *ℤ above z i i) g₁
  added_once r =
      let e : 65 * i ≡ 64 * i + i = omega arith in
      raised_same r (λ z. rw (e, diagonal_once i) (ap (λ (v : ℤ). a *ℤ f *ℤ v) (once (match z (64 * i + i)))))
    where
      once : (z : ℤ) → z ≡ pos 1 *ℤ z
      once z = rw (view z).eq (simp diffs (⊖-eq _ _ _ _ (omega arith)))

  pub added_twice : (k : ℕ) → i < k → Raised g₀ (λ z. pos 2 *ℤ a *ℤ f *ℤ match z (64 * i + k)) g₁ → Raised g₀ (λ z. a *ℤ f *ℤ above z i k) g₁
  added_twice k h r = raised_same r (λ z. rw (upper_twice i k h) (twice a f (match z (64 * i + k))))
    where
      twice : (a f m : ℤ) → pos 2 *ℤ a *ℤ f *ℤ m ≡ a *ℤ f *ℤ (pos 2 *ℤ m)
      twice a f m = rw ((view a).eq, (view f).eq, (view m).eq) (simp diffs (⊖-eq _ _ _ _ (omega arith)))
