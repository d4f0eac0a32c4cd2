-- What the refusals of the changes say: none exactly where they fit, and the first that does not fit by its index.
use mathlib.Core.Path.{◌≡◌, refl, ap, ◌∙◌}
use mathlib.Core.Bool.{Bool, true, false, cond}
use mathlib.Core.List.{List, [], ◌∷◌}
use mathlib.Core.Option.{Option, none, some}
use Prim.Native.Nat.{ℕ, zero, suc, ◌+◌, ◌%◌, ◌≤◌, ◌<◌}
use native.Mathlib.Omega.{arith}
use lib.Dec.{ltb}
use lib.ListN.{length, get_or}
use borrow.Author.Tests.{ltb-false, lt-ltb, le-ltb}
use Rattle.counting.proofs.Cases.{clash}
use Rattle.counting.proofs.Listed.{listed_length, listed_at}
use Rattle.polynomial.specs.Terms.{Term}
use Rattle.calls.specs.declared.Refusal.{Refusal}
use Rattle.calls.specs.Refusals.{no_refusal}
use Rattle.calls.specs.Adjusted.{change_size, change_at, change_count, changes_of, most_changes, change_refusal}
use Rattle.calls.specs.Adjusted.{change_fits, first_unfit, unfit_refusal, changes_refusal, ChangesFit, FirstUnfit}
use Rattle.calls.specs.Zeros.{RefusalZeros}
use Rattle.calls.proofs.Zeros.{none_zeros, certificate_zeros}

-- ---- the first that does not fit
module _ (n : ℕ) (d : Term) where
  none_unfit : (l : List Term) (from : ℕ) → first_unfit n from l ≡ none
      → (i : ℕ) → i < length l → change_fits n (get_or l i d) ≡ true
  unfolding first_unfit
  none_unfit [] from e i h = absurd (omega arith)
  none_unfit (t ∷ l) from e i h = go (change_fits n t) refl (first_unfit n (from + 1) l) e (none_unfit l (from + 1)) i h
    where
      go : (b : Bool) → change_fits n t ≡ b → (o : Option ℕ) → cond b o (some from) ≡ none
          → (o ≡ none → (i : ℕ) → i < length l → change_fits n (get_or l i d) ≡ true)
          → (i : ℕ) → i < suc (length l) → change_fits n (get_or (t ∷ l) i d) ≡ true
      go true f o e more zero h = f
      go true f o e more (suc i) h = more e i (omega arith)
      go false f o e more i h = clash (cc)

  all_fit : (l : List Term) (from : ℕ) → ((i : ℕ) → i < length l → change_fits n (get_or l i d) ≡ true)
      → first_unfit n from l ≡ none
  unfolding first_unfit
  all_fit [] from h = refl
  all_fit (t ∷ l) from h = rw (h 0 (omega arith)) (all_fit l (from + 1) (λ i b. h (suc i) (omega arith)))

  unfit_at : (l : List Term) (from i : ℕ) → i < length l → change_fits n (get_or l i d) ≡ false
      → ((j : ℕ) → j < i → change_fits n (get_or l j d) ≡ true) → first_unfit n from l ≡ some (from + i)
  unfolding first_unfit
  unfit_at [] from i h u b = absurd (omega arith)
  unfit_at (t ∷ l) from zero h u b = rw u (ap some (let e : from ≡ from + 0 = omega arith in e))
  unfit_at (t ∷ l) from (suc i) h u b =
      rw (b 0 (omega arith)) (unfit_at l (from + 1) i (omega arith) u (λ j k. b (suc j) (omega arith))
      ∙ ap some (let e : from + 1 + i ≡ from + suc i = omega arith in e))

module _ (n : ℕ) (s : List ℕ) where
  abbrev first : Option ℕ
  first = first_unfit n 0 (changes_of s)

  abbrev no_term : Term
  no_term = change_at s 0

  change_is : (i : ℕ) → i < change_count s → get_or (changes_of s) i no_term ≡ change_at s i
  unfolding changes_of
  change_is i h = listed_at (change_count s) (change_at s) i no_term h

  changes_length : length (changes_of s) ≡ change_count s
  unfolding changes_of
  changes_length = listed_length (change_count s) (change_at s)

  -- ---- none is refused exactly where they fit
  by_first : (o : Option ℕ) → first ≡ o → length s % change_size ≡ 0 → change_count s ≤ most_changes
      → (unfit_refusal o).number ≡ 0 → ChangesFit n s
  by_first none e whole few h = record {
    whole = whole;
    few = few;
    fit = λ i b. rw (change_is i b) at (none_unfit n no_term (changes_of s) 0 e i (omega (arith, changes_length)));
  }
  by_first (some i) e whole few h = absurd (omega arith)

  pub unrefused_fit : (changes_refusal n s).number ≡ 0 → ChangesFit n s
  unfolding changes_refusal
  unrefused_fit = go (ltb 0 (length s % change_size)) (ltb most_changes (change_count s)) refl refl
    where
      go : (b d : Bool) → ltb 0 (length s % change_size) ≡ b → ltb most_changes (change_count s) ≡ d
          → (cond b (change_refusal 2 (change_count s)) (cond d (change_refusal 6 most_changes) (unfit_refusal first))).number ≡ 0
          → ChangesFit n s
      go true d e f h = absurd (omega arith)
      go false true e f h = absurd (omega arith)
      go false false e f h =
          let w = ltb-false 0 (length s % change_size) e in
          by_first first refl (omega arith) (ltb-false most_changes (change_count s) f) h

  -- ---- each refusal
  pub changes_number : (changes_refusal n s).number ≤ 6
  unfolding changes_refusal
  changes_number = go (ltb 0 (length s % change_size)) (ltb most_changes (change_count s)) first
    where
      go : (b d : Bool) (o : Option ℕ)
          → (cond b (change_refusal 2 (change_count s)) (cond d (change_refusal 6 most_changes) (unfit_refusal o))).number ≤ 6
      go true d o = omega arith
      go false true o = omega arith
      go false false none = omega arith
      go false false (some i) = omega arith

  pub changes_zeros : RefusalZeros (changes_refusal n s)
  unfolding changes_refusal
  changes_zeros = go (ltb 0 (length s % change_size)) (ltb most_changes (change_count s)) first
    where
      go : (b d : Bool) (o : Option ℕ)
          → RefusalZeros (cond b (change_refusal 2 (change_count s)) (cond d (change_refusal 6 most_changes) (unfit_refusal o)))
      go true d o = certificate_zeros 2 2 (change_count s) 0 (omega arith) (λ _. refl)
      go false true o = certificate_zeros 2 6 most_changes 0 (omega arith) (λ _. refl)
      go false false none = none_zeros
      go false false (some i) = certificate_zeros 2 4 i 0 (omega arith) (λ _. refl)

  pub cut_refused : 0 < length s % change_size → changes_refusal n s ≡ change_refusal 2 (change_count s)
  unfolding changes_refusal
  cut_refused h = rw (lt-ltb 0 (length s % change_size) h)

  module _ (w : length s % change_size ≡ 0) where
    whole_is : ltb 0 (length s % change_size) ≡ false
    whole_is = le-ltb 0 (length s % change_size) (omega arith)

    pub many_refused : most_changes < change_count s → changes_refusal n s ≡ change_refusal 6 most_changes
    unfolding changes_refusal
    many_refused h = rw (whole_is, lt-ltb most_changes (change_count s) h)

    module _ (h : change_count s ≤ most_changes) where
      by_unfit : (o : Option ℕ) → first ≡ o → changes_refusal n s ≡ unfit_refusal o
      unfolding changes_refusal
      by_unfit o e = rw (whole_is, le-ltb most_changes (change_count s) h, e)

      pub unfit_refused : (i : ℕ) → FirstUnfit n s i → changes_refusal n s ≡ change_refusal 4 i
      unfit_refused i u =
          let b = u.within in
          let z : 0 + i ≡ i = omega arith in
          by_unfit (some i) (unfit_at n no_term (changes_of s) 0 i (omega (arith, changes_length))
          (rw (change_is i b) u.unfit) (λ j k. rw (change_is j (omega arith)) (u.before j k)) ∙ ap some z)

  pub fit_unrefused : ChangesFit n s → changes_refusal n s ≡ no_refusal
  fit_unrefused h =
      by_unfit h.whole h.few none (all_fit n no_term (changes_of s) 0
      (λ i b. let l : i < change_count s = omega (arith, changes_length) in rw (change_is i l) (h.fit i l)))
