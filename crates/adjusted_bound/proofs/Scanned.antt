-- The changes as far as they are scanned, from an index on.
use native.Mathlib.Omega.{arith}
use native.Mathlib.Numerals.{add-one}
use mathlib.Core.Path.{◌≡◌, sym, ap, ap₂, ◌∙◌}
use mathlib.Core.Bool.{true, false}
use mathlib.Core.List.{List, [], ◌∷◌}
use mathlib.Core.Option.{none, some}
use Prim.Native.Nat.{ℕ, ◌+◌, ◌*◌, ◌^◌, ◌<◌, ◌≤◌}
use lib.IntN.{nat_abs}
use lib.ListN.{length, drop, drop_of_length-le}
use lib.Seq.{drop-cons}
use Rattle.counting.proofs.Listed.{listed_length, listed_at}
use Rattle.polynomial.specs.Terms.{Term}
use Rattle.calls.specs.Adjusted.{change_at, change_count, changes_of, change_fits, first_unfit, absolute_sum}

module _ (s : List ℕ) where
  changes_length : length (changes_of s) ≡ change_count s
  unfolding changes_of
  changes_length = listed_length (change_count s) (change_at s)

  change_first : (i : ℕ) → i < change_count s → drop i (changes_of s) ≡ change_at s i ∷ drop (i + 1) (changes_of s)
  unfolding changes_of
  change_first i h =
      drop-cons (changes_of s) i (change_at s 0) (omega (arith, changes_length))
      ∙ ap₂ (λ (t : Term) (l : List Term). t ∷ l) (listed_at (change_count s) (change_at s) i (change_at s 0) h)
      (ap (λ (m : ℕ). drop m (changes_of s)) (sym (add-one i)))

  changes_done : (i : ℕ) → change_count s ≤ i → drop i (changes_of s) ≡ []
  changes_done i h =
      let l : length (changes_of s) ≤ i = omega (arith, changes_length) in
      drop_of_length-le (changes_of s) l

  -- ---- the first that does not fit, from change i on
  module _ (n : ℕ) where
    abbrev pub Unfit : ℕ → Type 0
    Unfit i = first_unfit n i (drop i (changes_of s)) ≡ first_unfit n 0 (changes_of s)

    module _ (i : ℕ) (h : i < change_count s) (k : Unfit i) where
      pub unfit_here : change_fits n (change_at s i) ≡ false → first_unfit n 0 (changes_of s) ≡ some i
      unfolding first_unfit
      unfit_here e = sym k ∙ ap (first_unfit n i) (change_first i h) ∙ rw e

      pub fit_here : change_fits n (change_at s i) ≡ true → Unfit (i + 1)
      unfolding first_unfit
      fit_here e = sym (ap (first_unfit n i) (change_first i h) ∙ rw e) ∙ k

    pub unfit_none : (i : ℕ) → change_count s ≤ i → Unfit i → first_unfit n 0 (changes_of s) ≡ none
    unfolding first_unfit
    unfit_none i h k = sym k ∙ ap (first_unfit n i) (changes_done i h)

  -- ---- the sum of the absolute values of those before change i
  pub record Summed (i sum : ℕ) : Type 0 where
    pub rest : sum + absolute_sum (drop i (changes_of s)) ≡ absolute_sum (changes_of s)
    pub small : sum ≤ i * 2 ^ 31

  pub summed_more : (i sum d : ℕ) → i < change_count s → Summed i sum → d ≡ nat_abs (change_at s i).coefficient
      → d ≤ 2 ^ 31 → Summed (i + 1) (sum + d)
  unfolding absolute_sum
  summed_more i sum d h k e l =
      let f = ap absolute_sum (change_first i h) in
      record { rest = omega (arith, k.rest, f); small = omega (arith, k.small) }

  pub summed_all : (i sum : ℕ) → change_count s ≤ i → Summed i sum → sum ≡ absolute_sum (changes_of s)
  unfolding absolute_sum
  summed_all i sum h k = omega (arith, k.rest, ap absolute_sum (changes_done i h))
