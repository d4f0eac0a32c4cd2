-- Sums over a list of terms that grows at its end, as the loops add them up.
use mathlib.Core.Path.{◌≡◌, refl, ap}
use mathlib.Core.List.{List, [], ◌∷◌}
use Prim.Native.Nat.{ℕ, ◌+◌}
use native.Mathlib.Numerals.{add-one}
use lib.IntN.{ℤ, pos, ◌+ℤ◌, ◌*ℤ◌, *ℤ-zero, +ℤ_idr}
use lib.ListN.{get_or}
use Rattle.integers.proofs.Ring.{*ℤ_assoc, *ℤ-+ℤ}
use Rattle.counting.specs.Counting.{listed}
use Rattle.polynomial.specs.Terms.{Term, term}
use Rattle.polynomial.specs.Algebra.{sum}
use Rattle.polynomial.proofs.Sums.{sum_append}

module _ (m : ℕ → ℤ) (f : ℕ → Term) where
  pub sum_none : sum m (listed 0 f) ≡ pos 0
  unfolding listed
  sum_none = refl

  pub sum_more : (n : ℕ) → sum m (listed n f) +ℤ (f n).coefficient *ℤ m (f n).key ≡ sum m (listed (n + 1) f)
  unfolding listed
  sum_more n = rw (add-one n, listed, sum_append m (listed n f) (f n ∷ []), +ℤ_idr)

  -- the same, x times
  pub times_none : (x : ℤ) → x *ℤ sum m (listed 0 f) ≡ pos 0
  times_none x = rw sum_none (*ℤ-zero x)

  pub times_more : (x : ℤ) (n : ℕ) → x *ℤ sum m (listed n f) +ℤ x *ℤ (f n).coefficient *ℤ m (f n).key ≡ x *ℤ sum m (listed (n + 1) f)
  times_more x n =
      rw (*ℤ_assoc x (f n).coefficient (m (f n).key), ← *ℤ-+ℤ x (sum m (listed n f)) ((f n).coefficient *ℤ m (f n).key))
      (ap (λ (z : ℤ). x *ℤ z) (sum_more n))

abbrev pub at : List ℕ → List ℤ → ℕ → Term
at exponents coefficients i = term (get_or exponents i 0) (get_or coefficients i (pos 0))
