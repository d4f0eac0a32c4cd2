-- Products added to the sums: how large they are, and those of a loop over the terms that two arrays hold.
use mathlib.Core.Path.{◌≡◌, ap, ◌∙◌}
use mathlib.Core.List.{List}
use Prim.Native.Nat.{ℕ, ◌+◌, ◌*◌, ◌^◌, ◌≤◌}
use native.Mathlib.Omega.{arith}
use lib.IntN.{ℤ, pos, nat_abs, one, ◌*ℤ◌, *ℤ-one}
use lib.ListN.{get_or}
use mir.Syntax.{w64}
use mir.Val.{SFits}
use Rattle.integers.proofs.Ranges.{fits_abs, abs_mul_le}
use Rattle.wide_sums.specs.Sums.{base, value_of, halves_of}
use Rattle.wide_sums.specs.declared.Halves.{Halves}
use Rattle.wide_sums.proofs.Floors.{halves_value, low_small, high_small}
use Rattle.flat.specs.TermArrays.{terms_in}
use Rattle.polynomial.specs.Algebra.{sum}
use Rattle.row_folding.specs.Fold.{folded_most}
use Rattle.row_outer.proofs.Prefixes.{at, times_none, times_more}
use Rattle.identity_sums.specs.Tables.{unit, SumsGrown, Scaled}
use Rattle.identity_sums.proofs.Growth.{grown_none, grown_then}

-- ---- a number in its halves, times a coefficient
module _ (x c : ℤ) where
  scaled : (m n : ℕ) → nat_abs x ≤ m * base → nat_abs c ≤ n → m * n ≤ unit → base * n ≤ unit → Scaled (halves_of x) c
  scaled m n h k a b =
      record {
        high = omega (arith, abs_mul_le (halves_of x).high c m n (high_small x m h) k);
        low = omega (arith, abs_mul_le (halves_of x).low c base n (omega (arith, low_small x)) k);
      }

  -- an entry of the table of sums, and a coefficient of 16 bits
  pub scaled_entry : nat_abs x ≤ folded_most → nat_abs c ≤ 2 ^ 15 → Scaled (halves_of x) c
  scaled_entry h k = scaled (5 * 2 ^ 26) (2 ^ 15) (omega arith) k (omega arith) (omega arith)

-- any number of 64 bits, once
pub scaled_once : (y : ℤ) → SFits w64 y → Scaled (halves_of y) (pos 1)
scaled_once y f = scaled y (pos 1) (2 ^ 36) 1 (omega (arith, fits_abs f)) (omega arith) (omega arith) (omega arith)

-- what the halves of x add is what x does
module _ (x : ℤ) (h : Halves) (e : h ≡ halves_of x) (m : ℤ) where
  pub halves_times : (c : ℤ) → value_of h.high h.low *ℤ c *ℤ m ≡ x *ℤ c *ℤ m
  halves_times c = ap (λ (h : Halves). value_of h.high h.low *ℤ c *ℤ m) e ∙ ap (λ (z : ℤ). z *ℤ c *ℤ m) (halves_value x)

  pub halves_once : value_of h.high h.low *ℤ pos 1 *ℤ m ≡ x *ℤ m
  unfolding one
  halves_once = halves_times (pos 1) ∙ ap (λ (z : ℤ). z *ℤ m) (*ℤ-one x)

-- ---- the turns of a loop over the terms that two arrays hold: x times the sum over the first t of them, each under m
pub record Summing (keys : List ℕ) (n : ℕ) (hi₀ lo₀ : List ℤ) (m : ℕ → ℕ → ℤ) (x : ℤ) (exponents : List ℕ) (coefficients : List ℤ) (t : ℕ) (hi₁ lo₁ : List ℤ) : Type 0 where
  pub grown : SumsGrown keys n hi₀ lo₀ (λ k. x *ℤ sum (m k) (terms_in t exponents coefficients)) (t * unit) hi₁ lo₁

module _ {keys : List ℕ} {n : ℕ} {m : ℕ → ℕ → ℤ} {x : ℤ} {exponents : List ℕ} {coefficients : List ℤ} where
  pub summing_start : {hi lo : List ℤ} → Summing keys n hi lo m x exponents coefficients 0 hi lo
  unfolding terms_in
  summing_start = record { grown = grown_none (λ q b. times_none (m (get_or keys q 0)) (at exponents coefficients) x) }

  pub summing_more : {hi₀ hi₁ hi₂ lo₀ lo₁ lo₂ : List ℤ} {t : ℕ} → Summing keys n hi₀ lo₀ m x exponents coefficients t hi₁ lo₁
      → SumsGrown keys n hi₁ lo₁ (λ k. x *ℤ get_or coefficients t (pos 0) *ℤ m k (get_or exponents t 0)) unit hi₂ lo₂ → Summing keys n hi₀ lo₀ m x exponents coefficients (t + 1) hi₂ lo₂
  unfolding terms_in
  summing_more {t = t} h g = record { grown = grown_then h.grown g (λ k. times_more (m k) (at exponents coefficients) x t) (omega arith) }
