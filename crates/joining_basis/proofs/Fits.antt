-- The numbers x - t that have no bits but those of sums: one exponent t more.
use Rattle.std.proofs.Common.{◌≡◌, ℕ, ◌+◌, ◌*◌, ◌%◌, ◌^◌, ◌<◌, ◌≤◌, List, length, get_or, take, set, add-one, arith, take-suc-set}
use lib.Bits.{bit_or}
use lib.Seq.{take-set-le}
use Rattle.round_laws.specs.Fits.{SumBits, Fitting}
use Rattle.round_laws.proofs.Bits.{fit_is}
use Rattle.round_laws.proofs.Fits.{fits_none, fitting_hit, fitting_miss}

-- for every basis whose sums have no bits but these
abbrev pub FitsAll : List ℕ → ℕ → ℕ → List ℕ → Type 0
FitsAll T bits x sums = (B : List ℕ) → length B ≤ 64 → SumBits B (64 * length B) bits → Fitting T B x sums

-- r is x - t modulo 2^64, with the next exponent t
module _ (T : List ℕ) (bits x i : ℕ) (h : i < length T) (low : get_or T i 0 ≤ 16 * 2 ^ 56) (fits : List ℕ) (n : ℕ) (room : n < length fits)
    (f : FitsAll (take i T) bits x (take n fits)) (r : ℕ) (small : r < 2 ^ 64) (e : (r + get_or T i 0) % 2 ^ 64 ≡ x) where
  pub fits_hit : bit_or r bits ≡ bits → FitsAll (take (i + 1) T) bits x (take (n + 1) (set fits n r))
  fits_hit q B few b =
      rw (add-one n, take-suc-set fits n r room)
      (fitting_hit T B x i h (take n fits) (f B few b) r (fit_is x (get_or T i 0) r small e bits (omega (arith, b.low)) (omega arith) q))

  pub fits_miss : (bit_or r bits ≡ bits → ⊥) → FitsAll (take (i + 1) T) bits x (take (n + 0) (set fits n r))
  fits_miss d B few b =
      let z : n + 0 ≡ n = omega arith in
      rw (z, take-set-le n fits n r (omega arith))
      (fitting_miss T B x i h (take n fits) (f B few b) (fits_none B bits b few x (get_or T i 0) r small e d))
