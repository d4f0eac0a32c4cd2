-- How the table of sums by indices is spread over the compared keys: what it needs, and what it at most adds.
use Rattle.std.specs.Prelude.{◌≡◌, List, ℕ, ◌*◌, ◌^◌, ◌≤◌, ℤ, length}
use Rattle.counting.specs.Counting.{Bounded}
use Rattle.flat.specs.TermArrays.{Small}
use Rattle.row_outer.specs.Frame.{Empty}
use Rattle.identity_sums.specs.Tables.{unit, SumsGrown}

-- what one entry at most adds to a sum: a product for each of 32 terms
abbrev pub entry_unit : ℕ
entry_unit = 32 * unit

-- what a table of 64 × 64 entries at most adds: 64 × 65 / 2 of them are on or above the diagonal
abbrev pub table_unit : ℕ
table_unit = 2080 * entry_unit

-- a basis, and its multiplier in two arrays
pub record Spreadable (basis exponents : List ℕ) (coefficients : List ℤ) : Type 0 where
  pub basis_few : length basis ≤ 64
  pub basis_low : Bounded (8 * 2 ^ 56) basis
  pub paired : length exponents ≤ length coefficients
  pub few : length exponents ≤ 32
  pub low : Bounded (16 * 2 ^ 56) exponents
  pub coefficients_small : Small (2 ^ 15) coefficients

-- the sums grew by f, what a table gives, and all its entries are 0
pub record Spread (keys : List ℕ) (n : ℕ) (f : ℕ → ℤ) (g₀ hi₀ lo₀ g₁ hi₁ lo₁ : List ℤ) : Type 0 where
  pub grown : SumsGrown keys n hi₀ lo₀ f table_unit hi₁ lo₁
  pub cleared : Empty g₁
  pub long : length g₁ ≡ length g₀
