-- The rows of a stream, and the table of sums that holds the products of those on one basis.
use Rattle.std.specs.Prelude.{◌≡◌, Bool, false, Option, MatchOption, List, [], ℕ, ◌*◌, ◌≤◌, ℤ, pos, nat_abs, length, get_or}
use Rattle.polynomial.specs.Terms.{Term}
use Rattle.format.specs.ProblemRules.{Problem}
use Rattle.format.specs.ProblemBases.{basis_of}
use Rattle.format.specs.All.{All}
use Rattle.format.specs.CertificateRules.{Entry, Row}
use Rattle.format.proofs.CertificateLimits.{IndicesRise}
use Rattle.certificate_rows.specs.Offsets.{row_at, RowStands, SoundRows}
use Rattle.row_digits.specs.declared.Part.{Part}
use Rattle.row_outer.specs.Gram.{factor_terms, rows_on}
use Rattle.row_outer.specs.Frame.{Below}
use Rattle.row_outer.specs.Outer.{weight_most, factor_most, row_unit, gathered_most, HasRow, Entries, Raised}
use Rattle.row_digits.specs.Digits.{Narrow, NarrowRow, part_of, parts}

-- the rows of a stream keep their limits against a problem whose basis j has room in a table of this length
pub record RowsFor (s starts : List ℕ) (rows j room : ℕ) : Type 0 where
  pub problem : Problem
  pub rows_sound : SoundRows problem s starts rows
  pub fits : 64 * length (basis_of problem j) ≤ room

-- a row stands between two offsets, and its indices rise and have their rows in a table of this length
pub record LowRow (s : List ℕ) (from to room : ℕ) : Type 0 where
  pub stands : RowStands s from to
  pub rising : IndicesRise (row_at s from to).entries
  pub inside : All (λ (e : Entry). HasRow room e.index) (row_at s from to).entries

-- a row's weight, and its entries in arrays, as the table of sums takes them
pub record RowHeld (indices : List ℕ) (factors : List ℤ) (count : ℕ) (w : ℤ) (g : List ℤ) : Type 0 where
  pub entries : Entries factor_most indices factors count (length g)
  pub factors_length : length factors ≡ 64
  pub weight_small : nat_abs w ≤ weight_most
  pub below : Below gathered_most g

-- one part of a row's products was added: they are small; and whether a factor is wide
pub record PartAdded (part : Part) (w : ℤ) (F : List Term) (g₀ g₁ : List ℤ) (wide : Bool) : Type 0 where
  pub raised : Raised g₀ (part_of part w F) g₁
  pub small : (x : ℕ) → nat_abs (part_of part w F x) ≤ row_unit
  pub narrow : wide ≡ false → Narrow F

abbrev pub RowAdded : Part → Row → List ℤ → List ℤ → Bool → Type 0
RowAdded part r g₀ g₁ wide = PartAdded part r.weight (factor_terms r.entries) g₀ g₁ wide

-- the table of sums, empty before, holds one part of the products of those of some rows that are on basis j; `found` says
-- whether one of those has a wide factor, or that there is none
pub record Gathered (part : Part) (rs : List Row) (j : ℕ) (g₀ g₁ : List ℤ) (found : Option Bool) : Type 0 where
  pub holds : (x : ℕ) → get_or g₁ x (pos 0) ≡ parts part (rows_on j rs) x
  pub small : Below gathered_most g₁
  pub long : length g₁ ≡ length g₀
  pub wide : MatchOption found (rows_on j rs ≡ []) (λ w. w ≡ false → All NarrowRow (rows_on j rs))
