-- The weighted squares of all rows, added at the compared keys: one part of their products at a time.
use Rattle.std.specs.Prelude.{◌≡◌, List, ℕ, zero, suc, ◌+◌, ◌*◌, ◌≤◌, ◌<◌, ℤ, pos, ◌+ℤ◌, ◌*ℤ◌, length, get_or}
use Rattle.format.specs.ProblemLimits.{most_bases}
use Rattle.format.specs.ProblemRules.{Problem}
use Rattle.format.specs.CertificateRules.{Row}
use Rattle.flat.specs.Flat.{conditions_at, FlatProblem}
use Rattle.certificate_rows.specs.Offsets.{SoundRows}
use Rattle.wide_sums.specs.Sums.{step}
use Rattle.row_digits.specs.declared.Part.{Part}
use Rattle.row_digits.specs.declared.Part.TheVariants.{Cross, High}
use Rattle.row_outer.specs.Gram.{rows_on}
use Rattle.row_outer.specs.Frame.{Empty}
use Rattle.row_digits.specs.Digits.{part_spread}
use Rattle.identity_sums.specs.Tables.{SumsGrown}
use Rattle.identity_rows.specs.Spread.{table_unit}

-- a problem in its arrays, and the rows of a certificate that keep its limits
pub record Comparable (s starts : List ℕ) (rows : ℕ) (keys : List ℕ) (coefficients : List ℤ) (sizes : List ℕ) :
    Type 0 where
  pub problem : Problem
  pub flat : FlatProblem problem keys coefficients sizes
  pub rows_sound : SoundRows problem s starts rows

-- a table of sums that is empty and has room for every basis
pub record RoomFor (sizes : List ℕ) (g : List ℤ) : Type 0 where
  pub empty : Empty g
  pub long : (j : ℕ) → j < most_bases → 64 * get_or sizes j 0 ≤ length g

-- ---- the parts of the products, at a key
-- of the rows on basis j
abbrev pub on_basis : List Row → ℕ → Part → Problem → ℕ → ℤ
on_basis rs j part p k = part_spread p j part (rows_on j rs) k

-- of those on the first n bases
unfoldable pub on_bases : List Row → ℕ → Part → Problem → ℕ → ℤ
on_bases rs zero part p k = pos 0
on_bases rs (suc j) part p k = on_bases rs j part p k +ℤ on_basis rs j part p k

-- as many bases are there: one for each condition, and that of 1
abbrev pub bases_in : List ℕ → ℕ
bases_in sizes = get_or sizes conditions_at 0 + 1

-- what the parts behind the first give together, over 2^16
abbrev pub beyond : List Row → ℕ → Problem → ℕ → ℤ
beyond rs n p k = on_bases rs n Cross p k +ℤ pos step *ℤ on_bases rs n High p k

-- the first part is all
pub record Alone (f : Part → Problem → ℕ → ℤ) : Type 0 where
  pub cross : (p : Problem) (k : ℕ) → f Cross p k ≡ pos 0
  pub high : (p : Problem) (k : ℕ) → f High p k ≡ pos 0

-- the sums grew by f of the problem that the arrays hold, at each key, and by at most what c tables add
pub record Summed (f : Problem → ℕ → ℤ) (keys : List ℕ) (coefficients : List ℤ) (sizes table : List ℕ) (n c : ℕ)
    (hi₀ lo₀ hi₁ lo₁ : List ℤ) : Type 0 where
  pub sums : ℕ → ℤ
  pub grown : SumsGrown table n hi₀ lo₀ sums (c * table_unit) hi₁ lo₁
  pub are : (p : Problem) → FlatProblem p keys coefficients sizes → (k : ℕ) → sums k ≡ f p k
