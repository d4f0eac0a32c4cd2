-- What is said of the rows of a certificate, of a problem and of the compared keys, with each of them as one value.
use Rattle.std.specs.Prelude.{◌≡◌, List, ℕ, ℤ, length}
use Rattle.format.specs.ProblemRules.{Problem}
use Rattle.format.specs.CertificateRules.{Row}
use Rattle.certificate_rows.specs.declared.Rows.{Rows}
use Rattle.certificate_rows.specs.Offsets.{rows_by}
use Rattle.flat.specs.declared.Arrays.{Arrays}
use Rattle.identity_sums.specs.declared.Compared.{Compared}
use Rattle.identity_sums.specs.declared.Terms.{Terms}
use Rattle.identity_rows.specs.Spread.{Spreadable, Spread}
use Rattle.identity_rows.specs.Walk.{Comparable, Summed}

-- a basis, and its multiplier
abbrev pub SpreadableTerms : List ℕ → Terms → Type 0
SpreadableTerms basis t = Spreadable basis t.exponents.now t.coefficients.now

-- the sums at the compared keys grew by f, what a table gives, and all its entries are 0
abbrev pub SpreadOver : Compared → (ℕ → ℤ) → List ℤ → List ℤ → List ℤ → List ℤ → List ℤ → List ℤ → Type 0
SpreadOver keys f g₀ hi₀ lo₀ g₁ hi₁ lo₁ = Spread keys.table.now keys.count f g₀ hi₀ lo₀ g₁ hi₁ lo₁

-- the rows that stand in a stream by its offsets
abbrev pub rows_in : Rows → List Row
rows_in r = rows_by r.stream.now r.starts.now r.count

-- a problem in its arrays, and the rows of a certificate that keep its limits
abbrev pub ComparableIn : Rows → Arrays → Type 0
ComparableIn r a =
    Comparable r.stream.now r.starts.now r.count a.keys.now a.coefficients.now a.sizes.now × (length r.starts.now ≡ 129)

-- the sums at the compared keys grew by f of the problem that the arrays hold, and by at most what c tables add
abbrev pub SummedAt : (Problem → ℕ → ℤ) → Arrays → Compared → ℕ → List ℤ → List ℤ → List ℤ → List ℤ → Type 0
SummedAt f a keys c hi₀ lo₀ hi₁ lo₁ =
    Summed f a.keys.now a.coefficients.now a.sizes.now keys.table.now keys.count c hi₀ lo₀ hi₁ lo₁
