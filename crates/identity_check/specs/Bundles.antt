-- What is said of the comparison, with the rows, the problem and the compared keys each as one value.
use Rattle.std.specs.Prelude.{Option, List, ℕ, ℤ}
use Rattle.format.specs.ProblemRules.{Problem}
use Rattle.format.specs.declared.certificate.Header.{Header}
use Rattle.key_set.specs.Table.{Indexed}
use Rattle.certificate_rows.specs.declared.Rows.{Rows}
use Rattle.flat.specs.declared.Arrays.{Arrays}
use Rattle.identity_sums.specs.declared.Compared.{Compared}
use Rattle.identity_check.specs.Compare.{Zeroed, Carried, Answered}

-- the compared keys differ and have their index, and the sums at their places are 0
abbrev pub ZeroedAt : Compared → List ℤ → List ℤ → Type 0
ZeroedAt keys hi lo = Zeroed keys.table.now keys.count hi lo × Indexed keys.index.now keys.table.now keys.count

-- the sums at the compared keys grew by f of the problem that the arrays hold: what is known of the whole sums then
abbrev pub CarriedAt : (Problem → ℕ → ℤ) → Arrays → Compared → List ℤ → List ℤ → List ℤ → List ℤ → Option ℕ → Type 0
CarriedAt f a keys hi₀ lo₀ hi₁ lo₁ r =
    Carried f a.keys.now a.coefficients.now a.sizes.now keys.table.now keys.count hi₀ lo₀ hi₁ lo₁ r

-- the answer for the problem and the certificate, and what is left of the sums
abbrev pub AnsweredFor : Rows → Header → Arrays → Compared → Option ℕ → List ℤ → List ℤ → List ℤ → List ℤ → Type 0
AnsweredFor r header a keys found hi₀ lo₀ hi₁ lo₁ =
    Answered r.stream.now r.starts.now r.count header a.keys.now a.coefficients.now a.sizes.now keys.table.now keys.count found hi₀ lo₀ hi₁ lo₁
