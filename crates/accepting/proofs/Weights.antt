-- The signs that the weights of rows have.
use mathlib.Core.Path.{◌≡◌}
use mathlib.Core.List.{List}
use lib.IntN.{pos, neg_ℤ}
use lib.Signed.{◌≤ℤ◌}
use Rattle.format.specs.All.{All}
use Rattle.format.specs.ProblemRules.{Problem}
use Rattle.format.specs.ProblemBases.{kind_of}
use Rattle.format.specs.CertificateRules.{Row}
use Rattle.format.specs.declared.problem.Kind.TheVariants as K

-- a weight is at least 0 on basis 0 and on an inequality; on an equality it may have either sign
abbrev pub RowWeighted : Problem → Row → Type 0
RowWeighted p r = kind_of p r.basis ≡ K.Inequality → pos 0 ≤ℤ r.weight

abbrev pub Weighted : Problem → List Row → Type 0
Weighted p rs = All (RowWeighted p) rs
