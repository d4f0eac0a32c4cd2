-- What the reader keeps of the certificate read so far: what the checks of a command ask. Of the problem they ask the
-- sizes, and of which kind each condition is.
use Rattle.std.specs.Prelude.{◌≡◌, List, [], ◌∷◌, suc, ℕ, ◌+◌, ◌≤◌, ◌<◌, length, get_or}
use Rattle.format.specs.ProblemLimits.{most_bases}
use Rattle.format.specs.ProblemRules.{Problem}
use Rattle.format.specs.ProblemBases.{basis_of, is_equality, kind_of}
use Rattle.format.proofs.WithinLimits.{Limits}
use Rattle.format.specs.CertificateRules.{Entry, Certificate, last_row, most_rows}
use Rattle.format.specs.declared.certificate.Instruction.{Instruction}
use Rattle.format.specs.declared.certificate.Instruction.TheVariants as I
use Rattle.format.specs.declared.certificate.Header.{Header}
use Rattle.flat.specs.Flat.{conditions_at, equality_in}
use Rattle.certificate_commands.specs.declared.Progress.{Progress}

-- ---- a problem's sizes
pub record Sized (p : Problem) (sizes : List ℕ) : Type 0 where
  pub sizes_length : length sizes ≡ 31
  pub bases : (j : ℕ) → j < most_bases → get_or sizes j 0 ≡ length (basis_of p j)
  pub conditions : get_or sizes conditions_at 0 ≡ length p.conditions
  pub kinds : (j : ℕ) → j < most_bases → equality_in sizes j ≡ is_equality (kind_of p j)

-- those of a problem within its limits
pub record ProblemSizes (sizes : List ℕ) : Type 0 where
  pub problem : Problem
  pub limits : Limits problem
  pub sized : Sized problem sizes

-- ---- a certificate's progress
-- the least index that may follow in a row
abbrev pub floor_of : List Entry → ℕ
floor_of [] = 0
floor_of (e ∷ []) = suc e.index
floor_of (e ∷ f ∷ es) = floor_of (f ∷ es)

unfoldable pub progress_of : Certificate → Progress
progress_of c = record {
  rows = length c.rows;
  basis = (last_row c.rows).basis;
  floor = floor_of (last_row c.rows).entries;
}

pub record ProgressWithin (g : Progress) : Type 0 where
  pub rows : g.rows ≤ most_rows
  pub basis : g.basis ≤ 8

-- before the first command
abbrev pub no_progress : Progress
no_progress = record { rows = 0; basis = 0; floor = 0 }

-- the header and the progress after a command that is not refused
abbrev pub headed : Header → Instruction → Header
headed t (I.Header side d p q) = record { side = side; scale = d; p = p; q = q }
headed t (I.Row j w) = t
headed t (I.Entry i l) = t
headed t I.End = t
headed t (I.EqualityRow j w) = t
headed t (I.WideEntry i l) = t

-- a row begun on basis j
abbrev pub begun : Progress → ℕ → Progress
begun g j = record { rows = g.rows + 1; basis = j; floor = 0 }

-- an entry with index i, by either command
abbrev pub risen : Progress → ℕ → Progress
risen g i = record { rows = g.rows; basis = g.basis; floor = i + 1 }

abbrev pub advanced : Progress → Instruction → Progress
advanced g (I.Header side d p q) = g
advanced g (I.Row j w) = begun g j
advanced g (I.Entry i l) = risen g i
advanced g I.End = g
advanced g (I.EqualityRow j w) = begun g j
advanced g (I.WideEntry i l) = risen g i
