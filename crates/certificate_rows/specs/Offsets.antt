-- The rows of a certificate stream by the offsets that the reader notes: row r stands from starts[r] to starts[r + 1],
-- its command first and then its entries.
use Rattle.std.specs.Prelude.{cond, List, [], ◌∷◌, ℕ, zero, suc, ◌+◌, ◌-◌, ◌≤◌, ◌<◌, eqb, ltb, ℤ, pos, length, get_or}
use Rattle.counting.specs.Counting.{listed}
use Rattle.format.specs.All.{All}
use Rattle.format.specs.Operands.{number, signed}
use Rattle.format.specs.declared.certificate.Command.{Command}
use Rattle.format.specs.declared.certificate.Command.TheVariants as C
use Rattle.format.specs.ProblemRules.{Problem}
use Rattle.format.specs.CertificateLayout.{certificate_size, certificate_unsigned, certificate_signed}
use Rattle.format.specs.CertificateRules.{Entry, Row, most_rows, certificate_command_at}
use Rattle.format.proofs.WithinLimits.{Limits}
use Rattle.format.proofs.CertificateLimits.{SoundRow}

-- ---- what stands at an offset
-- the length of the command there
abbrev pub size_at : List ℕ → ℕ → ℕ
size_at s at = certificate_size (certificate_command_at s at)

-- the entry whose command stands there, by the layout of the command
unfoldable pub entry_at : List ℕ → ℕ → Entry
entry_at s at =
    let k = certificate_command_at s at in
    record { index = certificate_unsigned k 0 s at; factor = certificate_signed k 1 s at; place = at }

-- the basis and the weight of the row whose command stands there: the weight of 14 has a sign
abbrev pub basis_at : List ℕ → ℕ → ℕ
basis_at s at = number 1 s (at + 1)

abbrev pub weight_at : List ℕ → ℕ → ℤ
weight_at s at = let w = number 2 s (at + 2) in cond (eqb (get_or s at 0) 0x14) (signed 15 w) (pos w)

-- ---- the walk over the entries of a row, from an offset up to another, each step as long as its command: at most n
unfoldable pub entries_from : ℕ → List ℕ → ℕ → ℕ → List Entry
entries_from zero s to at = []
entries_from (suc n) s to at = cond (ltb at to) (entry_at s at ∷ entries_from n s to (at + size_at s at)) []

-- the row between two offsets
abbrev pub row_at : List ℕ → ℕ → ℕ → Row
row_at s from to = record {
  basis = basis_at s from;
  weight = weight_at s from;
  entries = entries_from (to - from) s to (from + size_at s from);
}

-- the rows by their offsets
unfoldable pub rows_by : List ℕ → List ℕ → ℕ → List Row
rows_by s starts rows = listed rows (λ r. row_at s (get_or starts r 0) (get_or starts (r + 1) 0))

-- ---- the commands stand there
-- the commands of an entry, 12 and 15
pub data GivesEntry : Command → Type 0 where
  by_entry : GivesEntry C.Entry
  by_wide : GivesEntry C.WideEntry

-- one entry
pub record EntryStands (s : List ℕ) (at : ℕ) : Type 0 where
  pub command : GivesEntry (certificate_command_at s at)
  pub inside : at + size_at s at ≤ length s

-- entries es one after another, from an offset up to another
pub data EntriesStand (s : List ℕ) (to : ℕ) : ℕ → List Entry → Type 0 where
  done : EntriesStand s to to []
  more : {at : ℕ} {es : List Entry} → GivesEntry (certificate_command_at s at)
      → EntriesStand s to (at + size_at s at) es → EntriesStand s to at (entry_at s at ∷ es)

-- the commands that begin a row, 11 and 14: they have the same length
pub data BeginsRow : Command → Type 0 where
  by_row : BeginsRow C.Row
  by_equality : BeginsRow C.EqualityRow

-- a row between two offsets
pub record RowStands (s : List ℕ) (from to : ℕ) : Type 0 where
  pub command : BeginsRow (certificate_command_at s from)
  pub entries : EntriesStand s to (from + certificate_size C.Row) (row_at s from to).entries
  pub inside : to ≤ length s

pub record RowsStand (s starts : List ℕ) (rows : ℕ) : Type 0 where
  pub few : rows ≤ most_rows
  pub each : (r : ℕ) → r < rows → RowStands s (get_or starts r 0) (get_or starts (r + 1) 0)

-- ---- what a walk over the rows needs: they stand there, and each keeps its limits against a problem within its own
pub record SoundRows (p : Problem) (s starts : List ℕ) (rows : ℕ) : Type 0 where
  pub limits : Limits p
  pub stand : RowsStand s starts rows
  pub sound : All (SoundRow p) (rows_by s starts rows)

pub record Walkable (s starts : List ℕ) (rows : ℕ) : Type 0 where
  pub problem : Problem
  pub rows_sound : SoundRows problem s starts rows
