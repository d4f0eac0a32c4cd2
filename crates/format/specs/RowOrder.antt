-- Request 14 of document 02, "the order of a certificate's rows": a certificate stream as its header, the runs of its
-- rows and its end, the streams that have these runs in another order, and what a run gives where it stands.
use Rattle.std.specs.Prelude.{◌≡◌, Bool, true, false, ℕ, ◌+◌, ℤ, pos, length}
use mathlib.Core.List.{List, [], ◌∷◌, ◌++◌, flatten}
use Rattle.format.specs.All.{All}
use Rattle.format.specs.declared.certificate.Command.{Command}
use Rattle.format.specs.declared.certificate.Command.TheVariants as C
use Rattle.format.specs.declared.certificate.Instruction.{Instruction}
use Rattle.format.specs.declared.certificate.Instruction.TheVariants as I
use Rattle.format.specs.CertificateRules.{Entry, Row, certificate_instruction_at}
use Rattle.format.specs.Cut.{command_of, Whole}
use Rattle.format.specs.Permuted.{Permuted}

-- ---- the run of a row
-- "11 .. begins a row", "14 .. begins a row on an equality"
abbrev pub begins_row : Command → Bool
begins_row C.Header = false
begins_row C.Row = true
begins_row C.Entry = false
begins_row C.End = false
begins_row C.EqualityRow = true
begins_row C.WideEntry = false
begins_row C.Unknown = false

-- "12 ..: entry of the row begun last", "15 .. is an entry with a wider factor"
abbrev pub is_entry : Command → Bool
is_entry C.Header = false
is_entry C.Row = false
is_entry C.Entry = true
is_entry C.End = false
is_entry C.EqualityRow = false
is_entry C.WideEntry = true
is_entry C.Unknown = false

pub record EntryCommand (e : List ℕ) : Type 0 where
  pub whole : Whole e
  pub entry : is_entry (command_of e) ≡ true

-- the commands of one row: the one that begins it, and its entries
pub record RowRun : Type 0 where
  pub begin : List ℕ
  pub entries : List (List ℕ)

pub record IsRow (r : RowRun) : Type 0 where
  pub whole : Whole r.begin
  pub begins : begins_row (command_of r.begin) ≡ true
  pub entries : All EntryCommand r.entries

abbrev pub run_bytes : RowRun → List ℕ
run_bytes r = r.begin ++ flatten r.entries

-- ---- a stream: "10 ..: First, and only first", the rows one after another, and "13: end"
unfoldable pub rows_bytes : List RowRun → List ℕ
rows_bytes [] = []
rows_bytes (r ∷ rs) = run_bytes r ++ rows_bytes rs

abbrev pub in_order : List ℕ → List RowRun → List ℕ
in_order header rows = header ++ (rows_bytes rows ++ (0x13 ∷ []))

pub record HeaderCommand (h : List ℕ) : Type 0 where
  pub whole : Whole h
  pub header : command_of h ≡ C.Header

-- two streams with one header and the same runs of rows, in any order. Nothing is asked of what they give
pub record OtherOrder (s t : List ℕ) : Type 0 where
  pub header : List ℕ
  pub rows : List RowRun
  pub others : List RowRun
  pub headed : HeaderCommand header
  pub each : All IsRow rows
  pub order : Permuted rows others
  pub first : s ≡ in_order header rows
  pub second : t ≡ in_order header others

-- ---- what the run of a row gives where it stands: the row, and each entry at its command's offset. So a row that is
-- moved moves the places of its entries with it
-- the index and the factor that 12 or 15 states
abbrev pub index_by : Instruction → ℕ
index_by (I.Header side d x q) = 0
index_by (I.Row j w) = 0
index_by (I.Entry i l) = i
index_by I.End = 0
index_by (I.EqualityRow j w) = 0
index_by (I.WideEntry i l) = i

abbrev pub factor_by : Instruction → ℤ
factor_by (I.Header side d x q) = pos 0
factor_by (I.Row j w) = pos 0
factor_by (I.Entry i l) = l
factor_by I.End = pos 0
factor_by (I.EqualityRow j w) = pos 0
factor_by (I.WideEntry i l) = l

abbrev pub entry_by : Instruction → ℕ → Entry
entry_by i at = record { index = index_by i; factor = factor_by i; place = at }

unfoldable pub entries_at : ℕ → List (List ℕ) → List Entry
entries_at at [] = []
entries_at at (e ∷ es) = entry_by (certificate_instruction_at e 0) at ∷ entries_at (at + length e) es

-- the basis and the weight that 11 or 14 states
abbrev pub basis_by : Instruction → ℕ
basis_by (I.Header side d x q) = 0
basis_by (I.Row j w) = j
basis_by (I.Entry i l) = 0
basis_by I.End = 0
basis_by (I.EqualityRow j w) = j
basis_by (I.WideEntry i l) = 0

abbrev pub weight_by : Instruction → ℤ
weight_by (I.Header side d x q) = pos 0
weight_by (I.Row j w) = pos w
weight_by (I.Entry i l) = pos 0
weight_by I.End = pos 0
weight_by (I.EqualityRow j w) = w
weight_by (I.WideEntry i l) = pos 0

abbrev pub row_by : Instruction → List Entry → Row
row_by i es = record { basis = basis_by i; weight = weight_by i; entries = es }

unfoldable pub row_at : ℕ → RowRun → Row
row_at at r = row_by (certificate_instruction_at r.begin 0) (entries_at (at + length r.begin) r.entries)

unfoldable pub rows_at : ℕ → List RowRun → List Row
rows_at at [] = []
rows_at at (r ∷ rs) = row_at at r ∷ rows_at (at + length (run_bytes r)) rs
