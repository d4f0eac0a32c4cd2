-- A certificate as a stream: its header, its rows one after another, each with its entries, and its end, each command
-- by the layout that the reader goes by; and where its entries then stand.
use Rattle.std.specs.Prelude.{Bool, cond, ℕ, ◌+◌, ◌^◌, ltb, ℤ, pos, negsuc, nat_abs, length}
use mathlib.Core.List.{List, [], ◌∷◌, ◌++◌, map, flat_map}
use Rattle.format.specs.declared.problem.Kind.{Kind}
use Rattle.format.specs.declared.problem.Kind.TheVariants as K
use Rattle.format.specs.declared.certificate.Command.TheVariants as C
use Rattle.format.specs.declared.certificate.Instruction.{Instruction}
use Rattle.format.specs.declared.certificate.Instruction.TheVariants as I
use Rattle.format.specs.declared.certificate.Header.{Header}
use Rattle.format.specs.ProblemRules.{Problem}
use Rattle.format.specs.ProblemBases.{kind_of}
use Rattle.format.specs.CertificateLayout.{certificate_layout}
use Rattle.format.specs.CertificateRules.{Entry, Row, Certificate}
use Rattle.written.specs.Bytes.{u, i, command_bytes}

-- ---- a command with its operands
unfoldable pub certificate_bytes : Instruction → List ℕ
certificate_bytes (I.Header side d p q) =
    command_bytes (certificate_layout C.Header) (u side ∷ u d ∷ i p ∷ u q ∷ [])
certificate_bytes (I.Row j w) = command_bytes (certificate_layout C.Row) (u j ∷ u w ∷ [])
certificate_bytes (I.Entry n l) = command_bytes (certificate_layout C.Entry) (u n ∷ i l ∷ [])
certificate_bytes I.End = command_bytes (certificate_layout C.End) []
certificate_bytes (I.EqualityRow j w) = command_bytes (certificate_layout C.EqualityRow) (u j ∷ i w ∷ [])
certificate_bytes (I.WideEntry n l) = command_bytes (certificate_layout C.WideEntry) (u n ∷ i l ∷ [])

unfoldable pub certificate_stream : List Instruction → List ℕ
certificate_stream xs = flat_map certificate_bytes xs

-- ---- the commands of a certificate
abbrev pub header_command : Header → Instruction
header_command h = I.Header h.side h.scale h.p h.q

-- "12 i(u8) l(i16)", and "15 i(u8) l(i32) is an entry with a wider factor": 12 wherever 16 bits hold the factor
abbrev pub narrow : ℤ → Bool
narrow (pos n) = ltb n (2 ^ 15)
narrow (negsuc n) = ltb n (2 ^ 15)

unfoldable pub entry_command : Entry → Instruction
entry_command e = cond (narrow e.factor) (I.Entry e.index e.factor) (I.WideEntry e.index e.factor)

-- "11 j(u8) w(u16): begins a row on basis j", and "14 j(u8) w(i16) begins a row on an equality"
abbrev pub beginning : Kind → ℕ → ℤ → Instruction
beginning K.Inequality j w = I.Row j (nat_abs w)
beginning K.Equality j w = I.EqualityRow j w

abbrev pub row_command : Problem → Row → Instruction
row_command p r = beginning (kind_of p r.basis) r.basis r.weight

unfoldable pub entry_commands : List Entry → List Instruction
entry_commands es = map entry_command es

unfoldable pub row_commands : Problem → List Row → List Instruction
row_commands p [] = []
row_commands p (r ∷ rs) = row_command p r ∷ (entry_commands r.entries ++ row_commands p rs)

-- "10 ..: First, and only first", and "13: end"
unfoldable pub encode_certificate : Problem → Certificate → List ℕ
encode_certificate p c =
    certificate_stream (header_command c.header ∷ (row_commands p c.rows ++ (I.End ∷ [])))

-- without its end: what one more command would stand behind
unfoldable pub open_certificate : Problem → Certificate → List ℕ
open_certificate p c = certificate_stream (header_command c.header ∷ row_commands p c.rows)

-- ---- the same certificate with the places that its layout gives: of each entry the offset of its command
unfoldable pub placed_entries : ℕ → List Entry → List Entry
placed_entries at [] = []
placed_entries at (e ∷ es) =
    record { index = e.index; factor = e.factor; place = at }
    ∷ placed_entries (at + length (certificate_bytes (entry_command e))) es

abbrev pub placed_row : Problem → ℕ → Row → Row
placed_row p at r = record {
  basis = r.basis;
  weight = r.weight;
  entries = placed_entries (at + length (certificate_bytes (row_command p r))) r.entries;
}

-- where the row at an offset ends
abbrev pub row_end : Problem → ℕ → Row → ℕ
row_end p at r =
    at + length (certificate_bytes (row_command p r)) + length (certificate_stream (entry_commands r.entries))

unfoldable pub placed_rows : Problem → ℕ → List Row → List Row
placed_rows p at [] = []
placed_rows p at (r ∷ rs) = placed_row p at r ∷ placed_rows p (row_end p at r) rs

unfoldable pub placed : Problem → Certificate → Certificate
placed p c = record {
  header = c.header;
  rows = placed_rows p (length (certificate_bytes (header_command c.header))) c.rows;
}
