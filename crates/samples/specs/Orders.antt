-- Document 02's request 14: case F's lower certificate with its two rows in the other order; and request 10: sample A's
-- certificate, piece by piece, with notes put in.
use Rattle.std.specs.Prelude.{List, [], ◌∷◌, ◌++◌, ℕ, replicate}
use Rattle.format.specs.RowOrder.{RowRun}
use Rattle.format.specs.PutIn.{Piece, command, note}
use Rattle.samples.specs.Streams.{header_minus, row, entry, entry_minus, finish}

-- low.bin of case F is 10 .. | 11 00 .. | 12 00 .. | 12 01 .. | 11 01 .. | 12 00 .. | 13; here the row on basis 1 stands first
abbrev pub turned_f : List ℕ
turned_f = header_minus 0 2 255 1 ++ row 1 1 ++ entry 0 1 ++ row 0 1 ++ entry 0 1 ++ entry 1 1 ++ finish

abbrev pub row_on_zero : RowRun
row_on_zero = record { begin = row 0 1; entries = entry 0 1 ∷ entry 1 1 ∷ [] }

abbrev pub row_on_one : RowRun
row_on_one = record { begin = row 1 1; entries = entry 0 1 ∷ [] }

-- behind 10, within the row and before 13; the second note holds 13s and the third 40s
abbrev pub pieces_a : List Piece
pieces_a =
    note (replicate 8 1)
    ∷ command (row 0 1)
    ∷ command (entry_minus 0 255)
    ∷ note (replicate 8 19)
    ∷ command (entry 1 1)
    ∷ note (replicate 8 64)
    ∷ []
