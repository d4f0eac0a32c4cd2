-- Certificates for sample A with notes, document 02's command 40.
use Rattle.std.specs.Prelude.{List, ◌∷◌, ◌++◌, ℕ, replicate}
use Rattle.samples.specs.Streams.{header, row, entry, entry_minus, finish}

-- a note of 8 equal bytes
abbrev pub note : ℕ → List ℕ
note b = 64 ∷ replicate 8 b

abbrev pub header_a : List ℕ
header_a = header 0 1 2 1

-- A's certificate with notes behind 10, within the row and before 13; the second holds 13s and the third 40s
abbrev pub noted_a : List ℕ
noted_a = header_a ++ note 1 ++ row 0 1 ++ entry_minus 0 255 ++ note 19 ++ entry 1 1 ++ note 64 ++ finish

-- the first index again behind a note
abbrev pub again_a : List ℕ
again_a = header_a ++ row 0 1 ++ entry_minus 0 255 ++ note 1 ++ entry 0 1 ++ finish
