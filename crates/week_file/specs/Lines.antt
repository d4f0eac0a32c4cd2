-- The lines of the first n records, by the output of a report.
use Rattle.std.specs.Prelude.{List, [], ◌++◌, ℕ, zero, suc, ◌+◌, ◌*◌, take, drop}
use Rattle.calls.specs.Report.{record_length}
use Rattle.lines.specs.ReportLines.{record_line}

-- the 32 bytes of record i
abbrev pub bytes_at : List ℕ → ℕ → List ℕ
bytes_at out i = take record_length (drop (record_length * i) out)

abbrev pub lines_to : ℕ → List ℕ → List ℕ
lines_to zero out = []
lines_to (suc n) out = lines_to n out ++ record_line (n + 1) (bytes_at out n)
