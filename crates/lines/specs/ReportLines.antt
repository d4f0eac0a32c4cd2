-- The lines on a report and on one record: what `replay` answers and what `weekcheck` writes.
use Rattle.std.specs.Prelude.{cond, List, [], ◌∷◌, ◌++◌, ℕ, ◌+◌, ◌*◌, ltb}
use Rattle.format.specs.Commands.{Outcome, refused, given}
use Rattle.format.specs.Operands.{number, signed}
use Rattle.calls.specs.declared.Fraction.{Fraction}
use Rattle.calls.specs.declared.ReportVerdict.{ReportVerdict}
use Rattle.calls.specs.Fractions.{fraction}
use Rattle.calls.specs.Refusals.{problem_refusal}
use Rattle.calls.specs.Report.{Runs, records_of, entry, none_accepted, result_of}
use Rattle.lines.specs.Lines.{ascii, decimal, hexadecimal, with_number, with_ratio, refusal_line, unless_refused}

-- both bounds, with the words that stand before each
unfoldable pub bounds_words : Fraction → Fraction → List ℕ
bounds_words lower upper = with_ratio " lower " lower ++ with_ratio " upper " upper

-- ---- replay: how many were accepted, both bounds, and the whole output
unfoldable pub report_line : ReportVerdict → List ℕ → List ℕ
report_line v output =
    unless_refused v.refusal
    (with_number "report " v.accepted
    ++ bounds_words v.lower v.upper
    ++ ascii " "
    ++ hexadecimal output
    ++ ascii "\n")

-- ---- replay, on the call for a C program: the number that it returns, and the whole output
unfoldable pub tool_line : ℕ → List ℕ → List ℕ
tool_line n output = with_number "record " n ++ ascii " " ++ hexadecimal output ++ ascii "\n"

-- ---- weekcheck: a line for each record, and a last one
-- field k of the 32 bytes of a record
abbrev pub field_at : List ℕ → ℕ → ℕ
field_at bytes k = number 4 bytes (4 * k)

-- "refusal u32 (0 if accepted), p i32, q u32, P i32, Q u32, stream u32, place u32, key as its lowest 32 bits": the
-- refusal, or the bounds
unfoldable pub refused_words : ℕ → List ℕ → List ℕ
refused_words number bytes =
    with_number " refused " number
    ++ with_number " " (field_at bytes 5)
    ++ with_number " " (field_at bytes 6)
    ++ with_number " " (field_at bytes 7)

unfoldable pub record_words : List ℕ → List ℕ
record_words bytes =
    cond (ltb 0 (field_at bytes 0)) (refused_words (field_at bytes 0) bytes)
    (bounds_words (fraction (signed 31 (field_at bytes 1)) (field_at bytes 2))
    (fraction (signed 31 (field_at bytes 3)) (field_at bytes 4)))

-- the record's number, from 1, and these words
unfoldable pub record_line : ℕ → List ℕ → List ℕ
record_line n bytes = decimal n ++ record_words bytes ++ ascii "\n"

abbrev pub record_lines : ℕ → List Runs → List ℕ
record_lines n [] = []
record_lines n (r ∷ l) = record_line n (entry r) ++ record_lines (n + 1) l

-- how many were accepted, and both bounds
unfoldable pub last_line : ReportVerdict → List ℕ
last_line v = with_number "accepted " v.accepted ++ bounds_words v.lower v.upper ++ ascii "\n"

-- of the records of a week, or the line of refusal 12
unfoldable pub week_lines : Outcome (List Runs) → List ℕ
week_lines (refused number place) = refusal_line (problem_refusal number place)
week_lines (given l) = record_lines 1 l ++ last_line (result_of none_accepted l)

abbrev pub week_answer : List ℕ → List ℕ
week_answer s = week_lines (records_of s)
