-- Kind r: a report with an output, and the line for it. The work tables are long enough.
use Rattle.std.specs.Prelude.{false, List, ℕ}
use Rattle.calls.specs.Report.{checked_records, output_left, report_verdict}
use Rattle.lines.specs.ReportLines.{report_line}

abbrev pub report_answer : List ℕ → List ℕ → List ℕ
report_answer records output =
    let o = checked_records false records output in report_line (report_verdict o) (output_left o output)
