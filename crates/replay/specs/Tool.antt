-- Kind x: the call for a C program with an output, and the line for it.
use Rattle.std.specs.Prelude.{List, ℕ}
use Rattle.calls.specs.Report.{three_runs}
use Rattle.calls.specs.BidTool.{tool_number, tool_bytes}
use Rattle.lines.specs.ReportLines.{tool_line}

abbrev pub tool_answer : List ℕ → List ℕ → List ℕ → List ℕ → List ℕ
tool_answer problem low high output =
    let r = three_runs problem low high in tool_line (tool_number output r) (tool_bytes output r)
