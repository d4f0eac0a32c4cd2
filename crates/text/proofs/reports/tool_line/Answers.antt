-- `tool_line`: the pieces, one after the other.
use Rattle.lines.specs.ReportLines.{tool_line}
use Rattle.text.proofs.Appending.{appended_text}
use Rattle.text.proofs.reports.tool_line.Goals as goal

pub returns : goal.returns
unfolding tool_line
returns c =
    let two = appended_text c.append_with_number-a.ensures.0 c.append-b.ensures in
    (appended_text (appended_text two c.append_hexadecimal-c.ensures.0) c.append.ensures).bytes
