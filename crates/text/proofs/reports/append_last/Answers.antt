-- `append_last`: the pieces, one after the other.
use Rattle.lines.specs.ReportLines.{last_line}
use Rattle.text.proofs.Appending.{appended_text}
use Rattle.text.proofs.reports.append_last.Goals as goal

pub returns : goal.returns
unfolding last_line
returns c =
    appended_text (appended_text c.append_with_number-a.ensures.0 c.append_bounds-b.ensures.0) c.append.ensures
