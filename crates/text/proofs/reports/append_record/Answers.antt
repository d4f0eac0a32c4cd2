-- `append_record`: the number, the words and the end of the line.
use native.Mathlib.Omega.{arith}
use Rattle.lines.specs.ReportLines.{record_line}
use Rattle.text.proofs.Appending.{appended_text}
use Rattle.text.proofs.reports.append_record.Goals as goal

pub returns : goal.returns
unfolding record_line
returns c = (
  appended_text (appended_text c.append_number-a.ensures.0 c.append_record_words-b.ensures.0) c.append.ensures,
  omega (arith, c.append_number-a.ensures.1, c.append_record_words-b.ensures.1, c.append.ensures.ends),
)
