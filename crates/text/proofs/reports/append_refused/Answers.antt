-- `append_refused`: the fields, one after the other.
use native.Mathlib.Omega.{arith}
use Rattle.lines.specs.ReportLines.{refused_words}
use Rattle.text.proofs.Appending.{appended_text}
use Rattle.text.proofs.reports.append_refused.Goals as goal

pub returns : goal.returns
unfolding refused_words
returns c =
    let two = appended_text c.append_with_number-a.ensures.0 (rw c.field_at.ensures.0 at c.append_with_number-b.ensures.0) in
    let three = appended_text two (rw c.field_at-2.ensures.0 at c.append_with_number-c.ensures.0) in (
      appended_text three (rw c.field_at-3.ensures.0 at c.append_with_number.ensures.0),
      omega (arith, c.append_with_number-a.ensures.1, c.append_with_number-b.ensures.1, c.append_with_number-c.ensures.1, c.append_with_number.ensures.1),
    )
