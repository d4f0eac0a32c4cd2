-- `append_bounds`: one after the other.
use native.Mathlib.Omega.{arith}
use Rattle.lines.specs.ReportLines.{bounds_words}
use Rattle.text.proofs.Appending.{appended_text}
use Rattle.text.proofs.reports.append_bounds.Goals as goal

pub returns : goal.returns
unfolding bounds_words
returns c = (
  appended_text c.append_with_ratio-a.ensures.0 c.append_with_ratio.ensures.0,
  omega (arith, c.append_with_ratio-a.ensures.1, c.append_with_ratio.ensures.1),
)
