-- `sum_line`: the line of the refusal, or the pieces, one after the other.
use borrow.Author.Tests.{lt-ltb, le-ltb}
use Rattle.lines.specs.SumLines.{sum_line}
use Rattle.text.proofs.Appending.{appended_text}
use Rattle.text.proofs.sum_line.Goals as goal

pub returns-then-r-gt0 : goal.returns-then-r-gt0
unfolding sum_line
returns-then-r-gt0 c =
    rw (lt-ltb 0 c.args.v.refusal.number c.if-r-gt0.true) c.refusal_line.ensures

pub returns : goal.returns
unfolding sum_line
returns c =
    let two = appended_text c.append_with_ratio-a.ensures.0 c.append_with_ratio-b.ensures.0 in
    let three = appended_text two c.append_with_number-c.ensures.0 in
    let four = appended_text three c.append_with_number-d.ensures.0 in
    rw (le-ltb 0 c.args.v.refusal.number c.if-r-gt0.false) (appended_text four c.append-len.ensures).bytes
