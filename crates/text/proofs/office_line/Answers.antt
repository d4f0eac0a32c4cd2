-- `office_line`: the line of the refusal, or the pieces, one after the other.
use borrow.Author.Tests.{lt-ltb, le-ltb}
use Rattle.lines.specs.Lines.{office_line}
use Rattle.text.proofs.Appending.{appended_text}
use Rattle.text.proofs.office_line.Goals as goal

pub returns-then-r-gt0 : goal.returns-then-r-gt0
unfolding office_line
returns-then-r-gt0 c =
    rw (lt-ltb 0 c.args.v.check.refusal.number c.if-r-gt0.true) c.append_refusal.ensures

pub returns : goal.returns
unfolding office_line
returns c =
    let two = appended_text c.append_check-a.ensures.0 c.append_with_number-b.ensures.0 in
    let four = appended_text (appended_text two c.append-c.ensures) c.append_hexadecimal-d.ensures.0 in
    rw (le-ltb 0 c.args.v.check.refusal.number c.if-r-gt0.false)
    (appended_text four c.append.ensures).bytes
