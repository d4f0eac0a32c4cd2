-- `check_line`: the line of the refusal, or what the check says.
use borrow.Author.Tests.{lt-ltb, le-ltb}
use Rattle.lines.specs.Lines.{check_line}
use Rattle.text.proofs.Appending.{appended_text}
use Rattle.text.proofs.check_line.Goals as goal

pub returns-then-r-gt0 : goal.returns-then-r-gt0
unfolding check_line
returns-then-r-gt0 c =
    rw (lt-ltb 0 c.args.v.refusal.number c.if-r-gt0.true) c.refusal_line.ensures

pub returns : goal.returns
unfolding check_line
returns c =
    rw (le-ltb 0 c.args.v.refusal.number c.if-r-gt0.false)
    (appended_text c.append_check-a.ensures.0 c.append-len.ensures).bytes
