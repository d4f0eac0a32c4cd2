-- `tighter_line`: the line of the refusal, or the word and the digits.
use borrow.Author.Tests.{lt-ltb, le-ltb}
use Rattle.lines.specs.Lines.{tighter_line}
use Rattle.text.proofs.Appending.{appended_text}
use Rattle.text.proofs.tighter_line.Goals as goal

pub returns-then-number-gt0 : goal.returns-then-number-gt0
unfolding tighter_line
returns-then-number-gt0 c =
    rw (lt-ltb _ _ c.if-number-gt0.true) c.append_refusal.ensures

pub returns : goal.returns
unfolding tighter_line
returns c =
    let two = appended_text c.append-a.ensures c.append_hexadecimal-b.ensures.0 in
    rw (le-ltb _ _ c.if-number-gt0.false) (appended_text two c.append.ensures).bytes
