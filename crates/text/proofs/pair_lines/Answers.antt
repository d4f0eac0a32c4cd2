-- `pair_lines`: the line of the refusal, or the pieces, one after the other.
use borrow.Author.Tests.{lt-ltb, le-ltb}
use Rattle.lines.specs.Lines.{pair_lines}
use Rattle.text.proofs.Appending.{appended_text}
use Rattle.text.proofs.pair_lines.Goals as goal

pub returns-then-r-gt0 : goal.returns-then-r-gt0
unfolding pair_lines
returns-then-r-gt0 c =
    rw (lt-ltb 0 c.args.v.refusal.number c.if-r-gt0.true) c.refusal_line.ensures

pub returns : goal.returns
unfolding pair_lines
returns c =
    let whole = appended_text c.append_pair-a.ensures.0 c.append-len.ensures in
    rw (le-ltb 0 c.args.v.refusal.number c.if-r-gt0.false) whole.bytes
