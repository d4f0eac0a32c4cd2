-- `append_refusal`: the pieces, one after the other.
use Rattle.lines.specs.Lines.{refusal_line}
use Rattle.text.proofs.Appending.{appended_text}
use Rattle.text.proofs.append_refusal.Goals as goal

pub returns : goal.returns
unfolding refusal_line
returns c =
    let two = appended_text c.append_with_number-a.ensures.0 c.append_with_number-b.ensures.0 in
    let three = appended_text two c.append_with_number-c.ensures.0 in
    let four = appended_text three c.append_with_number-d.ensures.0 in
    (appended_text four c.append.ensures).bytes
