-- `append_with_gap`: the word, and that the gap is empty or the fraction.
use native.Mathlib.Omega.{arith}
use Rattle.lines.specs.Lines.{gap_word}
use Rattle.text.proofs.Appending.{appended_text}
use Rattle.text.proofs.append_with_gap.Goals as goal

pub returns-then-empty : goal.returns-then-empty
unfolding gap_word
returns-then-empty c = (
  rw c.if-empty.true (appended_text c.append-a.ensures c.append.ensures),
  omega (arith, c.append-a.ensures.ends, c.append.ensures.ends),
)

pub returns : goal.returns
unfolding gap_word
returns c = let p = c in rw p.if-empty.false p.append_with_ratio.ensures
