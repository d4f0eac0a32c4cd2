-- `append_arrival`: the word, and the number of the refusal or the fraction and the age.
use borrow.Author.Tests.{lt-ltb, le-ltb}
use native.Mathlib.Omega.{arith}
use Rattle.lines.specs.Lines.{arrival_word}
use Rattle.text.proofs.Appending.{appended_text}
use Rattle.text.proofs.append_arrival.Goals as goal

pub returns-then-r-gt0 : goal.returns-then-r-gt0
unfolding arrival_word
returns-then-r-gt0 c = (
  rw (lt-ltb _ _ c.if-r-gt0.true) (appended_text c.append-a.ensures c.append_number.ensures.0),
  omega (arith, c.append-a.ensures.ends, c.append_number.ensures.1),
)

pub returns : goal.returns
unfolding arrival_word
returns c = (
  rw (le-ltb _ _ c.if-r-gt0.false)
      (appended_text c.append-a.ensures
      (appended_text c.append_ratio-b.ensures.0 c.append_with_number.ensures.0)),
  omega (arith, c.append-a.ensures.ends, c.append_ratio-b.ensures.1, c.append_with_number.ensures.1),
)
