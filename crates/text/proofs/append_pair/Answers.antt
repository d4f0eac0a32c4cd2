-- `append_pair`: the pieces, one after the other.
use native.Mathlib.Omega.{arith}
use Rattle.lines.specs.Lines.{pair_words}
use Rattle.text.proofs.Appending.{appended_text}
use Rattle.text.proofs.append_pair.Goals as goal

pub returns : goal.returns
unfolding pair_words
returns c =
    let two = appended_text c.append_with_ratio-a.ensures.0 c.append_with_ratio-b.ensures.0 in
    let three = appended_text two c.append_with_gap-c.ensures.0 in (
      appended_text three c.append_with_number.ensures.0,
      omega (
        arith,
        c.append_with_ratio-a.ensures.1,
        c.append_with_ratio-b.ensures.1,
        c.append_with_gap-c.ensures.1,
        c.append_with_number.ensures.1,
      ),
    )
