-- `answer_symmetries`: the line of the verdict and the bytes, with tables of 2,048 numbers and 256 bytes.
use Rattle.std.proofs.Common.{◌≡◌, ◌∙◌, List, ℕ}
use Rattle.calls.specs.declared.SymmetriesVerdict.{SymmetriesVerdict}
use Rattle.calls.specs.Symmetries.{symmetries_short}
use Rattle.lines.specs.Lines.{symmetries_line}
use Rattle.replay.proofs.answer_symmetries.Goals as goal

-- equal verdicts and bytes have equal lines
same_line : {v w : SymmetriesVerdict} {a b : List ℕ} → v ≡ w → a ≡ b → symmetries_line v a ≡ symmetries_line w b
same_line p q = cc

pub returns : goal.returns
unfolding symmetries_short
returns c = c.symmetries_line.ensures ∙ same_line c.symmetries-v.ensures.verdict c.symmetries-v.ensures.bytes
