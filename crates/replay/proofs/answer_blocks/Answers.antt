-- `answer_blocks`: the line of the verdict and the bytes, with tables of 2,048 numbers and 576 bytes.
use Rattle.std.proofs.Common.{◌≡◌, ◌∙◌, List, ℕ}
use Rattle.calls.specs.declared.BlocksVerdict.{BlocksVerdict}
use Rattle.calls.specs.Blocks.{blocks_short}
use Rattle.lines.specs.Lines.{blocks_line}
use Rattle.replay.proofs.answer_blocks.Goals as goal

-- equal verdicts and bytes have equal lines
same_line : {v w : BlocksVerdict} {a b : List ℕ} → v ≡ w → a ≡ b → blocks_line v a ≡ blocks_line w b
same_line p q = cc

pub returns : goal.returns
unfolding blocks_short
returns c = c.blocks_line.ensures ∙ same_line c.blocks-v.ensures.verdict c.blocks-v.ensures.bytes
