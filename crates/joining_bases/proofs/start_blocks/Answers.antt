-- One more basis is numbered.
use Rattle.std.proofs.Common.{arith}
use Rattle.joining_bases.proofs.Labels.{numbering_start, numbering_turn}
use Rattle.joining_bases.proofs.start_blocks.Goals as goal

pub loop-j-init : goal.loop-j-init
loop-j-init c = rw c.requires.1 (numbering_start _)

pub loop-j-preserved : goal.loop-j-preserved
loop-j-preserved c = numbering_turn _ c.loop-j.j _ c.loop-j.invariant c.requires.0 _ (omega arith) c.number.ensures
