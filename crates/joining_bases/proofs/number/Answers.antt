-- One more number is in place.
use Rattle.std.proofs.Common.{refl, arith}
use Rattle.counting.specs.Counting.{listed}
use Rattle.counting.proofs.Listed.{fill_more}
use Rattle.joining_bases.proofs.number.Goals as goal

pub loop-i-init : goal.loop-i-init
unfolding listed
loop-i-init c = refl

pub loop-i-preserved : goal.loop-i-preserved
loop-i-preserved c = fill_more _ c.loop-i.part c.loop-i.i _ (omega arith) refl c.loop-i.invariant
