-- `validate`: what the loop keeps is the header, the progress and the rows' offsets of the certificate read so far, against every problem
-- with the sizes.
use Prim.Native.Nat.{◌-◌}
use lib.ListN.{length}
use Rattle.certificate_reader.proofs.Kept.{HeldFor}
use Rattle.certificate_reader.proofs.validate.Given as goal

abbrev pub invariant-loop-at : goal.invariant-loop-at
invariant-loop-at l = HeldFor l.sizes l.s l.header l.progress l.starts l.at

abbrev pub decreases-loop-at : goal.decreases-loop-at
decreases-loop-at l = length l.s - l.at
