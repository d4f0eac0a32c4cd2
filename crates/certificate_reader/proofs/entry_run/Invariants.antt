-- `entry_run`: the entries before the offset are read, none of them refused.
use Prim.Native.Nat.{◌-◌}
use lib.ListN.{length}
use Rattle.certificate_commands.specs.Kept.{ProgressWithin}
use Rattle.certificate_reader.specs.Verdicts.{EntriesRead}
use Rattle.certificate_reader.proofs.entry_run.Given as goal

abbrev pub invariant-loop-entry : goal.invariant-loop-entry
invariant-loop-entry l = ProgressWithin l.progress × EntriesRead l.sizes l.s l.initial.progress l.from l.progress l.at

abbrev pub decreases-loop-entry : goal.decreases-loop-entry
decreases-loop-entry l = length l.s - l.at
