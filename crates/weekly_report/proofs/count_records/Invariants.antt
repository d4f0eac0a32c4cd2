-- `count_records`: what is left from the offset gives the count.
use Rattle.std.proofs.Common.{◌-◌, length}
use Rattle.weekly_report.proofs.Counts.{Counting}
use Rattle.weekly_report.proofs.count_records.Given as goal

abbrev pub invariant-loop-at : goal.invariant-loop-at
invariant-loop-at l = Counting l.s l.at l.count

abbrev pub decreases-loop-at : goal.decreases-loop-at
decreases-loop-at l = length l.s - l.at
