-- `answer_records`: after i records what is written and counted is theirs, and what is left gives the rest.
use Rattle.std.proofs.Common.{◌-◌, length}
use Rattle.calls.specs.Tables.{tables}
use Rattle.weekly_report.proofs.Answers.{Answering}
use Rattle.weekly_report.proofs.answer_records.Given as goal

abbrev pub invariant-loop-end : goal.invariant-loop-end
invariant-loop-end l =
    Answering l.s l.initial.out (tables l.initial.keys l.initial.high l.initial.low) l.out (tables l.keys l.high l.low) l.t l.at l.i

abbrev pub decreases-loop-end : goal.decreases-loop-end
decreases-loop-end l = length l.s - l.at
