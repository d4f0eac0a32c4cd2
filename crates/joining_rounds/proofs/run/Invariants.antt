-- `joining_rounds::run`: those rounds that are left lead to the outcome.
use Rattle.key_set.specs.Table.{keys_in}
use Rattle.joining_rule.specs.Rounds.{closing_of}
use Rattle.joining_bases.specs.Parts.{bases_in}
use Rattle.joining_bases.specs.Nine.{nine, stage}
use Rattle.joining_rounds.proofs.Running.{Running}
use Rattle.joining_rounds.proofs.run.Given as goal

abbrev pub invariant-loop-rounds : goal.invariant-loop-rounds
invariant-loop-rounds l =
    Running l.fn.support.rule l.fn.support.most (closing_of l.fn.support.rule l.fn.support.most (bases_in l.keys l.sizes) (keys_in l.fn.support.len l.initial.table)) l.initial.len l.initial.table l.keys l.sizes
    (nine l.labels l.follow l.pairs l.table l.index l.state (stage l.since l.until l.len l.adding)) l.rounds l.left
