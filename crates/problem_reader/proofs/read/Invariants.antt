-- `read`: from the command at hand on the definition gives what it gives for the whole stream (`Going`).
use Prim.Native.Nat.{◌-◌}
use lib.ListN.{length}
use Rattle.problem_reader.proofs.Steps.{Going}
use Rattle.problem_reader.proofs.read.Given as goal

abbrev pub invariant-loop-at : goal.invariant-loop-at
invariant-loop-at l = Going l.s l.keys l.coefficients l.sizes l.draft.variables l.draft.last l.draft.count l.at

abbrev pub decreases-loop-at : goal.decreases-loop-at
decreases-loop-at l = length l.s - l.at
