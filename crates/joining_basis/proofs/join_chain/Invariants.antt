-- `join_chain`: the pairs with the sum at the places from v on are joined.
use Rattle.joining_blocks.specs.Tables.{standing_at, SameTables}
use Rattle.joining_basis.proofs.Walking.{Walking}
use Rattle.joining_basis.proofs.join_chain.Given as goal

abbrev pub invariant-loop-v : goal.invariant-loop-v
invariant-loop-v l =
    Walking l.basis.exponents.now l.basis.keys.now l.s (standing_at l.fn.tables l.fn.start) (standing_at l.tables l.r) l.v
    × SameTables l.fn.tables l.tables

abbrev pub decreases-loop-v : goal.decreases-loop-v
decreases-loop-v l = l.v
