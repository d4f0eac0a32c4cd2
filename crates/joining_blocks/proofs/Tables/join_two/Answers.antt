-- `joining_blocks::Tables::join_two` meets its contract: where the blocks are two, the lower number goes first.
use Rattle.joining_blocks.proofs.Grew.{grew_same}
use Rattle.joining_blocks.proofs.Merged.{two_same, two_grew, two_turned}
use Rattle.joining_blocks.proofs.Tables.join_two.Goals as goal
use Rattle.joining_blocks.proofs.Tables.join_two.Goals.{then-a-b-2, else-a-b-2}

pub returns-then-a-b-clause-grew : goal.returns-then-a-b-clause-grew
returns-then-a-b-clause-grew c =
    let q = c.requires in
    grew_same _ _ _ _ q.0 (two_same _ _ _ q.0 _ _ q.1 q.2 c.if-a-b.true)

pub returns-clause-grew : goal.returns-clause-grew
returns-clause-grew c =
    let q = c.requires in
    let e = c.merge.ensures.grew in
    elim c.if-a-b-2.branch [
      | then-a-b-2 w ↦ two_grew _ _ _ q.0 _ _ q.1 q.2 _ (rw w.m-is at e)
      | else-a-b-2 w ↦ two_turned _ _ _ _ _ _ q.2 q.1 (two_grew _ _ _ q.0 _ _ q.2 q.1 _ (rw w.m-is at e))
    ]
