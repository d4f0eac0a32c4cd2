-- `join_tables`: one block joins nothing, a small basis joins by its pairs, another one by the members that came last.
use Rattle.joining_blocks.proofs.Grew.{has_few, grew_same}
use Rattle.joining_basis.proofs.Latest.{members_all}
use Rattle.joining_basis.proofs.join_tables.Goals as goal

pub returns-then-r-lt2-clause-grew : goal.returns-then-r-lt2-clause-grew
returns-then-r-lt2-clause-grew c =
    let r = c.requires.ready in
    grew_same _ _ _ _ r (has_few _ _ _ _ r c.if-r-lt2.true)

pub returns-clause-grew : goal.returns-clause-grew
returns-clause-grew c = members_all _ _ _ c.requires.recent _ c.join_members.ensures.grew
