-- `joining_blocks::Tables::merge` meets its contract: in both branches the support is that of the blocks made one.
use Rattle.std.proofs.Common.{refl, ◌∙◌, arith}
use Rattle.joining_blocks.proofs.Grew.{grew_full}
use Rattle.joining_blocks.proofs.Merged.{some_left, merge_adds, merge_only, merge_full, merge_grew}
use Rattle.joining_blocks.proofs.Tables.merge.Goals as goal
use Rattle.joining_blocks.proofs.Tables.merge.Goals.{then-r+in_ok-len, else-r}

pub returns-in_err-len-clause-grew : goal.returns-in_err-len-clause-grew
returns-in_err-len-clause-grew c =
    let r = c.requires in
    let g = merge_adds _ _ _ r.0 c.args.m.a c.args.m.b r.1 c.if-r.true _ _ _ _ c.in_err-len.ensures.0 in
    (grew_full _ _ _ _ _ _ _ _ _ _ (merge_full _ _ _ r.0 c.args.m.a c.args.m.b r.1 _ _ _ g) refl _ c.from_residual.ensures.0).0

pub overflow_sub-result : goal.overflow_sub-result
overflow_sub-result c = some_left _ _ _ c.requires.0 (omega (arith, c.requires.1.inside, c.requires.0.blocks.size))

pub returns-clause-grew : goal.returns-clause-grew
returns-clause-grew c =
    let r = c.requires in
    let m = c.args.m in
    let e = c.splice in
    elim c.if-r.branch [
      | then-r+in_ok-len w ↦ rw (w.self-is, w.len-is)
          (merge_grew _ _ _ r.0 m.a m.b r.1 _ _ _ _ _ _ (merge_adds _ _ _ r.0 m.a m.b r.1 w.if-r.true _ _ _ _ w.in_ok-len.ensures.0)
          e.auto.labels (e.auto.follow ∙ r.0.blocks.long) e.ensures.0 e.ensures.1)
      | else-r w ↦ rw (w.self-is, w.len-is)
          (merge_grew _ _ _ r.0 m.a m.b r.1 _ _ _ _ _ _ (merge_only _ _ _ r.0 m.a m.b r.1 w.if-r.false)
          e.auto.labels (e.auto.follow ∙ r.0.blocks.long) e.ensures.0 e.ensures.1)
    ]
