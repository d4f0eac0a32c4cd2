-- `join_row`: one more pair of index i.
use borrow.Author.Rules.{rules}
use Rattle.std.proofs.Common.{sym, refl, ◌∙◌, arith}
use Rattle.joining_blocks.proofs.Grew.{grew_full}
use Rattle.joining_basis.proofs.Going.{going_ready}
use Rattle.joining_basis.proofs.InRows.{row_start, row_skip, row_hit, row_over, row_end_lem}
use Rattle.joining_basis.proofs.join_row.Goals as goal
use Rattle.joining_basis.proofs.join_row.Goals.{then-is_open+in_ok-r, else-is_open}

pub loop-k-init : goal.loop-k-init
loop-k-init c = (row_start _ _ _ c.requires.0 c.args.i c.requires.1, search rules)

pub is_open-requires : goal.is_open-requires
is_open-requires c =
    let few = c.requires.0.blocks.few in
    let r = going_ready _ _ _ _ _ c.loop-k.invariant.0.going in
    (r.basis, r.until, r.blocks.size, omega arith, omega arith)

pub join_two-requires : goal.join_two-requires
join_two-requires c =
    let few = c.requires.0.blocks.few in
    (going_ready _ _ _ _ _ c.loop-k.invariant.0.going, omega arith, omega arith)

pub returns-in_err-r-clause-grew : goal.returns-in_err-r-clause-grew
returns-in_err-r-clause-grew c =
    let over = row_over _ _ _ c.requires.0 c.args.i c.requires.1 _ c.loop-k.k c.loop-k.invariant.0 c.loop-k-test.true
    (sym c.is_open.ensures ∙ c.if-is_open.true) _ c.in_err-r.ensures.grew (omega arith) in
    (grew_full _ _ _ _ _ _ _ _ _ _ over refl _ c.from_residual.ensures.0).0

pub loop-k-preserved : goal.loop-k-preserved
loop-k-preserved c =
    let i = c.args.i in
    let k = c.loop-k.k in
    let v = c.loop-k.invariant.0 in
    let h = c.loop-k-test.true in
    elim c.if-is_open.branch [
      | then-is_open+in_ok-r w ↦ rw (w.tables-is, w.r-is)
          (row_hit _ _ _ c.requires.0 i c.requires.1 _ k v h (sym c.is_open.ensures ∙ w.if-is_open.true) _ w.in_ok-r.ensures.grew w.in_ok-r.ensures.room, search rules)
      | else-is_open w ↦ rw (w.tables-is, w.r-is)
          (row_skip _ _ _ c.requires.0 i c.requires.1 _ k v h (sym c.is_open.ensures ∙ w.if-is_open.false), c.loop-k.invariant.1)
    ]

pub returns-clause-grew : goal.returns-clause-grew
returns-clause-grew c =
    row_end_lem _ _ _ c.requires.0 c.args.i c.requires.1 _ c.loop-k.k c.loop-k.invariant.0 c.loop-k-test.false
