-- `joining_products::add_terms` meets its contract.
use Rattle.std.proofs.Common.{◌+◌, arith}
use lib.ListN.{drop}
use Rattle.joining_rule.specs.Extend.{add_terms}
use Rattle.joining_rule.proofs.Extending.{insert_extends, add_extends}
use Rattle.joining_products.proofs.Growing.{growing_step, growing_full, growing_end, add_next, add_done}
use Rattle.joining_products.proofs.add_terms.Goals as goal

pub returns-in_err-n : goal.returns-in_err-n
returns-in_err-n c =
    let left = drop (c.loop-t.t-index + 1) c.args.exponents.now in
    growing_full _ _ _ _ _ _ _ c.loop-t.invariant _ _ _ c.in_err-n.ensures.0 (add_terms left c.args.s)
    (add_next c.args.exponents.now c.args.s _ c.loop-t.t-index (omega arith)) (add_extends left c.args.s _) _ c.from_residual.ensures.0

pub loop-t-preserved : goal.loop-t-preserved
loop-t-preserved c =
    growing_step _ _ _ _ _ _ _ c.loop-t.invariant _ _ _ _ c.in_ok-n.ensures.0 _ (add_next c.args.exponents.now c.args.s _ c.loop-t.t-index (omega arith))
    c.in_ok-n.ensures.1 (insert_extends _ _)

pub returns : goal.returns
returns c =
    let g = c.loop-t.invariant in
    (growing_end _ _ _ _ _ _ _ g (add_done _ _ _ c.loop-t.t-index (omega arith)), g.holds.few)
