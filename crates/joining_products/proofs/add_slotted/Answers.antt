-- `joining_products::add_slotted` meets its contract.
use Rattle.std.proofs.Common.{◌+◌, ◌∙◌, arith}
use lib.ListN.{drop}
use Rattle.joining_rule.specs.Extend.{add_terms}
use Rattle.joining_rule.proofs.Extending.{insert_extends, add_extends}
use Rattle.joining_products.proofs.Growing.{growing_step, growing_full, growing_end, add_next, add_done}
use Rattle.joining_products.proofs.add_slotted.Goals as goal

pub returns-in_err-n : goal.returns-in_err-n
returns-in_err-n c =
    let left = drop (c.loop-i.i + 1) c.args.exponents.now in
    growing_full _ _ _ _ _ _ _ c.loop-i.invariant.0 _ _ _ c.in_err-n.ensures.0 (add_terms left c.args.s)
    (add_next c.args.exponents.now c.args.s _ c.loop-i.i (omega arith)) (add_extends left c.args.s _) _ c.from_residual.ensures.0

pub loop-i-preserved : goal.loop-i-preserved
loop-i-preserved c =
    let e = c.in_ok-n.ensures in (
      growing_step _ _ _ _ _ _ _ c.loop-i.invariant.0 _ _ _ _ e.0 _ (add_next c.args.exponents.now c.args.s _ c.loop-i.i (omega arith)) e.1 (insert_extends _ _),
      e.2 ∙ c.loop-i.invariant.1,
    )

pub returns : goal.returns
returns c =
    let g = c.loop-i.invariant.0 in
    (growing_end _ _ _ _ _ _ _ g (add_done _ _ _ c.loop-i.i (omega arith)), g.holds.few)
