-- `joining_products::add_blocks` meets its contract.
use Rattle.std.proofs.Common.{◌+◌, arith}
use lib.ListN.{length}
use Rattle.counting.specs.Counting.{from_to}
use Rattle.counting.proofs.Steps.{from_to_done, from_to_more}
use Rattle.joining_rule.specs.Extend.{add_row, extend}
use Rattle.joining_rule.proofs.Extending.{rest_of_row_extends, rest_extends}
use Rattle.joining_products.proofs.Growing.{growing_start, growing_step, growing_full, growing_end}
use Rattle.joining_products.proofs.add_blocks.Goals as goal

pub loop-i-init : goal.loop-i-init
unfolding extend
loop-i-init c = growing_start _ _ _ _ c.requires.0.support c.requires.0.index

pub returns-in_err-n : goal.returns-in_err-n
returns-in_err-n c =
    let T = c.args.basis.exponents.now in
    let B = c.args.basis.keys.now in
    let L = c.args.labels.now in
    let i = c.loop-i.i in
    growing_full _ _ _ _ _ _ _ c.loop-i.invariant _ _ _ c.in_err-n.ensures.0 (from_to (i + 1) (length B) (add_row T B L))
    (from_to_more i _ _ _ (omega arith)) (rest_extends T B L (i + 1) _) _ c.from_residual.ensures.0

pub loop-i-preserved : goal.loop-i-preserved
loop-i-preserved c =
    let i = c.loop-i.i in
    growing_step _ _ _ _ _ _ _ c.loop-i.invariant _ _ _ _ c.in_ok-n.ensures.0 _ (from_to_more i _ _ _ (omega arith)) c.in_ok-n.ensures.1
    (rest_of_row_extends c.args.basis.exponents.now c.args.basis.keys.now c.args.labels.now i i _)

pub returns : goal.returns
returns c =
    let g = c.loop-i.invariant in
    (growing_end _ _ _ _ _ _ _ g (from_to_done c.loop-i.i _ _ _ (omega arith)), g.holds.few)
