-- `joining_products::add_squares` meets its contract.
use Rattle.std.proofs.Common.{◌+◌, ◌*◌, arith}
use lib.ListN.{length, get_or}
use Rattle.counting.specs.Counting.{from_to}
use Rattle.counting.proofs.Steps.{from_to_done, from_to_more}
use Rattle.joining_rule.specs.Extend.{add_terms}
use Rattle.joining_rule.proofs.Extending.{add_extends, from_to_extends}
use Rattle.joining_products.specs.Adding.{add_squares}
use Rattle.joining_products.proofs.Growing.{growing_start, growing_step, growing_full, growing_anew, growing_end}
use Rattle.joining_products.proofs.add_squares.Goals as goal

pub loop-b-init : goal.loop-b-init
unfolding add_squares
loop-b-init c = growing_start _ _ _ _ c.requires.support c.requires.index

pub returns-in_err-n : goal.returns-in_err-n
returns-in_err-n c =
    let B = c.args.basis.keys.now in
    let b = c.loop-b.b-index in
    growing_full _ _ _ _ _ _ _ c.loop-b.invariant _ _ _ c.in_err-n.ensures.0 (from_to (b + 1) (length B) (λ j. add_terms c.args.basis.exponents.now (2 * get_or B j 0)))
    (from_to_more b _ _ _ (omega arith)) (from_to_extends _ (λ j. add_extends c.args.basis.exponents.now (2 * get_or B j 0)) (b + 1) _ _) _ c.from_residual.ensures.0

pub loop-b-preserved : goal.loop-b-preserved
loop-b-preserved c =
    growing_step _ _ _ _ _ _ _ c.loop-b.invariant _ _ _ _ c.in_ok-n.ensures.0 _ (from_to_more c.loop-b.b-index _ _ _ (omega arith)) c.in_ok-n.ensures.1
    (add_extends c.args.basis.exponents.now (2 * get_or c.args.basis.keys.now c.loop-b.b-index 0) _)

pub returns : goal.returns
returns c =
    let g = c.loop-b.invariant in
    (growing_end _ _ _ _ _ _ _ (growing_anew _ _ _ _ _ _ _ g _ c.shorten.ensures) (from_to_done c.loop-b.b-index _ _ _ (omega arith)), g.holds.few)
