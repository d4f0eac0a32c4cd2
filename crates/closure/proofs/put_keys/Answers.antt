-- `closure::put_keys` meets its contract.
use Rattle.std.proofs.Common.{◌+◌, drop, arith}
use Rattle.joining_rule.specs.Sets.{insert_all}
use Rattle.joining_rule.specs.Joining.{multiples}
use Rattle.joining_rule.proofs.Extending.{insert_extends}
use Rattle.joining_rule.proofs.Start.{insert_all_extends}
use Rattle.joining_products.proofs.Growing.{growing_step, growing_full, growing_end}
use Rattle.closure.proofs.Start.{insert_next, insert_done, product_fits}
use Rattle.closure.proofs.put_keys.Goals as goal

pub overflow_mul-factor : goal.overflow_mul-factor
overflow_mul-factor c = record { fits = product_fits c.args.factor _ c.requires.2 (c.requires.1 c.loop-key.key-index) }

pub returns-in_err-n : goal.returns-in_err-n
returns-in_err-n c =
    let left = multiples c.args.factor (drop (c.loop-key.key-index + 1) c.args.keys.now) in
    growing_full _ _ _ _ _ _ _ c.loop-key.invariant _ _ _ c.in_err-n.ensures.0 (insert_all left)
    (insert_next c.args.factor c.args.keys.now _ c.loop-key.key-index (omega arith)) (insert_all_extends left _) _ c.from_residual.ensures.0

pub loop-key-preserved : goal.loop-key-preserved
loop-key-preserved c =
    growing_step _ _ _ _ _ _ _ c.loop-key.invariant _ _ _ _ c.in_ok-n.ensures.0 _ (insert_next c.args.factor c.args.keys.now _ c.loop-key.key-index (omega arith))
    c.in_ok-n.ensures.1 (insert_extends _ _)

pub returns : goal.returns
returns c =
    let g = c.loop-key.invariant in
    (growing_end _ _ _ _ _ _ _ g (insert_done c.args.factor c.args.keys.now _ c.loop-key.key-index (omega arith)), g.holds.few)
