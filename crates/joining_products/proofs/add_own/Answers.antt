-- `joining_products::add_own` meets its contract.
use Rattle.std.proofs.Common.{◌+◌, sym, ap, ◌∙◌, arith}
use lib.ListN.{length}
use Rattle.counting.specs.Counting.{from_to}
use Rattle.counting.proofs.Steps.{from_to_done, from_to_more}
use Rattle.joining_rule.specs.Extend.{add_pair}
use Rattle.joining_rule.proofs.Extending.{add_extends, rest_of_row_extends}
use Rattle.joining_products.proofs.Growing.{growing_skip, growing_step, growing_full, growing_anew, growing_end, one_same, one_apart}
use Rattle.joining_products.proofs.add_own.Goals as goal
use Rattle.joining_products.proofs.add_own.Goals.{then-labels-i+in_ok-n, else-labels-i}

pub returns-in_err-n : goal.returns-in_err-n
returns-in_err-n c =
    let T = c.args.basis.exponents.now in
    let B = c.args.basis.keys.now in
    let L = c.args.labels.now in
    let k = c.loop-k.k in
    let f = from_to (k + 1) (length B) (add_pair T B L c.args.i) in
    growing_full _ _ _ _ _ _ _ c.loop-k.invariant _ _ _ c.in_err-n.ensures.0 f
    (from_to_more k _ _ _ (omega arith) ∙ ap f (sym (one_same T B L c.args.i k _ c.if-labels-i.true))) (rest_of_row_extends T B L c.args.i (k + 1) _) _
    c.from_residual.ensures.0

pub loop-k-preserved : goal.loop-k-preserved
loop-k-preserved c =
    let T = c.args.basis.exponents.now in
    let B = c.args.basis.keys.now in
    let L = c.args.labels.now in
    let k = c.loop-k.k in
    let f = from_to (k + 1) (length B) (add_pair T B L c.args.i) in
    let m = from_to_more k (length B) (add_pair T B L c.args.i) _ (omega arith) in
    elim c.if-labels-i.branch [
      | then-labels-i+in_ok-n w ↦ rw (w.table-is, w.index-is, w.n-is)
          (growing_step _ _ _ _ _ _ _ c.loop-k.invariant _ _ _ _ w.in_ok-n.ensures.0 _ (m ∙ ap f (sym (one_same T B L c.args.i k _ w.if-labels-i.true))) w.in_ok-n.ensures.1 (add_extends T _ _))
      | else-labels-i w ↦ rw (w.table-is, w.index-is, w.n-is)
          (growing_skip _ _ _ _ _ _ _ c.loop-k.invariant _ (m ∙ ap f (sym (one_apart T B L c.args.i k _ w.if-labels-i.false))))
    ]

pub returns : goal.returns
returns c =
    let g = c.loop-k.invariant in
    (growing_end _ _ _ _ _ _ _ (growing_anew _ _ _ _ _ _ _ g _ c.shorten.ensures) (from_to_done c.loop-k.k _ _ _ (omega arith)), g.holds.few)
