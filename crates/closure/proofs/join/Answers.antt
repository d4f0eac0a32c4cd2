-- `closure::join` meets its contract: what is computed of the arrays is the problem's.
use Rattle.std.proofs.Common.{arith}
use Rattle.key_set.specs.Table.{Grown}
use Rattle.key_set.proofs.Keys.{grown_holds}
use Rattle.joining_rule.specs.Rounds.{most_rounds}
use Rattle.joining_rule.specs.Joining.{bases_of, start_set, closing}
use Rattle.joining_rule.proofs.Bound.{most_positive}
use Rattle.closure.proofs.Settled.{start_large, left_full, left_from}
use Rattle.closure.proofs.Laid.{arrays, start_held, closing_held, counted_held}
use Rattle.closure.proofs.join.Goals as goal

pub returns-in_err-seed : goal.returns-in_err-seed
unfolding closing
returns-in_err-seed c p coefficients f =
    let g = c.in_err-seed.ensures.0.grown in
    let h : Grown (start_set p) _ _ _ = rw (start_held p _ coefficients _ f) at g in
    left_full _ _ _ _ _ _ (start_large p.rule (most_rounds p.order) (bases_of p) (start_set p) _ _ _ h (omega arith)) g.long g.rest _ c.from_residual.ensures.0

pub settle-requires : goal.settle-requires
settle-requires c =
    let w = c.in_ok-seed.ensures in
    record {
      held = record { support = grown_holds w.0.grown c.requires.0 w.1; index = w.0.index w.1; arrays = arrays _ _ c.requires.2 };
      some = rw c.most_rounds.ensures (most_positive _);
    }

pub returns : goal.returns
returns c p coefficients f =
    let w = c.in_ok-seed.ensures in
    let e = closing_held p _ coefficients _ f _ _ c.most_rounds.ensures (w.0.grown.keys w.1) in
    left_from _ _ _ _ _ _ (bases_of p) (counted_held p _ coefficients _ f (closing p).state) _ w.0.grown.long w.0.grown.rest _ (rw e at c.settle.ensures)
