-- `closure::settle` meets its contract: the rounds, the products that may be missing and the zero exponent, one growth of
-- the table after another.
use Rattle.std.proofs.Common.{arith}
use Rattle.key_set.specs.Table.{keys_in}
use Rattle.key_set.proofs.Keys.{grown_holds}
use Rattle.closure.proofs.Settled.{labels_held, products_held, close_large, products_large, products_long, products_rest, put_large, put_small, len_is, put_keys, put_long, put_rest, left_full}
use Rattle.closure.proofs.settle.Goals as goal

pub returns-in_err-c : goal.returns-in_err-c
returns-in_err-c c =
    let w = c.in_err-c.ensures in
    left_full _ _ _ _ _ _ (close_large _ _ _ _ _ _ _ _ w) w.stored.grown.long w.stored.grown.rest _ c.from_residual.ensures.0

pub put_missing-requires : goal.put_missing-requires
put_missing-requires c =
    let s = c.args in
    let w = c.in_ok-c.ensures in
    products_held s.support.rule s.support.most s.keys.now s.sizes.now c.requires.held.arrays (keys_in s.support.len s.table.now) _ w.labels c.requires.some _ _ _
    (grown_holds w.stored.grown c.requires.held.support.room w.few) (w.stored.index w.few) (w.stored.grown.keys w.few)

pub returns-in_err-n : goal.returns-in_err-n
returns-in_err-n c =
    let s = c.args in
    let w = c.in_ok-c.ensures in
    let k = c.in_err-n.ensures.0 in
    let e = labels_held s.support.rule s.support.most s.keys.now s.sizes.now c.requires.held.arrays (keys_in s.support.len s.table.now) _ w.labels in
    left_full _ _ _ _ _ _ (products_large _ _ _ _ _ _ _ _ w _ e _ _ _ k (omega arith)) (products_long _ _ _ _ _ _ _ _ w _ e _ _ _ k) (products_rest _ _ _ _ _ _ _ _ w _ e _ _ _ k) _ c.from_residual-in_err-n.ensures.0

pub put_last-requires : goal.put_last-requires
put_last-requires c =
    let k = c.in_ok-n.ensures in
    (grown_holds k.0.grown (omega (arith, c.in_ok-c.ensures.stored.grown.long, c.requires.held.support.room)) k.1, k.0.index k.1)

pub returns-in_err-len : goal.returns-in_err-len
returns-in_err-len c =
    let s = c.args in
    let w = c.in_ok-c.ensures in
    let k = c.in_ok-n.ensures in
    let e = labels_held s.support.rule s.support.most s.keys.now s.sizes.now c.requires.held.arrays (keys_in s.support.len s.table.now) _ w.labels in
    let p = c.in_err-len.ensures.0 in
    left_full _ _ _ _ _ _ (put_large _ _ _ _ _ _ _ _ w _ e _ _ _ k.0 k.1 _ _ _ p (omega arith)) (put_long _ _ _ _ _ _ _ _ w _ e _ _ _ k.0 k.1 _ _ _ p) (put_rest _ _ _ _ _ _ _ _ w _ e _ _ _ k.0 k.1 _ _ _ p) _ c.from_residual-in_err-len.ensures.0

pub returns : goal.returns
returns c =
    let s = c.args in
    let w = c.in_ok-c.ensures in
    let k = c.in_ok-n.ensures in
    let e = labels_held s.support.rule s.support.most s.keys.now s.sizes.now c.requires.held.arrays (keys_in s.support.len s.table.now) _ w.labels in
    let p = c.in_ok-len.ensures in
    record {
      full = put_small _ _ _ _ _ _ _ _ w _ e _ _ _ k.0 k.1 _ _ _ p.0 p.1;
      labels = w.labels;
      rounds = w.rounds;
      blocks = w.blocks;
      len = len_is _ _ _ _ _ _ _ _ w _ e _ _ _ k.0 k.1 _ _ _ p.0 p.1;
      keys = put_keys _ _ _ _ _ _ _ _ w _ e _ _ _ k.0 k.1 _ _ _ p.0 p.1;
      index = p.0.index p.1;
      long = put_long _ _ _ _ _ _ _ _ w _ e _ _ _ k.0 k.1 _ _ _ p.0;
      rest = put_rest _ _ _ _ _ _ _ _ w _ e _ _ _ k.0 k.1 _ _ _ p.0;
    }
