-- `find_at`: the links of a key's place lead to each key with its remainder.
use Rattle.std.proofs.Common.{arith, length-take-le}
use Rattle.key_set.proofs.Keys.{inside}
use Rattle.key_set.proofs.Index.{seeks_start, seeks_less, seeks_step, seeks_none}
use Rattle.key_set.proofs.find_at.Goals as goal

pub loop-v-init : goal.loop-v-init
loop-v-init c =
    let seeks = seeks_start c.requires.0.1 c.args.key in
    rw c.requires.1 (record { seeks = seeks; few = omega (arith, seeks.upto) })

pub loop-v-smaller : goal.loop-v-smaller
loop-v-smaller c = seeks_less c.requires.0.1 _ _ c.loop-v.invariant.seeks c.loop-v-test.true

pub loop-v-preserved : goal.loop-v-preserved
loop-v-preserved c =
    let x = c.requires.0.1 in
    let i = c.loop-v.invariant in
    record {
      seeks = seeks_step x _ _ i.seeks c.loop-v-test.true c.if-table-p.false;
      few = omega (arith, seeks_less x _ _ i.seeks c.loop-v-test.true);
    }

pub returns : goal.returns
returns c =
    let h = c.requires.0.0 in
    let i = c.loop-v.invariant in
    (seeks_none h _ _ _ i.seeks (omega arith), omega (arith, length-take-le c.args.len c.args.table.now (inside h)))
