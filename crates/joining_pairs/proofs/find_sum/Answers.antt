-- `find_sum`: the links of a sum's place lead to each pair with its remainder.
use Rattle.std.proofs.Common.{sym, ◌∙◌, arith}
use Rattle.joining_pairs.proofs.Places.{pair_order}
use Rattle.joining_pairs.proofs.Pairs.{seeks_start, seeks_less, seeks_step, seeks_pair, seeks_found, seeks_none}
use Rattle.joining_pairs.proofs.find_sum.Goals as goal

pub loop-v-init : goal.loop-v-init
loop-v-init c = rw c.requires.2 (seeks_start _ _ _ c.requires.1)

pub sum_at-requires : goal.sum_at-requires
sum_at-requires c =
    let o = pair_order _ _ (seeks_pair _ _ _ c.loop-v.invariant c.loop-v-test.true) in
    (c.requires.0, omega (arith, o.0, o.1), o.1)

pub returns-then-sum_at-s : goal.returns-then-sum_at-s
returns-then-sum_at-s c =
    seeks_found _ _ _ c.loop-v.invariant c.loop-v-test.true (sym c.sum_at.ensures ∙ c.if-sum_at-s.true)

pub loop-v-smaller : goal.loop-v-smaller
loop-v-smaller c = seeks_less _ _ _ c.requires.1 _ c.loop-v.invariant c.loop-v-test.true

pub loop-v-preserved : goal.loop-v-preserved
loop-v-preserved c =
    seeks_step _ _ _ c.requires.1 _ c.loop-v.invariant c.loop-v-test.true (λ e. c.if-sum_at-s.false (c.sum_at.ensures ∙ e))

pub returns : goal.returns
returns c = seeks_none _ _ _ c.loop-v.invariant (omega arith)
