-- `joining_rounds::run` meets its contract: the squares are put in, and after each round those that are left lead to the
-- outcome.
use Rattle.std.proofs.Common.{refl, sym, arith}
use Rattle.joining_rule.proofs.Rounds.{adding_most}
use Rattle.joining_bases.proofs.Turns.{arrays_sizes}
use Rattle.joining_rounds.proofs.Running.{counts_few, running_over, running_last, running_more, running_out}
use Rattle.joining_rounds.proofs.Starting.{starting_over, starting_running, starting_then}
use Rattle.joining_rounds.proofs.run.Goals as goal
use Rattle.joining_rounds.proofs.run.Goals.{else-len-until-via-then-len-until+else-now-left, else-len-until-via-else-len-until}

pub total-left-requires : goal.total-left-requires
total-left-requires c = let p = c.requires in λ j h. omega (arith, p.1.counts j h, (arrays_sizes _ _ p.0.held.arrays).small j h)

pub add_squares-requires : goal.add_squares-requires
add_squares-requires c = (c.requires.0.held, omega (arith, c.adding_bases-adding.ensures, adding_most c.args.support.rule))

pub returns-in_err-len : goal.returns-in_err-len
returns-in_err-len c = starting_over _ _ _ _ _ c.requires.0 _ _ _ c.requires.1 _ c.adding_bases-adding.ensures _ _ _ c.in_err-len.ensures.0 refl _ c.from_residual.ensures.0 _

pub loop-rounds-init : goal.loop-rounds-init
loop-rounds-init c = starting_running _ _ _ _ _ c.requires.0 _ _ _ c.requires.1 _ c.adding_bases-adding.ensures _ _ _ c.in_ok-len.ensures.0 c.in_ok-len.ensures.1 _ c.requires.2 _ c.total-left.ensures

pub round-requires : goal.round-requires
round-requires c = c.loop-rounds.invariant.asks

pub returns-in_err-len-2 : goal.returns-in_err-len-2
returns-in_err-len-2 c =
    let i = c.loop-rounds.invariant in
    starting_then _ _ _ _ _ c.requires.0 _ _ _ c.requires.1 _ c.adding_bases-adding.ensures _ _ _ c.in_ok-len.ensures.0 c.in_ok-len.ensures.1 _ _ _ _
    (running_over _ _ _ _ _ _ _ _ _ _ i (omega arith) _ _ _ _ _ _ _ (c.in_err-len-2.ensures.0 _ (sym i.adding)) refl _ c.from_residual-in_err-len-2.ensures.0 _)

pub total-now-requires : goal.total-now-requires
total-now-requires c = let i = c.loop-rounds.invariant in counts_few _ _ i.asks.arrays _ ((c.in_ok-len-2.ensures.0 _ (sym i.adding)).ready c.in_ok-len-2.ensures.1)

pub returns-then-now-left : goal.returns-then-now-left
returns-then-now-left c =
    let i = c.loop-rounds.invariant in
    starting_then _ _ _ _ _ c.requires.0 _ _ _ c.requires.1 _ c.adding_bases-adding.ensures _ _ _ c.in_ok-len.ensures.0 c.in_ok-len.ensures.1 _ _ _ _
    (running_last _ _ _ _ _ _ _ _ _ _ i (omega arith) _ _ _ _ _ _ _ (c.in_ok-len-2.ensures.0 _ (sym i.adding)) c.in_ok-len-2.ensures.1 _ c.total-now.ensures c.if-len-until.true c.if-now-left.true)

pub loop-rounds-preserved : goal.loop-rounds-preserved
loop-rounds-preserved c =
    let i = c.loop-rounds.invariant in
    running_more _ _ _ _ _ _ _ _ _ _ i (omega arith) _ _ _ _ _ _ _ (c.in_ok-len-2.ensures.0 _ (sym i.adding)) c.in_ok-len-2.ensures.1 _ c.total-now.ensures
    (λ e f. elim c.else-len-until.branch [ else-len-until-via-then-len-until+else-now-left w ↦ w.if-now-left.false f | else-len-until-via-else-len-until w ↦ w.if-len-until.false e ])

pub returns : goal.returns
returns c =
    let i = c.loop-rounds.invariant in
    starting_then _ _ _ _ _ c.requires.0 _ _ _ c.requires.1 _ c.adding_bases-adding.ensures _ _ _ c.in_ok-len.ensures.0 c.in_ok-len.ensures.1 _ _ _ _
    (running_out _ _ _ _ _ _ _ _ _ _ i (omega arith) c.requires.0.some)
