-- `joining_round::round` meets its contract.
use Rattle.std.proofs.Common.{arith}
use Rattle.std.proofs.lemmas.Result.{IfOk-from_err}
use Rattle.joining_products.proofs.Growing.{count_full}
use Rattle.joining_bases.proofs.Turns.{turn_start, turn_asks, turn_over, turn_next, turn_end}
use Rattle.joining_round.proofs.round.Goals as goal

pub loop-j-init : goal.loop-j-init
loop-j-init c = turn_start _ _ _ c.requires

pub join_at-requires : goal.join_at-requires
join_at-requires c = turn_asks _ _ _ c.requires c.loop-j.j _ _ _ _ _ _ _ c.loop-j.invariant (omega arith)

pub returns-in_err-r : goal.returns-in_err-r
returns-in_err-r c =
    let w = c.from_residual.ensures.0 in (
      λ rule e.
          rw (count_full _ w)
          (record {
            stored = turn_over _ _ _ c.requires c.loop-j.j _ _ _ _ _ _ _ c.loop-j.invariant (omega arith) _ _ _ _ _ _ c.in_err-r.ensures.0 (omega arith) rule e;
            labels = λ q. absurd (omega arith);
            ready = λ q. absurd (omega arith);
          }),
      IfOk-from_err _ _ w,
    )

pub loop-j-preserved : goal.loop-j-preserved
loop-j-preserved c = turn_next _ _ _ c.requires c.loop-j.j _ _ _ _ _ _ _ c.loop-j.invariant (omega arith) _ _ _ _ _ _ c.in_ok-r.ensures.0 c.in_ok-r.ensures.1

pub returns : goal.returns
returns c = (λ rule e. turn_end _ _ _ c.requires c.loop-j.j _ _ _ _ _ _ _ c.loop-j.invariant (omega arith) (omega arith) rule e, (c.loop-j.invariant.ready.at 0 (omega arith)).basis.support.few)
