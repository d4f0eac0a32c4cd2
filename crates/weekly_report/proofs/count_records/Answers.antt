-- `count_records`: each return by what is left from the offset.
use Rattle.std.proofs.Common.{◌≡◌, arith, None}
use Rattle.std.proofs.lemmas.Result.{err_from_is_err_and}
use Rattle.weekly_report.proofs.Ends.{end_cut, end_whole}
use Rattle.weekly_report.proofs.Counts.{counting_none, counted_past, counted_cut, counted_all, counting_more}
use Rattle.weekly_report.proofs.count_records.Goals as goal

pub loop-at-init : goal.loop-at-init
loop-at-init c = counting_none c.args.s.now

pub returns-then-count-eq64 : goal.returns-then-count-eq64
returns-then-count-eq64 c = counted_past _ c.loop-at.at c.loop-at.count c.loop-at.invariant c.loop-at-test.true c.if-count-eq64.true

pub returns-in_err-at : goal.returns-in_err-at
returns-in_err-at c =
    let l = c.loop-at in
    let none : c.end_at.result ≡ None = grind arith in
    let place : c.in_err-at.field-0.0 ≡ l.at = grind arith in
    let p = err_from_is_err_and c.from_residual.result c.from_residual.ensures.1 in
    rw (p.1, p.2, place) (counted_cut _ l.at l.count l.invariant c.loop-at-test.true (end_cut c.args.s.now l.at _ c.end_at.ensures none))

pub loop-at-preserved : goal.loop-at-preserved
loop-at-preserved c =
    let l = c.loop-at in
    let w = end_whole c.args.s.now l.at _ c.end_at.ensures c.in_ok-at.at (grind arith) in
    rw w.1 (counting_more _ l.at l.count l.invariant c.loop-at-test.true (omega (arith, l.invariant.few)) w.0)

pub returns : goal.returns
returns c = counted_all _ c.loop-at.at c.loop-at.count c.loop-at.invariant c.loop-at-test.false
