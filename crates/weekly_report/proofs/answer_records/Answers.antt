-- `answer_records`: a record that stands whole is answered, and where none does, all are.
use Rattle.std.proofs.Common.{◌<◌, length, arith, length-take, length-drop}
use Rattle.work_tables.proofs.Tables.{tables_cleared}
use Rattle.weekly_report.proofs.Ends.{end_cut, end_whole}
use Rattle.weekly_report.proofs.Answers.{answering_none, answering_more, answering_done, at_end, one_few, one_room}
use Rattle.weekly_report.proofs.answer_records.Goals as goal

pub loop-end-init : goal.loop-end-init
loop-end-init c = answering_none c.args.s.now c.args.out.now _ c.refuse-t.result c.requires.0 c.requires.1 c.refuse-t.ensures

pub put_record-requires : goal.put_record-requires
put_record-requires c =
    let l = c.loop-end in
    let w = end_whole c.args.s.now l.at _ c.end_at.ensures c.in-Some.end c.in-Some.is in
    let h : l.at < length c.args.s.now = omega (arith, w.0) in
    simp (length-take, length-drop) (omega (arith, one_room _ _ _ _ _ _ _ _ l.invariant h))

pub with_verdict-t-requires : goal.with_verdict-t-requires
with_verdict-t-requires c =
    let l = c.loop-end in
    let w = end_whole c.args.s.now l.at _ c.end_at.ensures c.in-Some.end c.in-Some.is in
    let h : l.at < length c.args.s.now = omega (arith, w.0) in
    omega (arith, l.invariant.few, one_few _ _ _ _ _ _ _ _ l.invariant h)

pub loop-end-preserved : goal.loop-end-preserved
loop-end-preserved c =
    let l = c.loop-end in
    let w = end_whole c.args.s.now l.at _ c.end_at.ensures c.in-Some.end c.in-Some.is in
    let h : l.at < length c.args.s.now = omega (arith, w.0) in
    answering_more _ _ _ _ _ _ _ _ l.invariant h c.pair_at-v.result c.pair_at-v.ensures.verdict c.put_record.new.part
    c.put_record.ensures _ c.pair_at-v.ensures.tables c.in-Some.end w.1 c.with_verdict-t.result c.with_verdict-t.ensures

pub returns-then-i-eq0-clause-answers : goal.returns-then-i-eq0-clause-answers
returns-then-i-eq0-clause-answers c =
    let l = c.loop-end in
    answering_done _ _ _ _ _ _ _ _ l.invariant (at_end _ _ _ _ _ _ _ _ l.invariant (end_cut c.args.s.now l.at _ c.end_at.ensures c.in_default.is))

pub returns-then-i-eq0-clause-tables : goal.returns-then-i-eq0-clause-tables
returns-then-i-eq0-clause-tables c = tables_cleared c.loop-end.invariant.past c.clear_tables.ensures

pub returns-else-i-eq0-clause-answers : goal.returns-else-i-eq0-clause-answers
returns-else-i-eq0-clause-answers c =
    let l = c.loop-end in
    answering_done _ _ _ _ _ _ _ _ l.invariant (at_end _ _ _ _ _ _ _ _ l.invariant (end_cut c.args.s.now l.at _ c.end_at.ensures c.in_default.is))
