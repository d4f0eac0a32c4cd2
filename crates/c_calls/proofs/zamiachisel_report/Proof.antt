-- `zamiachisel_report`: the clauses of the call, with its verdict in the run.
use borrow.Author.Rules.{rules}
use mathlib.Core.Path.{refl}
use mathlib.Core.Bool.{Bool}
use mathlib.Core.List.{List}
use Rattle.format.specs.Commands.{Outcome}
use Rattle.calls.specs.declared.ReportVerdict.{ReportVerdict}
use Rattle.calls.specs.Tables.{Tables, tables, tables_short}
use Rattle.calls.specs.Report.{Runs, checked_records, report_verdict, output_left, is_short}
use Rattle.verdict_numbers.specs.Numbers.{report_numbers}
use Rattle.verdict_numbers.proofs.RunsOfZeros.{report_run}
use Rattle.c_calls.proofs.Whole.{too_short, whole, beside, when_short, when_long}
use Rattle.c_calls.proofs.zamiachisel_report.Statement.{statement}
use Rattle.c_calls.proofs.zamiachisel_report.Tie as tie

returns : tie.Need-returns-then-verdict-lt-REPORT
unfolding checked_records report_verdict output_left report_numbers
returns c =
    let a = c.args in
    let lent : Tables = tables a.keys.now a.high.now a.low.now in
    let o : Bool → Outcome (List Runs) = λ b. checked_records b a.records.now a.out.now in
    let of : Bool → ReportVerdict = λ b. report_verdict (o b) in
    beside (too_short 9 a.verdict.now (tables_short lent) report_numbers of (λ b. is_short (o b)) lent c.if-verdict-lt-REPORT.true refl refl)
    (when_short 9 a.verdict.now (tables_short lent) (λ (b : Bool). output_left (o b) a.out.now) a.out.now c.if-verdict-lt-REPORT.true refl)

returns-2 : tie.Need-returns
unfolding report_numbers
returns-2 c =
    let p = c in
    let q = p in
    let k = q in
    let i = k in
    let a = i.args in
    let lent : Tables = tables a.keys.now a.high.now a.low.now in
    let o : Bool → Outcome (List Runs) = λ b. checked_records b a.records.now a.out.now in
    let of : Bool → ReportVerdict = λ b. report_verdict (o b) in
    let v = k.report-v.result in
    let e = k.report-v.ensures in
    beside (whole 9 a.verdict.now (tables_short lent) report_numbers of (λ b. is_short (o b)) lent i.if-verdict-lt-REPORT.false v e.0 q.report_numbers-numbers.result p.put_numbers.new.run p.put_numbers.result (tables k.report-v.new.keys k.report-v.new.high k.report-v.new.low) q.report_numbers-numbers.ensures p.put_numbers.ensures.0 p.put_numbers.ensures.1 e.1.1.0 (report_run a.verdict.now v e.1.1.1.1.1.1.1.1.1.0))
    (when_long 9 a.verdict.now (tables_short lent) (λ (b : Bool). output_left (o b) a.out.now) k.report-v.new.out i.if-verdict-lt-REPORT.false e.1.0)

pub zamiachisel_report_spec : {M : Type 1} → statement M
zamiachisel_report_spec =
    tie.close
    (tie.spec
    returns
    (λ c κs. search rules)
    (λ c κs. search rules)
    (λ c. search rules)
    (λ c κs. search rules)
    (λ c. search rules)
    (λ c. search rules)
    (λ c. search rules)
    (λ c. search rules)
    (λ c. search rules)
    returns-2)
