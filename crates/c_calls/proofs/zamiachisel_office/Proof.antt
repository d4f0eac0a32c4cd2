-- `zamiachisel_office`: the clauses of the call, with its verdict in the run.
use borrow.Author.Rules.{rules}
use mathlib.Core.Path.{refl}
use mathlib.Core.Bool.{Bool}
use lib.ListN.{length}
use Rattle.calls.specs.declared.OfficeVerdict.{OfficeVerdict}
use Rattle.calls.specs.Tables.{Tables, tables, tables_short}
use Rattle.calls.specs.Check.{check_verdict}
use Rattle.calls.specs.Office.{office_verdict, buffer_left, office_of, verdict_sent, refusal_sent}
use Rattle.calls.specs.Checks.{problem_of}
use Rattle.verdict_numbers.specs.Numbers.{office_numbers, check_numbers}
use Rattle.verdict_numbers.proofs.RunsOfZeros.{office_run}
use Rattle.c_calls.proofs.Whole.{too_short, whole, beside, when_short, when_long}
use Rattle.c_calls.proofs.zamiachisel_office.Statement.{statement}
use Rattle.c_calls.proofs.zamiachisel_office.Tie as tie

returns : tie.Need-returns-then-verdict-lt-OFFICE
unfolding office_verdict buffer_left office_of verdict_sent refusal_sent check_verdict check_numbers office_numbers problem_of
returns c =
    let a = c.args in
    let lent : Tables = tables a.keys.now a.high.now a.low.now in
    let of : Bool → OfficeVerdict = λ b. office_verdict b a.problem.now a.certificate.now (length a.buffer.now) in
    beside (too_short 10 a.verdict.now (tables_short lent) office_numbers of (λ b. b) lent c.if-verdict-lt-OFFICE.true refl refl)
    (when_short 10 a.verdict.now (tables_short lent) (λ (b : Bool). buffer_left b a.problem.now a.certificate.now a.buffer.now) a.buffer.now c.if-verdict-lt-OFFICE.true refl)

returns-2 : tie.Need-returns
unfolding office_numbers check_numbers
returns-2 c =
    let p = c in
    let q = p in
    let k = q in
    let i = k in
    let a = i.args in
    let lent : Tables = tables a.keys.now a.high.now a.low.now in
    let of : Bool → OfficeVerdict = λ b. office_verdict b a.problem.now a.certificate.now (length a.buffer.now) in
    let v = k.office-v.result in
    let e = k.office-v.ensures in
    beside (whole 10 a.verdict.now (tables_short lent) office_numbers of (λ b. b) lent i.if-verdict-lt-OFFICE.false v e.0 q.office_numbers-numbers.result p.put_numbers.new.run p.put_numbers.result (tables k.office-v.new.keys k.office-v.new.high k.office-v.new.low) q.office_numbers-numbers.ensures p.put_numbers.ensures.0 p.put_numbers.ensures.1 e.1.1.0 (office_run a.verdict.now v e.1.1.1.1.1.1.1.1.1.1.1.1.1.1.1.1.1.1.1.1.0))
    (when_long 10 a.verdict.now (tables_short lent) (λ (b : Bool). buffer_left b a.problem.now a.certificate.now a.buffer.now) k.office-v.new.buffer i.if-verdict-lt-OFFICE.false e.1.0)

pub zamiachisel_office_spec : {M : Type 1} → statement M
zamiachisel_office_spec =
    tie.close
    (tie.spec
    returns
    (λ c κs. search rules)
    (λ c κs. search rules)
    (λ c. search rules)
    (λ c κs. search rules)
    (λ c. search rules)
    (λ c. search rules)
    (λ c. search rules)
    (λ c. search rules)
    (λ c. search rules)
    returns-2)
