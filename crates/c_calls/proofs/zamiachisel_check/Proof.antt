-- `zamiachisel_check`: the clauses of the call, with its verdict in the run.
use borrow.Author.Rules.{rules}
use mathlib.Core.Path.{refl}
use mathlib.Core.Bool.{Bool}
use Rattle.calls.specs.declared.CheckVerdict.{CheckVerdict}
use Rattle.calls.specs.Tables.{Tables, tables, tables_short}
use Rattle.calls.specs.Check.{check_verdict}
use Rattle.calls.specs.Checks.{problem_of}
use Rattle.verdict_numbers.specs.Numbers.{check_numbers}
use Rattle.verdict_numbers.proofs.RunsOfZeros.{check_run}
use Rattle.c_calls.proofs.Whole.{too_short, whole}
use Rattle.c_calls.proofs.zamiachisel_check.Statement.{statement}
use Rattle.c_calls.proofs.zamiachisel_check.Tie as tie

returns : tie.Need-returns-then-verdict-lt-CHECK
unfolding check_verdict check_numbers problem_of
returns c =
    let a = c.args in
    let lent : Tables = tables a.keys.now a.high.now a.low.now in
    let of : Bool → CheckVerdict = λ b. check_verdict b a.problem.now a.certificate.now in
    too_short 9 a.verdict.now (tables_short lent) check_numbers of (λ b. b) lent c.if-verdict-lt-CHECK.true refl refl

returns-2 : tie.Need-returns
unfolding check_numbers
returns-2 c =
    let p = c in
    let q = p in
    let k = q in
    let i = k in
    let a = i.args in
    let lent : Tables = tables a.keys.now a.high.now a.low.now in
    let of : Bool → CheckVerdict = λ b. check_verdict b a.problem.now a.certificate.now in
    let v = k.check-v.result in
    let e = k.check-v.ensures in
    whole 9 a.verdict.now (tables_short lent) check_numbers of (λ b. b) lent i.if-verdict-lt-CHECK.false v e.0 q.check_numbers-numbers.result p.put_numbers.new.run p.put_numbers.result (tables k.check-v.new.keys k.check-v.new.high k.check-v.new.low) q.check_numbers-numbers.ensures p.put_numbers.ensures.0 p.put_numbers.ensures.1 e.1.0 (check_run a.verdict.now v e.1.1.1.1.1.1.1.1.1.1.1.0)

pub zamiachisel_check_spec : {M : Type 1} → statement M
zamiachisel_check_spec =
    tie.close
    (tie.spec
    returns
    (λ c κs. search rules)
    (λ c κs. search rules)
    (λ c. search rules)
    (λ c κs. search rules)
    (λ c. search rules)
    (λ c. search rules)
    (λ c. search rules)
    (λ c. search rules)
    returns-2)
