-- `zamiachisel_check_two`: the clauses of the call, with both verdicts in the run.
use borrow.Author.Rules.{rules}
use mathlib.Core.Path.{refl, ap₂}
use mathlib.Core.Bool.{Bool}
use Rattle.calls.specs.declared.TwoChecks.{TwoChecks}
use Rattle.calls.specs.Tables.{Tables, tables, tables_short}
use Rattle.calls.specs.Check.{check_verdict}
use Rattle.calls.specs.Checks.{problem_of}
use Rattle.verdict_numbers.specs.Numbers.{two_checks, two_numbers, check_numbers}
use Rattle.c_calls.proofs.Whole.{one_told, told}
use Rattle.c_calls.proofs.zamiachisel_check_two.Statement.{statement}
use Rattle.c_calls.proofs.zamiachisel_check_two.Tie as tie

returns : tie.Need-returns-then-verdict-lt-TWO
unfolding check_verdict two_numbers check_numbers problem_of
returns c =
    let a = c.args in
    let lent : Tables = tables a.keys.now a.high.now a.low.now in
    let of : Bool → TwoChecks =
    λ b. two_checks (check_verdict b a.problem.now a.first.now) (check_verdict b a.problem.now a.second.now) in
    one_told 18 a.verdict.now (tables_short lent) two_numbers of (λ b. b) lent c.if-verdict-lt-TWO.true refl refl

returns-2 : tie.Need-returns
unfolding two_numbers check_numbers
returns-2 c =
    let p = c in
    let q = p in
    let k = q in
    let i = k in
    let a = i.args in
    let lent : Tables = tables a.keys.now a.high.now a.low.now in
    let of : Bool → TwoChecks =
    λ b. two_checks (check_verdict b a.problem.now a.first.now) (check_verdict b a.problem.now a.second.now) in
    let e = k.check_two-v.ensures in
    told 18 a.verdict.now (tables_short lent) two_numbers of (λ b. b) lent i.if-verdict-lt-TWO.false k.check_two-v.result (ap₂ two_checks e.0 e.1.0) q.two_numbers-numbers.result p.put_numbers.new.run p.put_numbers.result (tables k.check_two-v.new.keys k.check_two-v.new.high k.check_two-v.new.low) q.two_numbers-numbers.ensures p.put_numbers.ensures.0 p.put_numbers.ensures.1 e.1.1.0

pub zamiachisel_check_two_spec : {M : Type 1} → statement M
zamiachisel_check_two_spec =
    tie.close
    (tie.spec
    returns
    (λ c κs. search rules)
    (λ c κs. search rules)
    (λ c. search rules)
    (λ c κs. search rules)
    (λ c. search rules)
    (λ c. search rules)
    (λ c. search rules)
    (λ c. search rules)
    returns-2)
