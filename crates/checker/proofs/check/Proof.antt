-- `check`: the first of two, of which the second is empty; the clauses from the equation.
use borrow.Author.Rules.{rules}
use Rattle.calls.specs.Tables.{tables, tables_short}
use Rattle.calls.proofs.Checking.{check_clauses}
use Rattle.checker.proofs.check.Statement.{statement}
use Rattle.checker.proofs.check.Tie as tie

returns : tie.Need-returns
returns c =
    let k = c in
    let a = k.args in
    let e = k.check_two-two.ensures in
    let short = tables_short (tables a.keys.now a.high.now a.low.now) in
    (e.0, (e.1.1.0, check_clauses short a.problem.now a.certificate.now _ e.0))

pub check_spec : {M : Type 1} → statement M
check_spec =
    tie.close
    (tie.spec
    (λ c. search rules)
    (λ c κs. search rules)
    (λ c. search rules)
    (λ c. search rules)
    (λ c. search rules)
    returns)
