-- `check_two`: the verdicts by what became of each certificate, and the zeros from the equations.
use Rattle.std.proofs.Common.{ap, ◌∙◌}
use Rattle.calls.specs.Tables.{tables, tables_short}
use Rattle.calls.proofs.Checking.{two_zeros}
use Rattle.problem_judge.specs.declared.TwoJudged.{TwoJudged}
use Rattle.checker.specs.Verdicts.{check_from}
use Rattle.checker.proofs.Verdicts.{first_checked, second_checked}
use Rattle.checker.proofs.check_two.Goals as goal

pub returns : goal.returns
returns c =
    let a = c.args in
    let short = tables_short (tables a.keys.now a.high.now a.low.now) in
    let s = a.problem.now in
    let e = c.judge_two-two.ensures in
    let v = c.check_one.ensures ∙ ap (λ (two : TwoJudged). check_from two.first two.rounds two.rule) e.judged ∙ first_checked short s a.first.now a.second.now in
    let w = c.check_one-2.ensures ∙ ap (λ (two : TwoJudged). check_from two.second two.rounds two.rule) e.judged ∙ second_checked short s a.first.now a.second.now in
    record { first = v; second = w; tables = e.tables; zeros = two_zeros short s a.first.now a.second.now _ v w }
