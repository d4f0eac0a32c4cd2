-- `judge_both`: what became of both, by the judgements.
use Rattle.std.proofs.Common.{refl, sym, ◌∙◌}
use Rattle.problem_judge.proofs.Steps.{two_of_lem}
use Rattle.problem_judge.proofs.judge_both.Goals as goal

pub returns-then-ends_with-clause-judged : goal.returns-then-ends_with-clause-judged
returns-then-ends_with-clause-judged c p h r =
    two_of_lem c.args.stream p c.args.first.now c.args.second.now _ _ _ _ _ (c.judge-a.ensures.judgement p h) refl
    (sym c.if-ends_with.true ∙ c.ends_with.ensures) r h.flat.rule

pub returns-else-ends_with-clause-judged : goal.returns-else-ends_with-clause-judged
returns-else-ends_with-clause-judged c p h r =
    two_of_lem c.args.stream p c.args.first.now c.args.second.now _ _ _ _ _ (c.judge-a.ensures.judgement p h)
    (c.judge-b.ensures.judgement p h) (sym c.if-ends_with.false ∙ c.ends_with.ensures) r h.flat.rule
