-- `prepare`: a refusal of the stream, 7, or the problem with its blocks.
use Rattle.std.proofs.Common.{refl, sym, ap, ◌∙◌}
use Rattle.calls.specs.Outcome.{refused}
use Rattle.problem_judge.proofs.Steps.{problem_refused, problem_full_lem, prepares, left_refused, left_ready}
use Rattle.problem_judge.proofs.prepare.Goals as goal

pub returns-in-Err : goal.returns-in-Err
returns-in-Err c =
    let r = c.in-Err.ensures in
    left_refused r.limits refl _ (problem_refused _ _ _ r.refuses ∙ ap refused (sym (rw c.from.ensures at c.problem_refusal.ensures)))

pub returns-in-Ok : goal.returns-in-Ok
returns-in-Ok c =
    let g = c.in_default.ensures.gives in
    let left = c.in-Ok.ensures g.problem _ g.flat in
    left_ready g.flat.limits left.rest _ (prepares _ _ g.read left g.flat c.requires.1)

pub returns-in-Err-join : goal.returns-in-Err-join
returns-in-Err-join c =
    let g = c.in_default.ensures.gives in
    let left = c.in-Err-join.ensures g.problem _ g.flat in
    left_refused g.flat.limits left.rest _ (problem_full_lem _ _ g.read left ∙ ap refused (sym c.problem_refusal-in-Err-join.ensures))
