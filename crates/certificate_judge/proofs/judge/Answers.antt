-- `judge`: each return by what the reading, the walk over the rows and the comparison decide.
use Rattle.std.proofs.Common.{arith, ap, ◌∙◌}
use Rattle.std.specs.Prelude.{Err}
use Rattle.certificate_reader.proofs.Shapes.{flat_sized}
use Rattle.certificate_reader.proofs.Walk.{given_walkable}
use Rattle.certificate_judge.proofs.Judging.{labels_long, joined_comparable, joined_given, judge_refused, judge_split, judge_compared}
use Rattle.certificate_judge.proofs.judge.Goals as goal

pub returns-in-Err-clause-judgement : goal.returns-in-Err-clause-judgement
returns-in-Err-clause-judgement c p j =
    ap Err c.certificate_refusal.ensures ∙ judge_refused p c.args.s.now _ _ _ (rw c.from.ensures (c.in-Err.ensures p j.limits (flat_sized j.flat)))

pub split_place-requires : goal.split_place-requires
split_place-requires c =
    let w = c.requires.0 in
    let j = w.joined in
    (given_walkable w.problem j.limits _ _ _ _ (c.in-Ok.ensures w.problem j.limits (flat_sized j.flat)), omega arith, labels_long j)

pub difference-found-requires : goal.difference-found-requires
difference-found-requires c =
    let w = c.requires.0 in
    let j = w.joined in
    ((j.holds, j.index), (joined_comparable j (c.in-Ok.ensures w.problem j.limits (flat_sized j.flat)), omega arith), c.requires.1)

pub returns-in-Some-clause-judgement : goal.returns-in-Some-clause-judgement
returns-in-Some-clause-judgement c p j =
    let t = c.in-Ok.ensures p j.limits (flat_sized j.flat) in
    ap Err c.certificate_refusal-in-Some.ensures
    ∙ judge_split p c.args.s.now t.certificate t.read _ _ (c.in-Some.ensures p t.certificate j.limits t.read t.rows_are j.labels_are)

pub returns-clause-judgement : goal.returns-clause-judgement
returns-clause-judgement c p j =
    let t = c.in-Ok.ensures p j.limits (flat_sized j.flat) in
    c.by_identity.ensures
    ∙ judge_compared p c.args.s.now t.certificate t.read _ _ _ (c.in_default.ensures p t.certificate j.limits t.read t.rows_are j.labels_are) t.header_is
    (c.difference-found.ensures.difference p t.certificate (joined_given j t))
