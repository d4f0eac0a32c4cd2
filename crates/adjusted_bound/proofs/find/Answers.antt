-- `find`: by what was read.
use Rattle.std.proofs.Common.{sym, ap, ◌∙◌}
use Rattle.format.specs.Commands.{Outcome}
use Rattle.format.specs.ProblemRules.{Problem}
use Rattle.format.proofs.ProblemVariables.{second_byte}
use Rattle.calls.specs.Adjusted.{adjusted_read}
use Rattle.adjusted_bound.proofs.find.Goals as goal

pub bounds-problem-1 : goal.bounds-problem-1
bounds-problem-1 c =
    let g = c.in_default.ensures.gives in
    (second_byte _ g.problem g.read).there

pub decide-requires : goal.decide-requires
decide-requires c =
    let g = c.in_default.ensures.gives in
    let b = second_byte _ g.problem g.read in
    (g.flat.limits, b.some, b.few, c.requires)

pub returns : goal.returns
returns c =
    let g = c.in_default.ensures.gives in
    c.decide.ensures g.problem g.flat (second_byte _ g.problem g.read).named
    ∙ sym (ap (λ (o : Outcome Problem). adjusted_read o c.args.v c.args.changes.now) g.read)
