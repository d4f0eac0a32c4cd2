-- `is_same`: each return by what was read of the two streams.
use Rattle.regions.proofs.Reading.{long, variables_differ, variables_same}
use Rattle.regions.proofs.is_same.Goals as goal

pub bounds-problem1-1 : goal.bounds-problem1-1
bounds-problem1-1 c = (long c.in-Ok.ensures.gives c.in-Ok-read.ensures.gives).0

pub bounds-problem2-1 : goal.bounds-problem2-1
bounds-problem2-1 c = (long c.in-Ok.ensures.gives c.in-Ok-read.ensures.gives).1

pub returns-then-problem1-problem2 : goal.returns-then-problem1-problem2
returns-then-problem1-problem2 c = variables_differ c.in-Ok.ensures.gives c.in-Ok-read.ensures.gives c.if-problem1-problem2.true

pub returns : goal.returns
returns c =
    let g = c.in-Ok.ensures.gives in
    let h = c.in-Ok-read.ensures.gives in
    variables_same g h c.if-problem1-problem2.false c.same_conditions.result (c.same_conditions.ensures g.problem h.problem g.flat h.flat)
