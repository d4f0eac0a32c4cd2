-- `answer`: the problem that the stream gives stands in the arrays.
use Rattle.std.proofs.Common.{◌≡◌}
use Rattle.format.proofs.ProblemVariables.{second_byte}
use Rattle.sign_symmetries.proofs.Steps.{gives_flat}
use Rattle.sign_symmetries.proofs.answer.Goals as goal

pub bounds-problem-1 : goal.bounds-problem-1
bounds-problem-1 c = let g = gives_flat c.read.ensures c.requires.0 in (second_byte _ g.problem g.read).there

pub write-requires : goal.write-requires
write-requires c =
    let g = gives_flat c.read.ensures c.requires.0 in
    (record { coefficients = _; limits = g.flat.limits }, (second_byte _ g.problem g.read).few, c.requires.1)

pub returns : goal.returns
returns c =
    λ p e.
    let g = gives_flat c.read.ensures c.requires.0 in
    let f = g.read in
    let same : g.problem ≡ p = cc in
    rw same at (c.write.ensures g.problem _ g.flat (second_byte _ g.problem g.read).named)
