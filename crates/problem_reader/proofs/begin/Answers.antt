-- `begin`: what the arm of a 03 or a 07 leaves.
use Rattle.std.proofs.Common.{refl}
use Rattle.problem_reader.proofs.Steps.{stepped_full, stepped_begun}
use Rattle.problem_reader.proofs.begin.Goals as goal

pub returns-then-draft-ge8 : goal.returns-then-draft-ge8
returns-then-draft-ge8 c = λ p h. stepped_full h c.args.kind c.if-draft-ge8.true

pub returns : goal.returns
returns c =
    λ p h.
    let o = c.lay_out_last in
    rw o.ensures.2 (stepped_begun h c.args.kind _ c.kind_in_arrays.ensures c.if-draft-ge8.false 0 refl o.new.keys o.new.coefficients c.empty-draft.result o.ensures.0 o.ensures.1 c.empty-draft.ensures)
