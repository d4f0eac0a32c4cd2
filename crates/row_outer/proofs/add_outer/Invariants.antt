-- `add_outer`: the products of the digits on the left before entry k with all on the right are added.
use Rattle.flat.specs.TermArrays.{terms_in}
use Rattle.row_outer.specs.Outer.{in_row}
use Rattle.row_outer.proofs.Outers.{Raising}
use Rattle.row_outer.proofs.add_outer.Given as goal

abbrev pub invariant-loop-k : goal.invariant-loop-k
invariant-loop-k l = Raising l.initial.g (in_row (terms_in l.count l.indices l.right)) l.w l.indices l.left l.k l.g
