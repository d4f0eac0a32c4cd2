-- `add_products`: the products of entry `first` with those before entry k are added. The indices rise, so no place gets two, and
-- every sum fits; and before the first there is no index from its own on.
use Rattle.std.proofs.Common.{get_or}
use Rattle.row_outer.specs.Outer.{above}
use Rattle.row_outer.proofs.Outers.{Raising}
use Rattle.row_outer.proofs.add_products.Given as goal

abbrev pub invariant-loop-k : goal.invariant-loop-k
invariant-loop-k l = Raising l.fn.g (λ x. above x (get_or l.indices l.first 0)) l.a l.indices l.factors l.k l.g
