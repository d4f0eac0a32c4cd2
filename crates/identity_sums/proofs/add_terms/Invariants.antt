-- `add_terms`: after t turns x times the first t terms are added.
use Rattle.std.proofs.Common.{◌+◌}
use Rattle.polynomial.specs.Algebra.{match}
use Rattle.identity_sums.proofs.Products.{Summing}
use Rattle.identity_sums.proofs.add_terms.Given as goal

abbrev pub invariant-loop-t : goal.invariant-loop-t
invariant-loop-t l =
    Summing l.keys.table.now l.keys.count l.initial.hi l.initial.lo (λ k e. match k (l.key + e)) l.x l.exponents l.coefficients l.t l.hi l.lo
