-- `add_objective`: after t turns x times the first t terms are added.
use Rattle.std.proofs.Common.{length}
use Rattle.polynomial.specs.Algebra.{match}
use Rattle.identity_sums.proofs.Products.{Summing}
use Rattle.identity_sums.proofs.add_objective.Given as goal

abbrev pub invariant-loop-exponent : goal.invariant-loop-exponent
invariant-loop-exponent l =
    Summing l.keys.table.now l.keys.count l.initial.hi l.initial.lo match l.x l.terms.exponents.now l.terms.coefficients.now (length l.yielded) l.hi l.lo
