-- `same_condition`: the kind by its number, and the terms by the slices that hold them.
use Rattle.regions.proofs.Compared.{kind_same, condition_told}
use Rattle.regions.proofs.same_condition.Goals as goal

pub returns : goal.returns
returns c =
    λ p q f g.
    condition_told f g c.args.j c.requires.2 c.same_terms.result c.exponents.ensures c.coefficients.ensures
    c.exponents-2.ensures c.coefficients-2.ensures c.same_terms.ensures
    (kind_same f g c.args.j c.requires.2 c.if-one-j.false)
