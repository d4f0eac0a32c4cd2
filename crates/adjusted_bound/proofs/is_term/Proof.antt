-- `is_term`: by the keys, and by the coefficients where these are the same.
use borrow.Author.Tests.{eq-eqb, ne_eqb}
use Rattle.adjusted_bound.proofs.Coefficients.{same_bits}
use Rattle.adjusted_bound.proofs.is_term.Statement.{statement}
use Rattle.adjusted_bound.proofs.is_term.Tie as tie

returns : tie.Need-returns-then-key-other
returns c =
    let a = c.args in
    let f = c.ranges in
    rw (eq-eqb a.key a.other c.if-key-other.true) (same_bits a.c a.d f.c f.d)

returns-2 : tie.Need-returns-else-key-other
returns-2 c = let a = c.args in rw (ne_eqb a.key a.other c.if-key-other.false)

pub is_term_spec : {M : Type 1} → statement M
is_term_spec = tie.close (tie.spec returns returns-2)
