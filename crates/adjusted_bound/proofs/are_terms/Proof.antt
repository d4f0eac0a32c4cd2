-- `are_terms`: the first term, and the second where that is 1.
use borrow.Author.Rules.{rules}
use mathlib.Core.Path.{◌≡◌, sym, ◌∙◌}
use mathlib.Core.Bool.{true, false}
use mir.Facts.{to_z-of_z}
use Rattle.polynomial.specs.Terms.{term}
use Rattle.calls.specs.Adjusted.{unit}
use Rattle.calls.specs.SameTerms.{same_term}
use Rattle.adjusted_bound.proofs.are_terms.Statement.{statement}
use Rattle.adjusted_bound.proofs.are_terms.Tie as tie

is-term-requires : tie.Need-is_term-requires
is-term-requires c κs = search rules

is-term-requires-2 : tie.Need-is_term-requires-then-is_term
is-term-requires-2 c κs = search rules

-- the coefficients are numbers of 32 bits
first : (c : tie.After-is_term)
    → let a = c.args in c.is_term.result ≡ same_term (term a.k a.c) unit
first c = simp (to_z-of_z c.ranges.c) at c.is_term.ensures

returns : tie.Need-returns-then-is_term
returns c =
    let f = c in
    let a = f.args in
    let e : same_term (term a.k a.c) unit ≡ true = sym (first f.before.before) ∙ c.if-is_term.true in
    rw e (simp (to_z-of_z f.ranges.d) at c.is_term-then-is_term.ensures)

returns-2 : tie.Need-returns-else-is_term
returns-2 c =
    let f = c in
    let a = f.args in
    let e : same_term (term a.k a.c) unit ≡ false = sym (first f.before) ∙ c.if-is_term.false in
    rw e c.if-is_term.false

pub are_terms_spec : {M : Type 1} → statement M
are_terms_spec = tie.close (tie.spec is-term-requires is-term-requires-2 returns returns-2)
