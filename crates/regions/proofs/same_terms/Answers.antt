-- `same_terms`: the keys differ, or the coefficients tell.
use Rattle.std.proofs.lemmas.Bool.Decides.{Decides-eqb, Decides-int_eq, not_from_Decides}
use Rattle.std.proofs.lemmas.Slice.Eq.{slice_eq-Decides}
use Rattle.regions.proofs.Compared.{keys_differ, coefficients_tell}
use Rattle.regions.proofs.same_terms.Goals as goal

pub returns-then-eq : goal.returns-then-eq
returns-then-eq c =
    let a = c.args in
    let k = slice_eq-Decides Decides-eqb a.k.now a.l.now c.eq.result c.eq.ensures in
    let d = slice_eq-Decides Decides-int_eq a.c.now a.d.now c.eq-then-eq.result c.eq-then-eq.ensures in
    coefficients_tell a.k.now a.c.now a.l.now a.d.now c.requires.0 c.requires.1 c.eq-then-eq.result (k.0 c.if-eq.true) d.0 d.1

pub returns-else-eq : goal.returns-else-eq
returns-else-eq c =
    let a = c.args in
    let k = slice_eq-Decides Decides-eqb a.k.now a.l.now c.eq.result c.eq.ensures in
    rw c.if-eq.false (keys_differ a.k.now a.c.now a.l.now a.d.now c.requires.0 c.requires.1 (not_from_Decides c.eq.result k c.if-eq.false))
