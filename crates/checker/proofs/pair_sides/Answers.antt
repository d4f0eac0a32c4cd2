-- `pair_sides`: a refusal, 10, or the bounds and their gap, marked as empty where it is below 0.
use Rattle.std.proofs.Common.{◌≡◌, refl, rules, to_z, of_z, w32}
use borrow.Author.Tests.{ne_eqb}
use Rattle.calls.specs.Pair.{pair_sides}
use Rattle.checker.proofs.pair_sides.Goals as goal

pub returns-then-lower-ne0 : goal.returns-then-lower-ne0
unfolding pair_sides
returns-then-lower-ne0 c = rw (c.in_ok-lower.was, c.in_ok-upper.was, ne_eqb c.in_ok-lower.lower.side 0 c.if-lower-ne0.true, c.wrong_side.ensures) refl

pub returns-then-upper-ne1 : goal.returns-then-upper-ne1
unfolding pair_sides
returns-then-upper-ne1 c =
    rw (c.in_ok-lower.was, c.in_ok-upper.was, c.if-lower-ne0.false, ne_eqb c.in_ok-upper.upper.side 1 c.if-upper-ne1.true, c.wrong_side-then-upper-ne1.ensures) refl

pub returns : goal.returns
unfolding pair_sides
returns c =
    let t = c.in_ok-lower.lower in
    let u = c.in_ok-upper.upper in
    let l : to_z w32 (of_z w32 t.p) ≡ t.p = search rules in
    let k : to_z w32 (of_z w32 u.p) ≡ u.p = search rules in
    let a = rw l at c.bound-a.ensures.0 in
    let b = rw k at c.bound-b.ensures.0 in
    rw (
      c.in_ok-lower.was,
      c.in_ok-upper.was,
      c.if-lower-ne0.false,
      c.if-upper-ne1.false,
      c.unless_negative.ensures,
      c.is_negative.ensures,
      c.gap-gap.ensures,
      a,
      b,
    ) refl
