-- `add_basis`: one part of the products of the rows on basis j is gathered, and spread over the keys.
use Rattle.std.proofs.Common.{◌≤◌, arith}
use Rattle.flat.proofs.Flat.{polynomial_counted, exponents_fit, coefficients_fit}
use Rattle.identity_rows.proofs.Walks.{part_spreadable, part_framed, basis_alone, none_room, none_alone, none_summed, spread_room, rows_summed}
use Rattle.identity_rows.proofs.add_basis.Goals as goal

pub returns-in_default : goal.returns-in_default
returns-in_default c =
    let p = c.requires in
    let g = c.in_default.ensures in (
      none_summed p.comparable.0.0 c.args.j p.comparable.1 p.ready.1 g,
      none_room p.comparable.0.0 c.args.j p.comparable.1 p.ready.1 g,
      λ _. none_alone p.comparable.0.0 c.args.j p.comparable.1 p.ready.1 g,
    )

pub polynomial-multiplier-requires : goal.polynomial-multiplier-requires
polynomial-multiplier-requires c =
    let l = c.requires.comparable.0.0.flat.limits in
    let h : c.args.j ≤ 9 = omega (arith, c.requires.comparable.1) in
    (polynomial_counted l c.args.j h, exponents_fit l c.args.j h, coefficients_fit l c.args.j h)

pub fold_large-requires : goal.fold_large-requires
fold_large-requires c =
    let p = c.requires in
    let q = part_spreadable p.comparable.0.0.flat.limits c.args.j p.comparable.1 in
    rw c.basis-basis.ensures (q.basis_few, q.basis_low, part_framed p.comparable.0.0 c.args.j p.comparable.1 p.ready.1 c.add_basis_rows.ensures)

pub spread-requires-clause-spreadable : goal.spread-requires-clause-spreadable
spread-requires-clause-spreadable c =
    let p = c.requires.comparable in
    let m = c.polynomial-multiplier.ensures in
    rw (c.basis-basis.ensures, m.exponents, m.coefficients)
    (part_spreadable p.0.0.flat.limits c.args.j p.1, (rw c.basis-basis.ensures at c.fold_large.ensures).framed)

pub returns : goal.returns
returns c =
    let p = c.requires in
    let g = c.add_basis_rows.ensures in
    let m = c.polynomial-multiplier.ensures in
    let t = rw c.basis-basis.ensures at c.fold_large.ensures in
    let u = rw (c.basis-basis.ensures, m.exponents, m.coefficients) at c.spread.ensures in (
      rows_summed p.comparable.0.0 c.args.j p.comparable.1 p.ready.1 g t u,
      spread_room p.comparable.0.0 c.args.j p.comparable.1 p.ready.1 g t u,
      basis_alone p.comparable.0.0 c.args.j p.comparable.1 (c.in-Some.ensures),
    )
