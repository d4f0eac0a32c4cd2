use Rattle.std.proofs.Common.{ℤ, ◌*◌, ap}
use mir.Facts.{to_z-of_z}
use Rattle.calls.specs.Fractions.{fraction}
use Rattle.fractions.proofs.Crossed.{Crossed, product, total}
use Rattle.fractions.proofs.sum.Goals as goal

pub returns : goal.returns
returns c =
    let f = c.args.first in
    let o = c.args.other in
    let x : Crossed f.num o.den c.cross-a.result = record { small = c.requires.0.num; ensured = c.cross-a.ensures } in
    let y : Crossed o.num f.den c.cross-b.result = record { small = c.requires.1.num; ensured = c.cross-b.ensures } in
    ap (λ (n : ℤ). fraction n (f.den * o.den)) (simp (product x, product y, to_z-of_z (total x y)))
