use Rattle.std.proofs.Common.{ℤ, ◌*◌, ap}
use mir.Facts.{to_z-of_z}
use Rattle.calls.specs.Fractions.{fraction}
use Rattle.fractions.proofs.Crossed.{Crossed, product, difference}
use Rattle.fractions.proofs.gap.Goals as goal

pub returns : goal.returns
returns c =
    let l = c.args.lower in
    let u = c.args.upper in
    let x : Crossed u.num l.den c.cross-a.result = record { small = c.requires.1.num; ensured = c.cross-a.ensures } in
    let y : Crossed l.num u.den c.cross-b.result = record { small = c.requires.0.num; ensured = c.cross-b.ensures } in
    ap (λ (n : ℤ). fraction n (u.den * l.den)) (simp (product x, product y, to_z-of_z (difference x y)))
