-- `add_number`: the halves of a number of 64 bits are small, and taken once they are the number.
use Rattle.std.proofs.Common.{◌≡◌, arith}
use mir.Facts.{to_z-of_z}
use Rattle.wide_sums.specs.Sums.{halves_of}
use Rattle.identity_sums.proofs.Growth.{grown_same}
use Rattle.identity_sums.proofs.Products.{scaled_once, halves_once}
use Rattle.identity_sums.proofs.add_number.Goals as goal

pub add_term-requires : goal.add_term-requires
add_term-requires c =
    (c.requires, rw (c.cut.ensures, to_z-of_z c.ranges.y) (scaled_once c.args.y c.ranges.y), c.slot-at.ensures)

pub returns : goal.returns
returns c =
    let cut-is : c.cut.result ≡ halves_of c.args.y = rw (to_z-of_z c.ranges.y) at c.cut.ensures in
    grown_same c.add_term.ensures (λ k. halves_once c.args.y _ cut-is _) (omega arith)
