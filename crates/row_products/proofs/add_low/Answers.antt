-- `add_low`: the lower digits on both sides.
use Rattle.std.proofs.Common.{arith}
use mir.Facts.{to_z-of_z}
use Rattle.row_products.proofs.Gathering.{low_digit_entries, low_added}
use Rattle.row_products.proofs.add_low.Goals as goal

pub add_outer-requires : goal.add_outer-requires
add_outer-requires c =
    let p = c.requires in
    let e = low_digit_entries p c.keep_low_digits-wide.ensures in
    (e, e, λ x. omega (arith, p.below x), rw (to_z-of_z c.ranges.w) p.weight_small)

pub returns : goal.returns
returns c = low_added c.requires c.keep_low_digits-wide.ensures (rw (to_z-of_z c.ranges.w) at c.add_outer.ensures)
