-- `add_high`: the upper digits on both sides; without a wide factor there is nothing to add.
use Rattle.std.proofs.Common.{arith}
use mir.Facts.{to_z-of_z}
use Rattle.row_digits.proofs.Digits.{high_upper, held_narrow}
use Rattle.row_products.proofs.Gathering.{high_digit_entries, not_added, high_added}
use Rattle.row_products.proofs.add_high.Goals as goal

pub returns-then-not-high_digits : goal.returns-then-not-high_digits
returns-then-not-high_digits c =
    not_added c.requires high_upper (held_narrow c.high_digits.ensures c.args.indices.now c.if-not-high_digits.true)

pub add_outer-requires : goal.add_outer-requires
add_outer-requires c =
    let p = c.requires in
    let e = high_digit_entries p c.high_digits.ensures in
    (e, e, λ x. omega (arith, p.below x), rw (to_z-of_z c.ranges.w) p.weight_small)

pub returns : goal.returns
returns c = high_added c.requires c.high_digits.ensures (rw (to_z-of_z c.ranges.w) at c.add_outer.ensures)
