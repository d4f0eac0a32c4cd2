-- `add_cross`: the lower digits with the upper ones, then the upper with the lower; without a wide factor there is nothing to add.
use Rattle.std.proofs.Common.{arith}
use mir.Facts.{to_z-of_z}
use Rattle.row_digits.proofs.Digits.{cross_upper, held_narrow}
use Rattle.row_products.proofs.Gathering.{low_digit_entries, high_digit_entries, not_added, cross_below, cross_added}
use Rattle.row_products.proofs.add_cross.Goals as goal

pub returns-then-not-high_digits : goal.returns-then-not-high_digits
returns-then-not-high_digits c =
    not_added c.requires cross_upper (held_narrow c.high_digits.ensures c.args.indices.now c.if-not-high_digits.true)

pub add_outer-requires : goal.add_outer-requires
add_outer-requires c =
    let p = c.requires in (
      low_digit_entries p c.keep_low_digits.ensures,
      high_digit_entries p c.high_digits.ensures,
      λ x. omega (arith, p.below x),
      rw (to_z-of_z c.ranges.w) p.weight_small,
    )

pub add_outer-requires-2 : goal.add_outer-requires-2
add_outer-requires-2 c =
    let p = c.requires in
    let r = rw (to_z-of_z c.ranges.w) at c.add_outer.ensures in
    rw r.long (
      high_digit_entries p c.high_digits.ensures,
      low_digit_entries p c.keep_low_digits.ensures,
      λ x. omega (arith, cross_below p c.keep_low_digits.ensures c.high_digits.ensures r x),
      rw (to_z-of_z c.ranges.w) p.weight_small,
    )

pub returns : goal.returns
returns c =
    cross_added c.requires c.keep_low_digits.ensures c.high_digits.ensures (rw (to_z-of_z c.ranges.w) at c.add_outer.ensures)
    (rw (to_z-of_z c.ranges.w) at c.add_outer-2.ensures)
