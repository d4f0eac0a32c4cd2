-- `low_digit`: what the upper digit leaves, and each step fits.
use Rattle.std.proofs.Common.{w64}
use mir.Facts.{to_z-of_z, sfits_widen}
use mir.Val.{SFits}
use Rattle.row_digits.specs.Digits.{low_digit}
use Rattle.row_digits.proofs.Digits.{high_fits, high_narrow, multiple_fits, low_fits, low_narrow}
use Rattle.row_digits.proofs.low_digit.Goals as goal

pub overflow_cast-result : goal.overflow_cast-result
unfolding low_digit
overflow_cast-result c =
    let f = c.ranges.l in
    let v : SFits w64 c.args.l = sfits_widen tt f in
    rw (c.from.ensures, c.from-2.ensures, c.high_digit.ensures)
    (simp (to_z-of_z, f, v, high_narrow f, high_fits f, multiple_fits f, low_fits f) (low_narrow f))

pub returns : goal.returns
unfolding low_digit
returns c =
    let f = c.ranges.l in
    let v : SFits w64 c.args.l = sfits_widen tt f in
    rw (c.from.ensures, c.from-2.ensures, c.high_digit.ensures)
    (simp (to_z-of_z, f, v, high_narrow f, high_fits f, multiple_fits f, low_fits f, low_narrow f))
