-- `high_digit`: the shift is floor division by 2^16, and each step fits.
use Rattle.std.proofs.Common.{w64}
use mir.Facts.{to_z-of_z, sfits_widen}
use mir.Val.{SFits}
use Rattle.row_digits.specs.Digits.{high_digit}
use Rattle.row_digits.proofs.Digits.{moved_fits, high_fits, high_narrow}
use Rattle.row_digits.proofs.high_digit.Goals as goal

pub returns : goal.returns
unfolding high_digit
returns c =
    let f = c.ranges.l in
    let v : SFits w64 c.args.l = sfits_widen tt f in
    rw c.from.ensures (simp (to_z-of_z, f, v, moved_fits f, high_fits f, high_narrow f))
