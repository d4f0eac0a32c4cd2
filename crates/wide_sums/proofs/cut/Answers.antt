-- `cut`: the shift is floor division by 2^27, and each step fits 64 bits.
use mir.Facts.{to_z-of_z}
use Rattle.wide_sums.specs.Sums.{cut_at}
use Rattle.wide_sums.proofs.Floors.{halves_fit}
use Rattle.wide_sums.proofs.cut.Goals as goal

pub returns : goal.returns
unfolding cut_at
returns c = let f = halves_fit c.args.x c.ranges.x in simp (to_z-of_z, c.ranges.x, f.high, f.multiple, f.low)
