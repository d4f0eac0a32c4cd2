-- `add`: there is room for both products.
use Rattle.std.proofs.Common.{refl, get_or, pos, w64, rules}
use mir.Facts.{to_z-of_z}
use mir.Val.{SFits}
use Rattle.wide_sums.specs.Sums.{added_at}
use Rattle.wide_sums.proofs.Tables.{number_fits, sum_fits}
use Rattle.wide_sums.proofs.add.Goals as goal

pub returns : goal.returns
unfolding added_at
returns c =
    let p = c.requires in
    let x : SFits w64 c.args.x.high = search rules in
    let y : SFits w64 c.args.x.low = search rules in
    let h : SFits w64 (get_or c.args.hi.now c.args.at (pos 0)) = search rules in
    let l : SFits w64 (get_or c.args.lo.now c.args.at (pos 0)) = search rules in
    simp (to_z-of_z, c.ranges.c, x, y, number_fits p.0, number_fits p.1, h, l, sum_fits p.0, sum_fits p.1) (refl, refl)
