-- `add_term`: the number is added at the place that the search tells, or it tells that there is none and nothing is added.
use Rattle.std.proofs.Common.{arith}
use mir.Facts.{to_z-of_z, sfits_widen}
use mir.Syntax.{w64}
use mir.Val.{SFits}
use Rattle.identity_sums.proofs.Growth.{sought_at, sought_nowhere, found_inside, room_high, room_low, grown_at, grown_gap}
use Rattle.identity_sums.proofs.add_term.Goals as goal

-- the coefficient as a number of 64 bits
pub add-requires : goal.add-requires
add-requires c =
    let p = c.requires in
    let t = sought_at p.0.support c.args.key _ c.find_at.ensures _ c.in-Ok.is in
    let b = found_inside p.0.support c.args.key _ c.find_at.ensures _ c.in-Ok.is in
    let w : SFits w64 c.args.c = sfits_widen tt c.ranges.c in
    simp (to_z-of_z, c.ranges.c, w) (
      room_high p.0 c.args.key _ t c.args.x c.args.c b p.1,
      room_low p.0 c.args.key _ t c.args.x c.args.c b p.1,
    )

pub returns-in-Ok : goal.returns-in-Ok
returns-in-Ok c =
    let p = c.requires in
    let t = sought_at p.0.support c.args.key _ c.find_at.ensures _ c.in-Ok.is in
    let b = found_inside p.0.support c.args.key _ c.find_at.ensures _ c.in-Ok.is in
    let w : SFits w64 c.args.c = sfits_widen tt c.ranges.c in
    let e = simp (to_z-of_z, c.ranges.c, w) at c.add.ensures in
    grown_at p.0 c.args.key _ t c.args.x c.args.c b p.1 e.0 e.1

pub returns-in-Err : goal.returns-in-Err
returns-in-Err c =
    grown_gap c.requires.0 c.args.key _ (sought_nowhere c.requires.0.support c.args.key _ c.find_at.ensures _ c.in-Err.is) c.args.x c.args.c (omega arith)
