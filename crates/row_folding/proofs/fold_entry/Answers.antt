-- `fold_entry`: an entry is moved to a place that has the same product b × b', or left.
use Rattle.std.proofs.Common.{◌≤◌, ◌^◌, get_or, pos, nat_abs, ◌+ℤ◌, w64, arith, rules}
use mir.Facts.{to_z-of_z}
use mir.Val.{SFits}
use Rattle.integers.proofs.Ranges.{abs_fits, abs_sum}
use Rattle.row_folding.proofs.Folds.{folded_moved}
use Rattle.row_folding.proofs.fold_entry.Goals as goal

pub returns-then-is_low : goal.returns-then-is_low
returns-then-is_low c =
    let p = c.requires in
    let x = c.args.x in
    let y = c.from-y.result in
    let a = get_or c.args.g.now x (pos 0) in
    let z = get_or c.args.g.now y (pos 0) in
    let u : SFits w64 a = abs_fits (omega (arith, p.3.small)) in
    let v : SFits w64 z = search rules in
    let room : nat_abs z ≤ 2 ^ 53 = rw (to_z-of_z v) at (c.is_low.ensures c.if-is_low.true) in
    let w : SFits w64 (z +ℤ a) = abs_fits (omega (arith, p.3.small, room, abs_sum z a)) in
    simp (to_z-of_z, u, v, w) (folded_moved _ x _ p.1 p.2 p.3.small y c.if-y-x.true (c.is_pair.ensures c.if-is_pair.true) room)
