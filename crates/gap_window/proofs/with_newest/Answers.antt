use Rattle.std.proofs.Common.{◌≡◌, ap₂, length, ◌+◌, min, append-nil, arith}
use Rattle.gap_window.proofs.Scanned.{newest_first, window_of}
use Rattle.gap_window.proofs.with_newest.Goals as goal

pub returns : goal.returns
returns c =
    let w = c.args.window in
    let l : length w.gaps ≡ 32 = omega arith in
    let m : c.min-count.result + 1 ≡ min 32 (w.count + 1) = omega (arith, c.min-count.ensures) in
    ap₂ window_of (rw (append-nil c.copy_from_slice.new.self, c.copy_from_slice.ensures.after) (newest_first c.args.newest w.gaps l)) m
