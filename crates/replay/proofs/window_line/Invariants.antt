use Rattle.std.proofs.Common.{◌≡◌, ◌+◌, ◌*◌, ◌/◌, ◌≤◌, length}
use Rattle.replay.proofs.Written.{Written}
use Rattle.replay.proofs.window_line.Given as goal

-- what is written, with the outcomes that are left, is the line
abbrev pub invariant-loop-i : goal.invariant-loop-i
invariant-loop-i l = record {
  counted : l.i ≤ length l.run / 16;
  short : l.at ≤ 6 + 65 * l.i;
  same_length : length l.out ≡ length l.initial.out;
  written : Written l.run l.out l.at l.window l.i;
}
