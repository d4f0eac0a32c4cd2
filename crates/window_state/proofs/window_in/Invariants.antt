-- `window_in`: the array is filled from the newest gap on.
use Rattle.std.proofs.Common.{◌≡◌, length, take}
use Rattle.counting.specs.Counting.{listed}
use Rattle.verdict_numbers.specs.States.{gap_in}
use Rattle.window_state.proofs.window_in.Given as goal

abbrev pub invariant-loop-age : goal.invariant-loop-age
invariant-loop-age l = (length l.gaps ≡ 32) × (take l.age l.gaps ≡ listed l.age (gap_in l.state))
