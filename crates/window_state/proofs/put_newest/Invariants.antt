-- `put_newest`: the numbers are moved from the last on.
use Rattle.std.proofs.Common.{◌≡◌, ◌≤◌}
use Rattle.calls.specs.Report.{unsigned}
use Rattle.window_state.proofs.Shifted.{replaced, later}
use Rattle.window_state.proofs.put_newest.Given as goal

abbrev pub invariant-loop-i : goal.invariant-loop-i
invariant-loop-i l =
    (2 ≤ l.i) × (l.state ≡ replaced l.initial.state (later l.initial.state (unsigned 63 l.newest.num) l.newest.den) l.i)
