-- `widest`: the widest of the gaps scanned so far, from the oldest on.
use Rattle.std.proofs.Common.{◌≡◌, ◌≤◌, length}
use Rattle.gap_window.proofs.Scanned.{scanned}
use Rattle.gap_window.proofs.widest.Given as goal
use Rattle.calls.specs.Window.{widest_of}

abbrev pub invariant-loop-newer : goal.invariant-loop-newer
invariant-loop-newer l =
    record { young : l.widest.age ≤ length l.yielded; widest : l.widest ≡ widest_of (scanned l.yielded) }
