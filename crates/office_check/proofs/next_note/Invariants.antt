-- `next_note`: what the loop keeps is that a walk from the start has come here.
use Rattle.std.proofs.Common.{ℕ, List, ◌≤◌, ◌-◌, length}
use Rattle.format.proofs.Walk.{Walking}
use Rattle.office_check.proofs.next_note.Given as goal

abbrev pub invariant-loop-n : goal.invariant-loop-n
invariant-loop-n l =
    ((l.fn.from ≤ l.at) × (l.at ≤ length l.s)) × ((m : List ℕ) (e : ℕ) → Walking l.s l.fn.from m e → Walking l.s l.at m e)

abbrev pub decreases-loop-n : goal.decreases-loop-n
decreases-loop-n l = length l.s - l.at
