-- `spread`: the places before x are spread and 0, those from x on are as they were; x is on or above the diagonal, or past
-- the rows of the basis's indices.
use Rattle.std.proofs.Common.{◌*◌, ◌/◌, ◌%◌, ◌-◌, ◌≤◌, ◌⊎◌, length}
use Rattle.identity_sums.specs.Bundles.{held}
use Rattle.identity_rows.proofs.Spreading.{Spreading}
use Rattle.identity_rows.proofs.spread.Given as goal

abbrev pub invariant-loop-x : goal.invariant-loop-x
invariant-loop-x l =
    Spreading l.keys.table.now l.keys.count l.basis (held l.multiplier) l.initial.g l.initial.hi l.initial.lo l.x l.g l.hi l.lo
    × ((l.x / 64 ≤ l.x % 64) ⊎ (64 * length l.basis ≤ l.x))

abbrev pub decreases-loop-x : goal.decreases-loop-x
decreases-loop-x l = l.last - l.x
