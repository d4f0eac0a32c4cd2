-- The bases before this one have their counts.
use Rattle.std.proofs.Common.{◌≡◌, ℕ, ◌<◌, length, get_or}
use Rattle.joining_bases.proofs.start_state.Given as goal

abbrev pub invariant-loop-j : goal.invariant-loop-j
invariant-loop-j l = (length l.state ≡ 18) × ((i : ℕ) → i < l.j → get_or l.state i 0 ≡ get_or l.sizes i 0)
