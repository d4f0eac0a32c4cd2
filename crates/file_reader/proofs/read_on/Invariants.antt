use Rattle.std.proofs.Common.{length, ◌-◌, ◌≤◌}
use Rattle.file_reader.proofs.read_on.Given as goal

-- the bytes that are there fit the buffer
abbrev pub invariant-loop-n : goal.invariant-loop-n
invariant-loop-n g l = l.n ≤ length l.bytes

-- each read that moves bytes moves at least one
abbrev pub decreases-loop-n : goal.decreases-loop-n
decreases-loop-n g l = length l.initial.bytes - l.n
