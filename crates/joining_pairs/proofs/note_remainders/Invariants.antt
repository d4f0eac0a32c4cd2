-- `note_remainders`: the remainders of the keys before i are written.
use Rattle.std.proofs.Common.{ℕ, ◌%◌, get_or}
use Rattle.joining_pairs.specs.Pairs.{sum_divisor}
use Rattle.joining_pairs.proofs.Pairs.{Written}
use Rattle.joining_pairs.proofs.note_remainders.Given as goal

abbrev pub invariant-loop-i : goal.invariant-loop-i
invariant-loop-i l = Written 6176 (λ (j : ℕ). get_or l.basis j 0 % sum_divisor) l.initial.pairs l.i l.pairs
