-- `note_slots`: the slots of the exponents before i are written.
use Rattle.std.proofs.Common.{ℕ, ◌%◌, get_or}
use Rattle.key_set.specs.Table.{first}
use Rattle.joining_pairs.proofs.Pairs.{Written}
use Rattle.joining_pairs.proofs.note_slots.Given as goal

abbrev pub invariant-loop-i : goal.invariant-loop-i
invariant-loop-i l = Written 6144 (λ (j : ℕ). get_or l.exponents j 0 % first) l.initial.pairs l.i l.pairs
