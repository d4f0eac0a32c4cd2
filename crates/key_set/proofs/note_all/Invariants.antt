-- `note_all`: after p turns the index is that of the first p keys.
use Rattle.key_set.specs.Table.{Indexed}
use Rattle.key_set.proofs.note_all.Given as goal

abbrev pub invariant-loop-p : goal.invariant-loop-p
invariant-loop-p l = Indexed l.index l.table l.p
