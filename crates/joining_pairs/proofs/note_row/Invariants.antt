-- `note_row`: the pairs of index i before k are noted.
use Rattle.std.proofs.Common.{◌+◌, ◌*◌}
use Rattle.round_laws.specs.Fits.{SumBits}
use Rattle.joining_pairs.specs.Pairs.{PairIndex, Beside}
use Rattle.joining_pairs.proofs.note_row.Given as goal

abbrev pub invariant-loop-k : goal.invariant-loop-k
invariant-loop-k l = record {
  index : PairIndex l.basis (64 * l.i + l.k) l.pairs;
  sums : SumBits l.basis (64 * l.i + l.k) l.bits;
  beside : Beside l.basis l.initial.pairs l.pairs;
}
