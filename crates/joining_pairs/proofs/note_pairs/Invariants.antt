-- `note_pairs`: the pairs of the indices before i are noted.
use Rattle.std.proofs.Common.{◌*◌}
use Rattle.round_laws.specs.Fits.{SumBits}
use Rattle.joining_pairs.specs.Pairs.{PairIndex, Beside}
use Rattle.joining_pairs.proofs.note_pairs.Given as goal

abbrev pub invariant-loop-i : goal.invariant-loop-i
invariant-loop-i l = record {
  index : PairIndex l.basis (64 * l.i) l.pairs;
  sums : SumBits l.basis (64 * l.i) l.bits;
  beside : Beside l.basis l.initial.pairs l.pairs;
}
