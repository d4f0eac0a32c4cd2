-- `is_done`: it is told of a sum at the place of its last pair.
use Rattle.std.proofs.Common.{arith}
use Rattle.counting.proofs.Cases.{never}
use Rattle.joining_pairs.proofs.Places.{pair_order}
use Rattle.joining_pairs.proofs.Told.{told_low}
use Rattle.joining_pairs.proofs.Pairs.{marked_one}
use Rattle.joining_pairs.proofs.is_done.Goals as goal

pub told_at-at-requires : goal.told_at-at-requires
told_at-at-requires c = let o = pair_order _ _ c.in-Some.ensures.pair in omega (arith, o.0, o.1)

pub bounds-pairs-at : goal.bounds-pairs-at
bounds-pairs-at c = omega (arith, told_low _ c.requires.0.few _ c.in-Some.ensures.pair)

pub bounds-pairs-at-2 : goal.bounds-pairs-at-2
bounds-pairs-at-2 c = omega (arith, told_low _ c.requires.0.few _ c.in-Some.ensures.pair)

pub returns : goal.returns
returns c =
    let f = c.in-Some.ensures in
    record {
      before = λ d. never d;
      same = λ d. never d;
      marked = λ _. rw c.told_at-at.ensures (marked_one _ c.requires.0.few _ _ f.pair f.sum _ c.requires.1.remainders.long);
    }
