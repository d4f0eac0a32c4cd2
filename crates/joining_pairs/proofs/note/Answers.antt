-- `note`: the slots, the remainders and the pairs.
use Rattle.std.proofs.Common.{◌∙◌, arith}
use Rattle.joining_pairs.proofs.Told.{told_low}
use Rattle.joining_pairs.proofs.Pairs.{index_start}
use Rattle.joining_pairs.proofs.note.Goals as goal

pub note_pairs-requires : goal.note_pairs-requires
note_pairs-requires c =
    let r = c.note_remainders.ensures in
    (c.requires.1.basis, index_start _ _ r.0 (λ q h. r.1 q (omega arith) ∙ c.note_slots.ensures.1 q (omega arith)))

pub returns : goal.returns
returns c =
    let p = c.requires in
    let v = c.note_pairs.ensures in
    let r = c.note_remainders.ensures in
    let s = c.note_slots.ensures in
    record {
      index = v.0;
      slots = record {
        long = v.0.remainders.long;
        at = λ i h. v.2.slots _ (omega arith) ∙ r.1 _ (omega (arith, h, p.1.few)) ∙ s.0.at i h;
      };
      untold = λ q e. let l = told_low _ p.1.basis.few q e in v.2.told q e ∙ r.1 _ (omega (arith, l)) ∙ s.1 _ l;
      sums = v.1;
    }
