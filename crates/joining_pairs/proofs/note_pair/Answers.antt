-- `note_pair`: one pair more.
use Rattle.std.proofs.Common.{◌<◌, length, refl, arith}
use Rattle.joining_pairs.proofs.Pairs.{index_next, beside_next}
use Rattle.joining_pairs.proofs.note_pair.Goals as goal

pub remainder_of-h-requires : goal.remainder_of-h-requires
remainder_of-h-requires c =
    let p = c.requires in
    let r = p.1.remainders in
    let h : c.args.i < length c.args.basis.now = omega arith in
    (r.long, (omega (arith, p.0.few), omega (arith, r.at _ h)), (omega (arith, p.0.few), omega (arith, r.at _ p.3)))

pub overflow_add-result : goal.overflow_add-result
overflow_add-result c = omega (arith, c.requires.0.keys c.args.i, c.requires.0.keys c.args.k)

pub returns : goal.returns
returns c =
    let p = c.requires in
    let e = c.remainder_of-h.ensures in
    (refl, index_next _ p.0.few _ _ p.2 p.3 _ p.1 _ e, beside_next _ p.0.few _ _ p.2 p.3 _ p.1 _ e)
