-- `note_all`: one more key is noted.
use Rattle.std.proofs.Common.{◌≡◌, ◌<◌, get_or, take, refl, arith, length-take-le}
use Rattle.std.proofs.Math.Seq.{get_or-take}
use Rattle.key_set.proofs.Keys.{inside}
use Rattle.key_set.proofs.Index.{indexed_next}
use Rattle.key_set.proofs.note_all.Goals as goal

pub loop-p-preserved : goal.loop-p-preserved
loop-p-preserved c =
    let t = c.args.table.now in
    let l = length-take-le c.args.len t (inside c.requires.0) in
    let b : c.loop-p.p < c.args.len = omega arith in
    let e : get_or (take c.args.len t) c.loop-p.p 0 ≡ get_or t c.loop-p.p 0 = get_or-take c.args.len t c.loop-p.p 0 b in
    rw (c.note.ensures, c.slot-at.ensures, e) (indexed_next c.loop-p.invariant (omega (arith, c.requires.0.few)) t (λ q b. refl))
