-- `renew`: an index of no keys, and then of all.
use Rattle.std.proofs.Common.{sym, arith, length-take-le}
use Rattle.key_set.proofs.Index.{indexed_cleared}
use Rattle.key_set.proofs.renew.Goals as goal

pub slice_bounds-fill-end-2 : goal.slice_bounds-fill-end-2
slice_bounds-fill-end-2 c = sym (length-take-le _ c.args.index.now (omega arith))

pub note_all-requires : goal.note_all-requires
note_all-requires c =
    let p = c.requires in
    (p.0, indexed_cleared 4096 c.args.index.now c.fill.new.self c.args.table.now c.args.below (c.fill.ensures.after (λ y e. e)) p.1 (omega arith) (omega arith) p.2)
