-- The pairs of one more basis are noted, where it is not small.
use Rattle.std.proofs.Common.{arith}
use Rattle.joining_bases.proofs.Noting.{noting_start, noting_skip, noting_lent, noting_next}
use Rattle.joining_bases.proofs.note_all.Goals as goal
use Rattle.joining_bases.proofs.note_all.Goals.{then-sizes-j-gt-PLAIN, else-sizes-j-gt-PLAIN}

pub loop-j-init : goal.loop-j-init
loop-j-init c = rw c.requires.1 (noting_start _ _ _ c.requires.2)

pub note-requires : goal.note-requires
note-requires c =
    (noting_lent _ _ _ c.loop-j.j _ _ c.loop-j.invariant (omega arith), rw (c.exponents-exponents.ensures, c.basis-basis.ensures) (c.requires.0.limits c.loop-j.j (omega arith)))

pub loop-j-preserved : goal.loop-j-preserved
loop-j-preserved c =
    elim c.if-sizes-j-gt-PLAIN.branch [
      | then-sizes-j-gt-PLAIN w ↦ rw (w.pairs-is, w.state-is) (noting_next _ _ _ c.loop-j.j _ _ c.loop-j.invariant (omega arith) _ _ w.exponents-exponents.ensures w.basis-basis.ensures _ w.note.auto.pairs _ w.note.ensures)
      | else-sizes-j-gt-PLAIN w ↦ rw (w.pairs-is, w.state-is) (noting_skip _ _ _ c.loop-j.j _ _ c.loop-j.invariant w.if-sizes-j-gt-PLAIN.false)
    ]
