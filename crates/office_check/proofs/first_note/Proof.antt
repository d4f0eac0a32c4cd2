-- `first_note`: the walk from its start.
use borrow.Author.Rules.{rules}
use native.Mathlib.Omega.{arith}
use mathlib.Core.Path.{sym, subst}
use Prim.Native.Nat.{ℕ}
use Rattle.format.specs.Notes.{note_offsets, walk_end}
use Rattle.format.proofs.Walk.{start_inside, Walking, walking_start}
use Rattle.office_check.proofs.first_note.Statement.{statement}
use Rattle.office_check.proofs.first_note.Tie as tie

walk-start-requires : tie.Need-walk_start-requires
walk-start-requires c κs = search rules

next-note-requires : tie.Need-next_note-requires
next-note-requires c κs = omega (arith, c.walk_start.ensures, start_inside c.args.s.now)

returns : tie.Need-returns
returns c =
    let s = c.args.s.now in
    let w =
    subst (λ (x : ℕ). Walking s x (note_offsets s) (walk_end s)) (sym c.walk_start.ensures)
    (walking_start s) in
    (c.next_note.ensures.0 _ _ w, c.next_note.ensures.1.1)

pub first_note_spec : {M : Type 1} → statement M
first_note_spec = tie.close (tie.spec walk-start-requires next-note-requires returns)
