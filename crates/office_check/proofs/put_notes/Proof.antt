-- `put_notes`: the texts so far and those from the note at hand on are all of them.
use borrow.Author.Rules.{rules}
use native.Mathlib.Omega.{arith}
use mathlib.Core.Path.{◌≡◌, sym, ◌∙◌}
use mathlib.Core.Bool.{true}
use mathlib.Core.List.{List}
use Prim.Native.Nat.{ℕ, ◌+◌, ◌-◌, ◌≤◌, ◌<◌}
use lib.ListN.{length}
use Rattle.format.specs.Notes.{note_length}
use Rattle.office_check.specs.Steps.{note_here}
use Rattle.office_check.proofs.Walks.{here_inside}
use Rattle.office_check.proofs.Loops.{Next, Putting, putting_start, putting_room, putting_next, putting_end}
use Rattle.office_check.proofs.put_notes.Statement.{statement}
use Rattle.office_check.proofs.put_notes.Tie as tie

abbrev invariant-loop : tie.invariant-loop-buffer
invariant-loop s buffer₀ len₀ at₀ buffer len at = Putting s buffer₀ buffer len at

abbrev decreases-loop : tie.decreases-loop-buffer
decreases-loop s buffer₀ len₀ at₀ buffer len at = length s - at

-- at the loop's head
module _ (l : tie.At-loop-buffer invariant-loop decreases-loop) where
  abbrev start : tie.Start invariant-loop decreases-loop
  start = l.before.before.before.before

  abbrev s : List ℕ
  s = start.args.s.now

-- at a note
module _ (c : tie.In-loop-buffer invariant-loop decreases-loop) where
  abbrev head : tie.At-loop-buffer invariant-loop decreases-loop
  head = c.before.before

  here : note_here (s head) head.loop-buffer.at ≡ true
  here = sym c.note_at.ensures ∙ c.loop-buffer-test.true

  within : head.loop-buffer.at + note_length ≤ length (s head)
  within = here_inside (s head) head.loop-buffer.at here

  fits : head.loop-buffer.at + note_length < 18446744073709551616
  fits = omega (arith, within, (start head).well_formed.0.0)

first-note-requires : tie.Need-first_note-at-requires invariant-loop decreases-loop
first-note-requires c κs = search rules

loop-holds : tie.Need-loop-buffer-init invariant-loop decreases-loop
loop-holds c =
    let k = c.first_note-at.ensures in
    putting_start c.args.s.now _ _ (record { inside = k.1; reached = k.0 })

note-at-requires : tie.Need-note_at-requires invariant-loop decreases-loop
note-at-requires c κs = c.loop-buffer.invariant.on.inside

add-append : tie.Need-overflow_add-at invariant-loop decreases-loop
add-append c = record { fits = omega (arith, fits c) }

add-append-2 : tie.Need-overflow_add-at-in-loop-buffer invariant-loop decreases-loop
add-append-2 c = record { fits = omega (arith, fits c) }

append-requires : tie.Need-append-len-requires invariant-loop decreases-loop
append-requires c κs =
    let d = c in
    let l = head d.before in
    let room = putting_room _ _ _ _ _ l.loop-buffer.invariant (start l).requires (here d.before) in
    (omega arith, within d.before, omega (arith, room))

add-next-note : tie.Need-overflow_add-at-in-loop-buffer-2 invariant-loop decreases-loop
add-next-note c = record { fits = omega (arith, fits c.before.before.before.before) }

next-note-requires : tie.Need-next_note-at-requires invariant-loop decreases-loop
next-note-requires c κs = within c.before.before.before.before

-- the turn's branch
abbrev turn : tie.After-next_note-at invariant-loop decreases-loop → tie.In-loop-buffer invariant-loop decreases-loop
turn c = c.before.before.before.before.before

next : (c : tie.After-next_note-at invariant-loop decreases-loop)
    → Next (s (head (turn c))) (head (turn c)).loop-buffer.at c.next_note-at.result
next c =
    let k = c.next_note-at.ensures in
    record { further = k.1.0; inside = k.1.1; reached = k.0 }

loop-less : tie.Need-loop-buffer-smaller invariant-loop decreases-loop
loop-less c = let n = next c in omega (arith, within (turn c), n.further, n.inside)

loop-again : tie.Need-loop-buffer-preserved invariant-loop decreases-loop
loop-again c =
    let l = head (turn c) in
    putting_next _ _ _ _ _ l.loop-buffer.invariant (start l).requires (here (turn c)) _ _ c.append-len.ensures _
    (next c)

same_length : tie.Need-shape_of-buffer invariant-loop decreases-loop
same_length c = c.loop-buffer.invariant.long

returns : tie.Need-returns invariant-loop decreases-loop
returns c =
    let l = c in
    putting_end _ _ _ _ _ l.loop-buffer.invariant (start l.before.before).requires (sym c.note_at.ensures ∙ c.loop-buffer-test.false)

pub put_notes_spec : {M : Type 1} → statement M
put_notes_spec =
    tie.close
    (tie.spec
    invariant-loop
    decreases-loop
    first-note-requires
    loop-holds
    note-at-requires
    add-append
    add-append-2
    append-requires
    add-next-note
    next-note-requires
    loop-less
    loop-again
    same_length
    returns)
