-- `remove`: the copy so far and the stream from here on, without the notes that are left, are the stream without notes.
use borrow.Author.Rules.{rules}
use native.Mathlib.Omega.{arith}
use mathlib.Core.Path.{◌≡◌, sym, ◌∙◌}
use mathlib.Core.Bool.{true, false}
use mathlib.Core.List.{List}
use Prim.Native.Nat.{ℕ, ◌+◌, ◌-◌, ◌≤◌}
use lib.ListN.{length}
use Rattle.format.specs.Notes.{note_length}
use Rattle.format.proofs.Notes.{end_inside}
use Rattle.office_check.specs.Steps.{note_here}
use Rattle.office_check.proofs.Walks.{here_inside, end_before}
use Rattle.office_check.proofs.Loops.{Next, at_walk_end, Removing, removing_start, removing_next, removing_end}
use Rattle.office_check.proofs.remove.Statement.{statement}
use Rattle.office_check.proofs.remove.Tie as tie

abbrev invariant-loop : tie.invariant-loop-copy
invariant-loop s end copy₀ from₀ len₀ at₀ copy from len at = Removing s copy₀ copy from len at

abbrev decreases-loop : tie.decreases-loop-copy
decreases-loop s end copy₀ from₀ len₀ at₀ copy from len at = length s - at

-- at the loop's head
module _ (l : tie.At-loop-copy invariant-loop decreases-loop) where
  abbrev start : tie.Start invariant-loop decreases-loop
  start = l.before.before.before.before

  abbrev s : List ℕ
  s = start.args.s.now

-- at a note
module _ (c : tie.In-loop-copy invariant-loop decreases-loop) where
  abbrev head : tie.At-loop-copy invariant-loop decreases-loop
  head = c.before.before

  here : note_here (s head) head.loop-copy.at ≡ true
  here = sym c.note_at.ensures ∙ c.loop-copy-test.true

  within : head.loop-copy.at + note_length ≤ length (s head)
  within = here_inside (s head) head.loop-copy.at here

-- behind the last
module _ (c : tie.After-loop-copy invariant-loop decreases-loop) where
  abbrev last : tie.At-loop-copy invariant-loop decreases-loop
  last = c.before.before

  away : note_here (s last) last.loop-copy.at ≡ false
  away = sym c.note_at.ensures ∙ c.loop-copy-test.false

first-note-requires : tie.Need-first_note-at-requires invariant-loop decreases-loop
first-note-requires c κs = search rules

loop-holds : tie.Need-loop-copy-init invariant-loop decreases-loop
loop-holds c =
    let k = c.first_note-at.ensures in
    removing_start c.args.s.now _ _ (record { inside = k.1; reached = k.0 })

note-at-requires : tie.Need-note_at-requires invariant-loop decreases-loop
note-at-requires c κs = c.loop-copy.invariant.on.inside

append-requires : tie.Need-append-len-requires invariant-loop decreases-loop
append-requires c κs =
    let k = (head c.before).loop-copy.invariant in
    (k.order, k.on.inside, omega (arith, k.within, k.long))

add_from : tie.Need-overflow_add-from invariant-loop decreases-loop
add_from c =
    let d = c in
    record { fits = omega (arith, within d.before.before.before.before, (start (head d.before.before.before.before)).well_formed.0.0) }

next-note-requires : tie.Need-next_note-at-requires invariant-loop decreases-loop
next-note-requires c κs = within c.before.before.before.before

-- the turn's branch
abbrev turn : tie.After-next_note-at invariant-loop decreases-loop → tie.In-loop-copy invariant-loop decreases-loop
turn c = c.before.before.before.before.before

next : (c : tie.After-next_note-at invariant-loop decreases-loop)
    → Next (s (head (turn c))) (head (turn c)).loop-copy.at c.next_note-at.result
next c =
    let k = c.next_note-at.ensures in
    record { further = k.1.0; inside = k.1.1; reached = k.0 }

loop-less : tie.Need-loop-copy-smaller invariant-loop decreases-loop
loop-less c = let n = next c in omega (arith, within (turn c), n.further, n.inside)

loop-again : tie.Need-loop-copy-preserved invariant-loop decreases-loop
loop-again c =
    removing_next _ _ _ _ _ _ (head (turn c)).loop-copy.invariant (here (turn c)) _ _ c.append-len.ensures _
    (next c)

append-requires-2 : tie.Need-append-requires invariant-loop decreases-loop
append-requires-2 c κs =
    let d = c in
    let b = s (last d.before) in
    let k = (last d.before).loop-copy.invariant in
    let e = at_walk_end b (last d.before).loop-copy.at k.rest k.on (away d.before) in
    let p = (start (last d.before)).requires in (
      omega (arith, k.order, end_before b),
      omega (arith, end_inside b),
      omega (arith, k.within, k.long),
    )

same_length : tie.Need-shape_of-copy invariant-loop decreases-loop
same_length c = search rules

returns : tie.Need-returns invariant-loop decreases-loop
returns c =
    let d = c in
    removing_end _ _ _ _ _ _ (last d.before.before.before.before).loop-copy.invariant (away d.before.before.before.before) _ _
    (rw (start (last d.before.before.before.before)).requires at c.append.ensures)

pub remove_spec : {M : Type 1} → statement M
remove_spec =
    tie.close
    (tie.spec
    invariant-loop
    decreases-loop
    first-note-requires
    loop-holds
    note-at-requires
    append-requires
    add_from
    next-note-requires
    loop-less
    loop-again
    append-requires-2
    same_length
    returns)
