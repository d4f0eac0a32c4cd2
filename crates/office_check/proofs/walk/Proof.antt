-- `walk`: the notes so far and those from the one at hand on are all of them.
use borrow.Author.Rules.{rules}
use native.Mathlib.Omega.{arith}
use mathlib.Core.Path.{◌≡◌, sym, ◌∙◌}
use mathlib.Core.Bool.{true, false}
use mathlib.Core.List.{List}
use Prim.Native.Nat.{ℕ, ◌+◌, ◌-◌, ◌≤◌, ◌<◌}
use lib.ListN.{length}
use Rattle.format.specs.Notes.{note_length}
use Rattle.office_check.specs.Steps.{note_here}
use Rattle.office_check.proofs.Walks.{here_inside}
use Rattle.office_check.proofs.Loops.{Next, at_walk_end, Counting, counting_start, counting_next, counting_end}
use Rattle.office_check.proofs.walk.Statement.{statement}
use Rattle.office_check.proofs.walk.Tie as tie

abbrev invariant-loop : tie.invariant-loop-notes
invariant-loop s notes₀ at₀ notes at = Counting s notes at

abbrev decreases-loop : tie.decreases-loop-notes
decreases-loop s notes₀ at₀ notes at = length s - at

-- at the loop's head
module _ (l : tie.At-loop-notes invariant-loop decreases-loop) where
  abbrev s : List ℕ
  s = l.args.s.now

-- at a note
module _ (c : tie.In-loop-notes invariant-loop decreases-loop) where
  abbrev head : tie.At-loop-notes invariant-loop decreases-loop
  head = c.before.before

  here : note_here (s head) head.loop-notes.at ≡ true
  here = sym c.note_at.ensures ∙ c.loop-notes-test.true

  within : head.loop-notes.at + note_length ≤ length (s head)
  within = here_inside (s head) head.loop-notes.at here

  fits : head.loop-notes.at + note_length < 18446744073709551616
  fits = omega (arith, within, head.well_formed.0.0)

-- behind the last
module _ (c : tie.After-loop-notes invariant-loop decreases-loop) where
  away : note_here (s c.before.before) c.loop-notes.at ≡ false
  away = sym c.note_at.ensures ∙ c.loop-notes-test.false

first-note-requires : tie.Need-first_note-at-requires invariant-loop decreases-loop
first-note-requires c κs = search rules

loop-holds : tie.Need-loop-notes-init invariant-loop decreases-loop
loop-holds c =
    let k = c.first_note-at.ensures in
    counting_start c.args.s.now _ (record { inside = k.1; reached = k.0 })

note-at-requires : tie.Need-note_at-requires invariant-loop decreases-loop
note-at-requires c κs = c.loop-notes.invariant.on.inside

add-notes : tie.Need-overflow_add-notes invariant-loop decreases-loop
add-notes c = record { fits = omega (arith, fits c, (head c).loop-notes.invariant.few) }

add-next-note : tie.Need-overflow_add-at invariant-loop decreases-loop
add-next-note c = record { fits = omega (arith, fits c) }

next-note-requires : tie.Need-next_note-at-requires invariant-loop decreases-loop
next-note-requires c κs = within c

next : (c : tie.After-next_note-at invariant-loop decreases-loop)
    → Next (s c.before.before.before) c.loop-notes.at c.next_note-at.result
next c =
    let k = c.next_note-at.ensures in
    record { further = k.1.0; inside = k.1.1; reached = k.0 }

loop-less : tie.Need-loop-notes-smaller invariant-loop decreases-loop
loop-less c = let n = next c in omega (arith, within c.before, n.further, n.inside)

loop-again : tie.Need-loop-notes-preserved invariant-loop decreases-loop
loop-again c = counting_next _ _ _ c.loop-notes.invariant (here c.before) _ (next c)

at-end-requires : tie.Need-at_end-requires invariant-loop decreases-loop
at-end-requires c κs = let k = c.loop-notes.invariant in at_walk_end _ _ k.rest k.on (away c)

returns : tie.Need-returns invariant-loop decreases-loop
returns c =
    let d = c in
    let k = c.at_end.ensures in
    (k.0 ∙ counting_end _ _ _ d.loop-notes.invariant (away d.before), k.1)

pub walk_spec : {M : Type 1} → statement M
walk_spec =
    tie.close
    (tie.spec
    invariant-loop
    decreases-loop
    first-note-requires
    loop-holds
    note-at-requires
    add-notes
    add-next-note
    next-note-requires
    loop-less
    loop-again
    at-end-requires
    returns)
