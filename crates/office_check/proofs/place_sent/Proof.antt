-- `place_sent`: with the notes from the one at hand on, the place so far comes to the place as sent.
use borrow.Author.Rules.{rules}
use native.Mathlib.Omega.{arith}
use mathlib.Core.Path.{◌≡◌, sym, ◌∙◌}
use mathlib.Core.Bool.{true}
use mathlib.Core.List.{List}
use Prim.Native.Nat.{ℕ, ◌+◌, ◌-◌, ◌≤◌}
use lib.ListN.{length}
use Rattle.format.specs.Notes.{note_length}
use Rattle.office_check.specs.Steps.{note_here}
use Rattle.office_check.proofs.Walks.{here_inside}
use Rattle.office_check.proofs.Loops.{Next, Sending, sending_start, sending_before, sending_next, sending_least, sending_end}
use Rattle.office_check.proofs.place_sent.Statement.{statement}
use Rattle.office_check.proofs.place_sent.Tie as tie

abbrev invariant-loop : tie.invariant-loop-place
invariant-loop s place x₀ at₀ x at = Sending s place x at

abbrev decreases-loop : tie.decreases-loop-place
decreases-loop s place x₀ at₀ x at = length s - at

-- at the loop's head
module _ (l : tie.At-loop-place invariant-loop decreases-loop) where
  abbrev start : tie.Start invariant-loop decreases-loop
  start = l.before.before.before

  abbrev s : List ℕ
  s = start.args.s.now

-- at a note
module _ (c : tie.In-loop-place invariant-loop decreases-loop) where
  abbrev head : tie.At-loop-place invariant-loop decreases-loop
  head = c.before.before

  here : note_here (s head) head.loop-place.at ≡ true
  here = sym c.note_at.ensures ∙ c.loop-place-test.true

  within : head.loop-place.at + note_length ≤ length (s head)
  within = here_inside (s head) head.loop-place.at here

first-note-requires : tie.Need-first_note-at-requires invariant-loop decreases-loop
first-note-requires c κs = search rules

loop-holds : tie.Need-loop-place-init invariant-loop decreases-loop
loop-holds c =
    let k = c.first_note-at.ensures in
    sending_start c.args.s.now _ _ (record { inside = k.1; reached = k.0 })

note-at-requires : tie.Need-note_at-requires invariant-loop decreases-loop
note-at-requires c κs = c.loop-place.invariant.on.inside

returns : tie.Need-returns-then-x-at invariant-loop decreases-loop
returns c = let d = c in sending_before _ _ _ _ (head d.before).loop-place.invariant (here d.before) c.if-x-at.true

add-x : tie.Need-overflow_add-x invariant-loop decreases-loop
add-x c =
    let d = c in
    let b = start (head d.before) in
    record {
      fits =
          omega (
            arith,
            sending_least (s (head d.before)) b.args.place (head d.before).loop-place.x (head d.before).loop-place.at (head d.before).loop-place.invariant (here d.before) c.if-x-at.false,
            b.requires,
            b.well_formed.0.0,
          );
    }

add-next-note : tie.Need-overflow_add-at invariant-loop decreases-loop
add-next-note c = let d = c in record { fits = omega (arith, within d.before, (start (head d.before)).well_formed.0.0) }

next-note-requires : tie.Need-next_note-at-requires invariant-loop decreases-loop
next-note-requires c κs = within c.before

next : (c : tie.After-next_note-at invariant-loop decreases-loop)
    → Next (s (head c.before.before)) (head c.before.before).loop-place.at c.next_note-at.result
next c =
    let k = c.next_note-at.ensures in
    record { further = k.1.0; inside = k.1.1; reached = k.0 }

loop-less : tie.Need-loop-place-smaller invariant-loop decreases-loop
loop-less c = let n = next c in omega (arith, within c.before.before, n.further, n.inside)

loop-again : tie.Need-loop-place-preserved invariant-loop decreases-loop
loop-again c =
    let d = c in sending_next _ _ _ _ (head d.before.before).loop-place.invariant (here d.before.before) c.if-x-at.false _ (next c)

returns-2 : tie.Need-returns invariant-loop decreases-loop
returns-2 c =
    let l = c in
    sending_end _ _ _ _ l.loop-place.invariant (sym c.note_at.ensures ∙ c.loop-place-test.false)

pub place_sent_spec : {M : Type 1} → statement M
place_sent_spec =
    tie.close
    (tie.spec
    invariant-loop
    decreases-loop
    first-note-requires
    loop-holds
    note-at-requires
    returns
    add-x
    add-next-note
    next-note-requires
    loop-less
    loop-again
    returns-2)
