-- `office`: without notes the stream itself is checked, up to a note that is cut; else the copy, and the answer is told.
use borrow.Author.Rules.{rules}
use native.Mathlib.Omega.{arith}
use mathlib.Core.Path.{sym, ◌∙◌}
use lib.Seq.{length-take-le}
use Rattle.format.proofs.Notes.{end_inside}
use Rattle.office_check.proofs.Answers.{without_notes_lem, buffer_left_lem, sendable, with_notes, buffer_with, clauses}
use Rattle.office_check.proofs.office.Statement.{statement}
use Rattle.office_check.proofs.office.Tie as tie

walk-requires : tie.Need-walk-w-requires
walk-requires c κs = search rules

slice-aggregate-check : tie.Need-slice_bounds-check-end
slice-aggregate-check c =
    let w = c in
    let s = w in
    sym (length-take-le _ _ (omega (arith, w.walk-w.ensures.1, end_inside s.args.certificate.now)))

check-requires : tie.Need-check-check-requires
check-requires c κs = search rules

same_length : tie.Need-shape_of-keys-then-notes-eq0
same_length c = search rules

same-length-2 : tie.Need-shape_of-high-then-notes-eq0
same-length-2 c = search rules

same-length-3 : tie.Need-shape_of-low-then-notes-eq0
same-length-3 c = search rules

returns : tie.Need-returns-then-notes-eq0
returns c =
    let k = c in
    let i = k in
    let w = i in
    let s = w in
    let a = s.args in
    let none = sym w.walk-w.ensures.0 ∙ i.if-notes-eq0.true in
    let verdict =
    without_notes_lem _ a.problem.now a.certificate.now a.buffer.now _ _ none w.walk-w.ensures.1 k.check-check.ensures.0 in
    let buffer = buffer_left_lem _ a.problem.now a.certificate.now a.buffer.now none in
    (verdict, (buffer, (k.check-check.ensures.1.0, clauses _ _ _ _ _ _ verdict buffer)))

check-noted-requires : tie.Need-check_noted-v-requires
check-noted-requires c κs = search rules

answer-requires : tie.Need-answer-requires
answer-requires c κs =
    let k = c in
    let w = k in
    let s = w in
    let a = s.args in
    (w.walk-w.ensures.0, sendable _ a.problem.now a.certificate.now a.buffer.now _ k.check_noted-v.ensures.0)

same-length-4 : tie.Need-shape_of-buffer
same-length-4 c = search rules

same-length-5 : tie.Need-shape_of-keys
same-length-5 c = search rules

same-length-6 : tie.Need-shape_of-high
same-length-6 c = search rules

same-length-7 : tie.Need-shape_of-low
same-length-7 c = search rules

returns-2 : tie.Need-returns
returns-2 c =
    let d = c in
    let k = d in
    let w = k in
    let s = w in
    let a = s.args in
    let e = k.check_noted-v.ensures in
    let verdict = with_notes _ a.problem.now a.certificate.now a.buffer.now _ e.0 _ d.answer.ensures.0 in
    let buffer =
    buffer_with _ a.problem.now a.certificate.now a.buffer.now _ e.0 _ _ verdict d.answer.ensures.1 in
    (verdict, (buffer, (e.1, clauses _ _ _ _ _ _ verdict buffer)))

pub office_spec : {M : Type 1} → statement M
office_spec =
    tie.close
    (tie.spec
    walk-requires
    slice-aggregate-check
    check-requires
    same_length
    same-length-2
    same-length-3
    returns
    check-noted-requires
    answer-requires
    same-length-4
    same-length-5
    same-length-6
    same-length-7
    returns-2)
