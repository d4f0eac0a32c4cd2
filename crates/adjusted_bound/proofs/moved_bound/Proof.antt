-- `moved_bound`: the equation from the check or from `answer`, and the clauses from the equation.
use borrow.Author.Rules.{rules}
use native.Mathlib.Omega.{arith}
use mathlib.Core.Path.{◌∙◌}
use mathlib.Core.Bool.{Bool}
use Rattle.counting.specs.Counting.{Bounded}
use Rattle.calls.specs.Tables.{tables, tables_short}
use Rattle.calls.proofs.Adjusting.{adjusted_clauses}
use Rattle.adjusted_bound.proofs.Checked.{bound_ranged, check_refused_lem, check_passed}
use Rattle.adjusted_bound.proofs.moved_bound.Statement.{statement}
use Rattle.adjusted_bound.proofs.moved_bound.Tie as tie

abbrev known : tie.After-check-v → tie.After-shared_slice_known-2-1
known c = c.before.before.before.before.before.before

abbrev start : tie.After-check-v → tie.Start
start c = (known c).before.before

abbrev short : tie.After-check-v → Bool
short c = let a = (start c).args in tables_short (tables a.keys.now a.high.now a.low.now)

certificate_bytes_lem : (c : tie.After-check-v) → Bounded 255 (start c).args.certificate.now
certificate_bytes_lem c i = let b = (known c).shared_slice_known-2-1.given i in omega arith

check-requires : tie.Need-check-v-requires
check-requires c κs = search rules

refuse-requires : tie.Need-refuse-requires
refuse-requires c κs = search rules

same_length : tie.Need-shape_of-keys-then-f-ne0
same_length c = search rules

same-length-2 : tie.Need-shape_of-high-then-f-ne0
same-length-2 c = search rules

same-length-3 : tie.Need-shape_of-low-then-f-ne0
same-length-3 c = search rules

returns : tie.Need-returns-then-f-ne0
returns c =
    let i = c in
    let k = i in
    let a = (start k.before.before.before.before.before.before.before.before).args in
    let d = k.check-v.ensures in
    let e = check_refused_lem (short k.before.before.before.before.before.before.before.before) a.problem.now a.certificate.now _ d.0 a.changes.now i.if-f-ne0.true in
    let v = c.refuse.ensures ∙ e in
    (v, (d.1.0, adjusted_clauses (short k.before.before.before.before.before.before.before.before) a.problem.now a.certificate.now a.changes.now _ v))

answer-requires : tie.Need-answer-requires
answer-requires c κs =
    let k = c in
    let a = (start k.before.before.before.before.before.before.before).args in
    bound_ranged (short k.before.before.before.before.before.before.before) a.problem.now a.certificate.now _ k.check-v.ensures.0 c.if-f-ne0.false
    (certificate_bytes_lem k.before.before.before.before.before.before.before)

same-length-4 : tie.Need-shape_of-keys
same-length-4 c = search rules

same-length-5 : tie.Need-shape_of-high
same-length-5 c = search rules

same-length-6 : tie.Need-shape_of-low
same-length-6 c = search rules

returns-2 : tie.Need-returns
returns-2 c =
    let i = c in
    let k = i in
    let a = (start k.before.before.before.before.before.before.before.before).args in
    let d = k.check-v.ensures in
    let e = check_passed (short k.before.before.before.before.before.before.before.before) a.problem.now a.certificate.now _ d.0 a.changes.now i.if-f-ne0.false in
    let v = c.answer.ensures ∙ e in
    (v, (d.1.0, adjusted_clauses (short k.before.before.before.before.before.before.before.before) a.problem.now a.certificate.now a.changes.now _ v))

pub moved_bound_spec : {M : Type 1} → statement M
moved_bound_spec =
    tie.close
    (tie.spec
    check-requires
    refuse-requires
    same_length
    same-length-2
    same-length-3
    returns
    answer-requires
    same-length-4
    same-length-5
    same-length-6
    returns-2)
