-- `report`: the equations from the callees, and the clauses from the equations.
use borrow.Author.Rules.{rules}
use native.Mathlib.Omega.{arith}
use mathlib.Core.Path.{◌≡◌, sym, ◌∙◌}
use mathlib.Core.Bool.{false}
use Rattle.counting.specs.Counting.{Bounded}
use Rattle.calls.specs.Tables.{Tables, tables, tables_short}
use Rattle.work_tables.specs.Tables.{Long}
use Rattle.work_tables.proofs.Tables.{tables_long}
use Rattle.work_tables.proofs.Again.{cleared_same}
use Rattle.weekly_report.proofs.Promised.{tables_short_lem, records_cut, output_short, roomy, all_answered}
use Rattle.weekly_report.proofs.report.Statement.{statement}
use Rattle.weekly_report.proofs.report.Tie as tie

abbrev lent : tie.Start → Tables
lent s = tables s.args.keys.now s.args.high.now s.args.low.now

-- the call's beginning, where the tables are long enough
abbrev start : tie.Else-is_short → tie.Start
start c = c.before.before.before.before.before

not_short : (c : tie.Else-is_short) → tables_short (lent (start c)) ≡ false
not_short c = sym c.is_short.ensures ∙ c.if-is_short.false

-- the records are bytes
known : (c : tie.After-shared_slice_known-1) → Bounded 255 c.args.records.now
known c i = omega (arith, c.shared_slice_known-1.given i)

bytes : (c : tie.Else-is_short) → Bounded 255 (start c).args.records.now
bytes c = known c.before.before.before.before

long : (c : tie.Else-is_short) → Long (lent (start c))
long c = tables_long _ (not_short c)

is-short-requires : tie.Need-is_short-requires
is-short-requires c κs = search rules

refuse-requires : tie.Need-refuse-requires
refuse-requires c κs = search rules

returns : tie.Need-returns-then-is_short
returns c =
    let i = c in
    let s = i in
    tables_short_lem _ _ (lent s.before.before.before.before.before.before) (known i.before.before.before.before.before) (sym i.is_short.ensures ∙ i.if-is_short.true) _ c.refuse.ensures

count-records-requires : tie.Need-count_records-requires
count-records-requires c κs = search rules

enum-known-count : tie.Need-enum_known-count
enum-known-count c = search rules

refuse-requires-2 : tie.Need-refuse-requires-then-out-count
refuse-requires-2 c κs = search rules

returns-2 : tie.Need-returns-then-out-count
returns-2 c =
    let i = c in
    let k = i in
    let n = k in
    let e = n in
    output_short _ _ _ (bytes e.before.before.before.before) (not_short e.before.before.before.before) _ n.count_records.ensures _ k.in-Ok.is i.if-out-count.true _ c.refuse-then-out-count.ensures

answer-records-requires : tie.Need-answer_records-requires
answer-records-requires c κs =
    let i = c in
    let k = i in
    let n = k in
    let e = n in
    (roomy _ _ (lent (start e.before.before.before.before.before.before.before)) (bytes e.before.before.before.before.before.before.before) (not_short e.before.before.before.before.before.before.before) _ n.count_records.ensures _ k.in-Ok.is i.if-out-count.false, long e.before.before.before.before.before.before.before)

enum-known-place : tie.Need-enum_known-place
enum-known-place c = search rules

clear-tables-requires : tie.Need-clear_tables-requires
clear-tables-requires c κs = long c.before.before.before.before.before

refuse-requires-3 : tie.Need-refuse-requires-in-Err
refuse-requires-3 c κs = search rules

same_length : tie.Need-shape_of-out
same_length c = search rules

same-length-2 : tie.Need-shape_of-keys-else-out-count
same-length-2 c =
    let a = c in
    (cleared_same (long a.before.before.before.before.before.before.before.before.before.before.before.before.before.before) a.answer_records.ensures.1).keys

same-length-3 : tie.Need-shape_of-high-else-out-count
same-length-3 c =
    let a = c in
    (cleared_same (long a.before.before.before.before.before.before.before.before.before.before.before.before.before.before) a.answer_records.ensures.1).high

same-length-4 : tie.Need-shape_of-low-else-out-count
same-length-4 c =
    let a = c in
    (cleared_same (long a.before.before.before.before.before.before.before.before.before.before.before.before.before.before) a.answer_records.ensures.1).low

returns-3 : tie.Need-returns-else-out-count
returns-3 c =
    let a = c in
    let i = a in
    let k = i in
    let n = k in
    let e = n in
    all_answered _ _ _ (bytes e.before.before.before.before.before.before.before.before.before.before.before.before.before.before) (not_short e.before.before.before.before.before.before.before.before.before.before.before.before.before.before) _ n.count_records.ensures _ k.in-Ok.is i.if-out-count.false _ _ _
    a.answer_records.ensures.0 a.answer_records.ensures.1

same-length-5 : tie.Need-shape_of-keys-in-Err
same-length-5 c =
    let t = c in
    (cleared_same (long t.before.before.before.before.before.before.before.before.before.before.before) t.clear_tables.ensures).keys

same-length-6 : tie.Need-shape_of-high-in-Err
same-length-6 c =
    let t = c in
    (cleared_same (long t.before.before.before.before.before.before.before.before.before.before.before) t.clear_tables.ensures).high

same-length-7 : tie.Need-shape_of-low-in-Err
same-length-7 c =
    let t = c in
    (cleared_same (long t.before.before.before.before.before.before.before.before.before.before.before) t.clear_tables.ensures).low

returns-4 : tie.Need-returns-in-Err
returns-4 c =
    let t = c in
    let p = t in
    let n = p in
    let e = n in
    records_cut _ _ _ (bytes e.before.before.before.before.before.before.before.before.before.before.before) (not_short e.before.before.before.before.before.before.before.before.before.before.before) _ n.count_records.ensures _ p.in-Err.is _ _ c.refuse-in-Err.ensures
    t.clear_tables.ensures

pub report_spec : {M : Type 1} → statement M
report_spec =
    tie.close
    (tie.spec
    is-short-requires
    refuse-requires
    returns
    count-records-requires
    enum-known-count
    refuse-requires-2
    returns-2
    answer-records-requires
    enum-known-place
    clear-tables-requires
    refuse-requires-3
    same_length
    same-length-2
    same-length-3
    same-length-4
    returns-3
    same-length-5
    same-length-6
    same-length-7
    returns-4)
