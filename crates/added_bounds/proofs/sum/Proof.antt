-- `sum`: the equations from the two pairs, and the clauses from the equations.
use borrow.Author.Rules.{rules}
use native.Mathlib.Omega.{arith}
use mathlib.Core.Path.{◌≡◌, ap, ◌∙◌}
use mathlib.Core.Bool.{Bool}
use Rattle.counting.specs.Counting.{Bounded}
use Rattle.format.specs.ProblemRules.{read_problem}
use Rattle.calls.specs.Tables.{tables, tables_short}
use Rattle.calls.specs.AddedBounds.{Streams, streams, same_region_read, sum_second, pair_by}
use Rattle.calls.proofs.BoundsAdded.{sum_clauses}
use Rattle.added_bounds.proofs.Bounds.{bounds_of}
use Rattle.work_tables.proofs.Again.{short_again, left_twice}
use Rattle.added_bounds.proofs.Ends.{first_refused, first_accepted}
use Rattle.added_bounds.proofs.sum.Statement.{statement}
use Rattle.added_bounds.proofs.sum.Tie as tie

-- ---- the call's beginning, the streams, the bytes of the first certificates, and the first pair
abbrev known : tie.After-pair-v → tie.After-shared_slice_known-3-1
known p = p.before.before.before.before.before.before.before.before

abbrev start : tie.After-pair-v → tie.Start
start p = (known p).before.before.before

abbrev short : tie.After-pair-v → Bool
short p = let a = (start p).args in tables_short (tables a.keys.now a.high.now a.low.now)

abbrev first : tie.After-pair-v → Streams
first p = let a = (start p).args in streams a.problem1.now a.low1.now a.high1.now

abbrev second : tie.After-pair-v → Streams
second p = let a = (start p).args in streams a.problem2.now a.low2.now a.high2.now

low-bytes : (p : tie.After-pair-v) → Bounded 255 (start p).args.low1.now
low-bytes p i = let b = (known p).shared_slice_known-2-1.given i in omega arith

high-bytes : (p : tie.After-pair-v) → Bounded 255 (start p).args.high1.now
high-bytes p i = let b = (known p).shared_slice_known-3-1.given i in omega arith

abbrev paired : tie.After-struct_known-1 → tie.After-pair-v
paired c = c.before.before.before.before.before.before

-- nothing is refused
none : (c : tie.Else-f-gt0) → (paired c.before).pair-v.result.refusal.number ≡ 0
none c = omega (arith, c.if-f-gt0.false)

pair-requires : tie.Need-pair-v-requires
pair-requires c κs = search rules

refuse-requires : tie.Need-refuse-requires
refuse-requires c κs = search rules

same_length : tie.Need-shape_of-keys-then-f-gt0
same_length c = search rules

same-length-2 : tie.Need-shape_of-high-then-f-gt0
same-length-2 c = search rules

same-length-3 : tie.Need-shape_of-low-then-f-gt0
same-length-3 c = search rules

returns : tie.Need-returns-then-f-gt0
returns c =
    let t = c in
    let p = paired t.before.before in
    let k = p.pair-v.ensures in
    let is = c.refuse.ensures ∙ first_refused (short p) (first p) (second p) _ k.0 t.if-f-gt0.true in
    (is, (k.1.0, sum_clauses (short p) (first p) (second p) _ is))

sum-second-requires : tie.Need-sum_second-requires
sum-second-requires c κs =
    let e = c in
    let p = paired e.before.before.before.before in
    bounds_of (low-bytes p) (high-bytes p) (p.pair-v.ensures.1.1.1.0.only (none e.before.before.before))

same-length-4 : tie.Need-shape_of-keys
same-length-4 c = search rules

same-length-5 : tie.Need-shape_of-high
same-length-5 c = search rules

same-length-6 : tie.Need-shape_of-low
same-length-6 c = search rules

returns-2 : tie.Need-returns
returns-2 c =
    let d = c in
    let e = d in
    let p = paired e.before.before.before.before.before.before.before.before.before in
    let k = p.pair-v.ensures in
    let l = d.sum_second.ensures in
    let v = p.pair-v.result in
    let region = same_region_read (read_problem (first p).problem) (read_problem (second p).problem) in
    let is =
    l.0 ∙ ap (λ (b : Bool). sum_second region v (pair_by b (second p))) (short_again k.1.0)
    ∙ first_accepted (short p) (first p) (second p) v k.0 (none e.before.before.before.before.before.before.before.before) in
    (is, (left_twice k.1.0 l.1, sum_clauses (short p) (first p) (second p) _ is))

pub sum_spec : {M : Type 1} → statement M
sum_spec =
    tie.close
    (tie.spec
    pair-requires
    refuse-requires
    same_length
    same-length-2
    same-length-3
    returns
    sum-second-requires
    same-length-4
    same-length-5
    same-length-6
    returns-2)
