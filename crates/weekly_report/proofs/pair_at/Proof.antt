-- `pair_at`: the runs stand within the input, and the pair is called on them.
use borrow.Author.Rules.{rules}
use native.Mathlib.Omega.{arith}
use mathlib.Core.Path.{◌≡◌, ◌∙◌}
use mathlib.Core.Bool.{Bool, false}
use mathlib.Core.List.{List}
use Prim.Native.Nat.{ℕ, ◌+◌, ◌-◌}
use lib.ListN.{take, drop}
use Rattle.format.specs.Operands.{number}
use Rattle.calls.specs.Pair.{pair_verdict}
use Rattle.calls.specs.Report.{runs_at, pair_on}
use Rattle.work_tables.proofs.Again.{long_tables}
use Rattle.weekly_report.proofs.pair_at.Statement.{statement}
use Rattle.weekly_report.proofs.pair_at.Tie as tie

-- the runs by their starts and ends
runs-cut : (s : List ℕ) (at x y z : ℕ) → x ≡ number 2 s at → y ≡ number 2 s (at + 2) → z ≡ number 2 s (at + 4)
    → (short : Bool) → short ≡ false
    → pair_verdict short (take (at + 6 + x - (at + 6)) (drop (at + 6) s))
    (take (at + 6 + x + y - (at + 6 + x)) (drop (at + 6 + x) s))
    (take (at + 6 + x + y + z - (at + 6 + x + y)) (drop (at + 6 + x + y) s))
    ≡ pair_on (runs_at s at)
unfolding pair_on runs_at
runs-cut s at x y z e f g short h =
    let i : at + 6 + x - (at + 6) ≡ x = omega arith in
    let j : at + 6 + x + y - (at + 6 + x) ≡ y = omega arith in
    let k : at + 6 + x + y + z - (at + 6 + x + y) ≡ z = omega arith in
    rw (i, j, k, e, f, g, h)

add_a : tie.Need-overflow_add-a
add_a c = search rules

length-at-requires : tie.Need-length_at-requires
length-at-requires c κs = search rules

add-b : tie.Need-overflow_add-b
add-b c = search rules

add-length-at : tie.Need-overflow_add-at
add-length-at c = search rules

length-at-requires-2 : tie.Need-length_at-requires-2
length-at-requires-2 c κs = search rules

add-c : tie.Need-overflow_add-c
add-c c = search rules

add-length-at-2 : tie.Need-overflow_add-at-2
add-length-at-2 c = search rules

length-at-requires-3 : tie.Need-length_at-requires-3
length-at-requires-3 c κs = search rules

add-d : tie.Need-overflow_add-d
add-d c = search rules

sub-pair : tie.Need-slice_bounds-pair-count
sub-pair c = search rules

part-pair-start : tie.Need-slice_bounds-pair-start
part-pair-start c = search rules

part-pair-end : tie.Need-slice_bounds-pair-end
part-pair-end c = search rules

sub-pair-2 : tie.Need-slice_bounds-pair-count-2
sub-pair-2 c = search rules

part-pair-start-2 : tie.Need-slice_bounds-pair-start-2
part-pair-start-2 c = search rules

part-pair-end-2 : tie.Need-slice_bounds-pair-end-2
part-pair-end-2 c = search rules

sub-pair-3 : tie.Need-slice_bounds-pair-count-3
sub-pair-3 c = search rules

part-pair-start-3 : tie.Need-slice_bounds-pair-start-3
part-pair-start-3 c = search rules

part-pair-end-3 : tie.Need-slice_bounds-pair-end-3
part-pair-end-3 c = search rules

pair-requires : tie.Need-pair-requires
pair-requires c κs = search rules

same_length : tie.Need-shape_of-keys
same_length c = search rules

same-length-2 : tie.Need-shape_of-high
same-length-2 c = search rules

same-length-3 : tie.Need-shape_of-low
same-length-3 c = search rules

returns : tie.Need-returns
returns c =
    let p = c in
    let z = p in
    let y = z in
    let x = y in
    let a = x in
    let e = long_tables a.requires.1 in (
      p.pair.ensures.0
          ∙ runs-cut a.args.s.now a.args.at _ _ _ x.length_at.ensures.0 y.length_at-2.ensures.0
          z.length_at-3.ensures.0 _ e,
      rw e at p.pair.ensures.1.0,
    )

pub pair_at_spec : {M : Type 1} → statement M
pair_at_spec =
    tie.close
    (tie.spec
    add_a
    length-at-requires
    add-b
    add-length-at
    length-at-requires-2
    add-c
    add-length-at-2
    length-at-requires-3
    add-d
    sub-pair
    part-pair-start
    part-pair-end
    sub-pair-2
    part-pair-start-2
    part-pair-end-2
    sub-pair-3
    part-pair-start-3
    part-pair-end-3
    pair-requires
    same_length
    same-length-2
    same-length-3
    returns)
