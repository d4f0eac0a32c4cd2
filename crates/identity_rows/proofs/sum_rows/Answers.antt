-- `sum_rows`: each turn adds what is of the next basis; a row has a wide factor if one of the turns tells so.
use Rattle.std.proofs.Common.{◌≡◌, ◌+◌, Bool, true, false, ◌||◌, refl, arith}
use Rattle.flat.specs.Flat.{conditions_at}
use Rattle.identity_rows.specs.Walk.{bases_in}
use Rattle.identity_rows.specs.Bundles.{rows_in}
use Rattle.identity_rows.proofs.Walks.{alone_start, alone_more, walked_start, walked_more, walked_end}
use Rattle.identity_rows.proofs.sum_rows.Goals as goal

neither : (a b : Bool) → a || b ≡ false → (a ≡ false) × (b ≡ false)
neither false b e = (refl, e)
neither true b e = absurd (cc)

pub loop-j-init : goal.loop-j-init
loop-j-init c =
    let rs = rows_in c.args.rows in
    (c.requires.comparable.1, walked_start rs c.args.part, λ _. alone_start rs)

pub loop-j-preserved : goal.loop-j-preserved
loop-j-preserved c =
    let rs = rows_in c.args.rows in
    let v = c.loop-j.invariant in
    let a = c.add_basis-wide.ensures in
    (a.1, walked_more rs c.args.part v.1 a.0, λ e. let n = neither _ _ e in alone_more rs c.loop-j.j (v.2 n.0) (a.2 n.1))

pub returns-2 : goal.returns-2
returns-2 c =
    let rs = rows_in c.args.rows in
    let v = c.loop-j.invariant in
    let a = c.add_basis-wide.ensures in
    let few = c.requires.comparable.0.0.flat.limits.sizes_low conditions_at in
    let all : c.loop-j.j + 1 ≡ bases_in c.args.problem.sizes.now = omega arith in (
      walked_end rs c.args.part (walked_more rs c.args.part v.1 a.0) (omega arith) all,
      a.1,
      λ e. let n = neither _ _ e in rw all at (alone_more rs c.loop-j.j (v.2 n.0) (a.2 n.1)),
    )
