-- `is_large`: where `any` finds no large size among the first nine, each of them is small.
use Rattle.std.proofs.Common.{◌≤◌, ◌<◌, take, rules, arith}
use Rattle.std.proofs.Math.Seq.{get_or-take, length-take-le}
use Rattle.std.proofs.lemmas.Iterator.{cases_from_any, YieldsList-from_slice}
use Rattle.identity_check.proofs.is_large.Goals as goal

pub returns : goal.returns
returns c = λ e j b.
    let s = c.args.sizes.now in
    let found = cases_from_any _ _ _ (λ x. 16 < x) (λ x. x ≤ 16) c.any.ensures.ran (YieldsList-from_slice (take 9 s) cc) (λ x q k. search rules) (λ x q k. search rules) in
    let small = (rw e at found) j 0 (omega arith) (omega (arith, length-take-le 9 s c.requires)) in
    rw (get_or-take 9 s j 0 b) at small
