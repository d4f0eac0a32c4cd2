-- `append`: what the copy of the part's first bytes leaves.
use Rattle.std.proofs.Common.{◌≡◌, ◌+◌, ◌-◌, ◌∙◌}
use Rattle.std.proofs.Math.Seq.{slice}
use native.Mathlib.Omega.{arith}
use lib.Seq.{length-slice}
use Rattle.office_check.proofs.Copies.{part_front, filled_by}
use Rattle.office_check.proofs.append.Goals as goal

pub returns : goal.returns
returns c =
    let a = c.args in
    let n = c.min-n.result in
    let k = c.min-n.ensures in
    let e : a.from + n - a.from ≡ n = omega arith in
    let m : n ≡ a.len + n - a.len = omega arith in
    let long = length-slice a.from a.to a.s.now (omega arith) in
    let f = part_front a.from n a.to a.s.now (omega (arith, k, c.requires)) in
    filled_by a.copy.now a.len (slice a.from a.to a.s.now) n (omega arith) (rw long k) _ _ m
    (rw e at c.copy_from_slice.ensures.after ∙ f)
