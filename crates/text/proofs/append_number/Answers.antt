-- `append_number`: the fewest digits that hold the number, which are at most 20.
use native.Mathlib.Omega.{arith}
use mathlib.Core.Path.{◌∙◌}
use Prim.Native.Nat.{◌≤◌}
use lib.Seq.{length-take-le}
use Rattle.text.proofs.Digits.{fewest_decimal, fewest_short}
use Rattle.text.proofs.append_number.Goals as goal

pub returns : goal.returns
returns c =
    let short : c.decimal-count.result ≤ 20 = fewest_short c.args.n c.decimal-count.result c.ranges.n.fits c.decimal-count.ensures.len in
    let fewest = fewest_decimal c.args.n c.decimal-count.result c.decimal-count.ensures.len in
    let e = c.decimal-count.ensures.digits ∙ fewest in (
      rw e at c.append.ensures,
      omega (
        arith,
        short,
        c.append.ensures.ends,
        length-take-le c.decimal-count.result c.decimal-count.new.out c.decimal-count.ensures.in_bounds.0,
      ),
    )
