-- `append_signed`: the minus sign, if any, and the absolute value.
use native.Mathlib.Omega.{arith}
use mir.Facts.{to_z-of_z}
use Rattle.lines.specs.Lines.{signed_decimal}
use Rattle.text.proofs.Appending.{appended_text}
use Rattle.text.proofs.append_signed.Goals as goal

pub returns-then-n-lt0 : goal.returns-then-n-lt0
unfolding signed_decimal
returns-then-n-lt0 c =
    let e = simp (to_z-of_z c.ranges.n) at c.if-n-lt0.true in
    let size = simp (to_z-of_z c.ranges.n) at c.magnitude.ensures in (
      rw e (appended_text c.append-next.ensures (rw size at c.append_number.ensures.0)),
      omega (arith, c.append-next.ensures.ends, c.append_number.ensures.1),
    )

pub returns : goal.returns
unfolding signed_decimal
returns c =
    let e = simp (to_z-of_z c.ranges.n) at c.if-n-lt0.false in
    let size = simp (to_z-of_z c.ranges.n) at c.magnitude-2.ensures in
    (rw e (rw size at c.append_number-2.ensures.0), omega (arith, c.append_number-2.ensures.1))
