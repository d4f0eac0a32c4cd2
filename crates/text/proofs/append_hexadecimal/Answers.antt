use Rattle.std.proofs.Common.{◌≡◌, ◌+◌}
use native.Mathlib.Omega.{arith}
use lib.ListN.{length-set}
use Rattle.text.proofs.Appending.{appended_byte}
use Rattle.text.proofs.Hexadecimal.{hexadecimal_more}
use Rattle.text.proofs.append_hexadecimal.Goals as goal

-- two digits more
pub loop-b-preserved : goal.loop-b-preserved
loop-b-preserved c =
    let v = c.loop-b.invariant in
    let first = appended_byte c.digit.result v.1 (omega arith) in
    let both = appended_byte c.digit-in-loop-b.result first (simp length-set (omega arith)) in
    let two : c.loop-b.end + 1 + 1 ≡ c.loop-b.end + 2 = omega arith in (
      omega arith,
      rw (hexadecimal_more c.args.bytes.now c.loop-b.b-index c.loop-b-test.true, ← c.digit.ensures, ← c.digit-in-loop-b.ensures) (rw two at both),
    )
