-- `is_even_with_all`: by whether the byte at hand is met evenly.
use Rattle.std.proofs.Common.{refl, sym, ◌∙◌, true, false, arith}
use Rattle.sign_symmetries.proofs.Gathering.{even_next, even_done}
use Rattle.sign_symmetries.proofs.is_even_with_all.Goals as goal

pub loop-byte-init : goal.loop-byte-init
loop-byte-init c = refl

pub returns-then-not-is_even : goal.returns-then-not-is_even
returns-then-not-is_even c =
    let a = c.args in
    sym (c.loop-byte.invariant ∙ even_next a.mask a.bytes.now c.loop-byte.byte-index false (omega arith) (sym (c.if-not-is_even.true) ∙ c.is_even.ensures))

pub loop-byte-preserved : goal.loop-byte-preserved
loop-byte-preserved c =
    let a = c.args in
    c.loop-byte.invariant ∙ even_next a.mask a.bytes.now c.loop-byte.byte-index true (omega arith) (sym (c.if-not-is_even.false) ∙ c.is_even.ensures)

pub returns : goal.returns
returns c =
    let a = c.args in
    sym (c.loop-byte.invariant ∙ even_done a.mask a.bytes.now c.loop-byte.byte-index (omega arith))
