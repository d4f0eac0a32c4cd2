-- `parity_byte`: a bit is at most its place, which is at most 128, and the byte is below it.
use Rattle.std.proofs.Common.{◌≡◌, ap, ◌∙◌, arith}
use lib.Pow.{pow_mono}
use Rattle.sign_symmetries.proofs.Parity.{parities, parities_all, passed_none, bit_most, place_most, passed_more}
use Rattle.sign_symmetries.proofs.parity_byte.Goals as goal

pub loop-i-init : goal.loop-i-init
loop-i-init c = passed_none c.args.key _ (omega arith)

pub overflow_add-byte : goal.overflow_add-byte
overflow_add-byte c =
    let l = c.loop-i in
    let most = place_most _ _ _ _ l._i l.invariant (omega (arith, c.loop-i-test.true)) in
    omega (arith, most, bit_most l.rest l.place, l.invariant.at, l.invariant.small)

pub overflow_mul-place : goal.overflow_mul-place
overflow_mul-place c =
    let l = c.loop-i in
    omega (arith, place_most _ _ _ _ l._i l.invariant (omega (arith, c.loop-i-test.true)))

pub loop-i-preserved : goal.loop-i-preserved
loop-i-preserved c = let l = c.loop-i in passed_more _ _ _ _ l._i l.invariant (omega (arith, c.loop-i-test.true))

pub overflow_cast-result : goal.overflow_cast-result
overflow_cast-result c = let l = c.loop-i in omega (arith, l.invariant.small, pow_mono {i = l._i} {j = 8} l.invariant.few)

pub returns : goal.returns
returns c =
    let l = c.loop-i in
    let e : l._i ≡ 8 = omega (arith, l.invariant.few, c.loop-i-test.false) in
    l.invariant.made ∙ ap (parities c.args.key) e ∙ parities_all c.args.key
