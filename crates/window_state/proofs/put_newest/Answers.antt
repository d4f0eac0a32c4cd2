use Rattle.std.proofs.Common.{◌≡◌, ap, ◌∙◌, ℕ, suc, ◌-◌, ◌≤◌, ◌<◌, w64, of_z, to_z, arith, rules}
use Rattle.calls.specs.Report.{unsigned}
use Rattle.window_state.proofs.Shifted.{replaced, one_fewer, later, later_length, none_replaced, two_before, first_two}
use Rattle.window_state.proofs.put_newest.Goals as goal

pub loop-i-init : goal.loop-i-init
loop-i-init c = (omega arith, none_replaced c.args.state.now (unsigned 63 c.args.newest.num) c.args.newest.den c.requires)

pub loop-i-preserved : goal.loop-i-preserved
loop-i-preserved c =
    let l = c.loop-i in
    let from = c.args.state.now in
    let a = unsigned 63 c.args.newest.num in
    let b = c.args.newest.den in
    let k = l.i - 1 in
    let above : 2 ≤ k = omega (arith, c.loop-i-test.true) in
    let below : k < 64 = omega (arith, c.loop-i-test.true) in
    let e : l.i ≡ suc k = omega (arith, c.loop-i-test.true) in
    let put : l.state ≡ replaced from (later from a b) (suc k) =
    l.invariant.1 ∙ ap (λ (n : ℕ). replaced from (later from a b) n) e in
    let n = later_length from a b c.requires in (
      above,
      rw put (one_fewer from (later from a b) k _ (omega (arith, c.requires, below)) (omega (arith, c.requires, below, n)) (two_before from a b c.requires k above below)),
    )

pub returns : goal.returns
returns c =
    let l = c.loop-i in
    let from = c.args.state.now in
    let a = unsigned 63 c.args.newest.num in
    let b = c.args.newest.den in
    let n : to_z w64 (of_z w64 c.args.newest.num) ≡ c.args.newest.num = search rules in
    let e : l.i ≡ 2 = omega (arith, l.invariant.0, c.loop-i-test.false) in
    let put : l.state ≡ replaced from (later from a b) 2 =
    l.invariant.1 ∙ ap (λ (n : ℕ). replaced from (later from a b) n) e in
    rw (put, c.bits.ensures, n) (first_two from a b (omega (arith, c.requires)))
