use Rattle.std.proofs.Common.{refl, ap, ◌∙◌, List, get_or, length-set, arith}
use Rattle.counting.specs.Counting.{listed}
use Rattle.counting.proofs.Listed.{fill_more, fill_done}
use Rattle.calls.specs.declared.Fraction.{Fraction}
use Rattle.verdict_numbers.specs.States.{gap_in, window_in}
use Rattle.window_state.proofs.window_in.Goals as goal

pub loop-age-init : goal.loop-age-init
unfolding listed
loop-age-init c = (refl, refl)

pub loop-age-preserved : goal.loop-age-preserved
loop-age-preserved c =
    let l = c.loop-age in (
      length-set l.gaps l.age c.gap_in.result ∙ l.invariant.0,
      fill_more (gap_in c.args.state.now) l.gaps l.age c.gap_in.result (omega arith) c.gap_in.ensures l.invariant.1,
    )

pub returns : goal.returns
unfolding window_in
returns c =
    let l = c.loop-age in
    let s = c.args.state.now in
    ap (λ (g : List Fraction). record { gaps = g; count = get_or s 64 0 })
    (fill_done (gap_in s) l.gaps 32 l.age l.invariant.0 (omega (arith, c.loop-age-test.false)) l.invariant.1)
