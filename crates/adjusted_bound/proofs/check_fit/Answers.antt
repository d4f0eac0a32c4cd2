-- `check_fit`: by whether the change at hand fits.
use Rattle.std.proofs.Common.{◌≡◌, sym, ap, ◌∙◌, arith}
use Rattle.format.specs.ProblemRules.{fitting}
use Rattle.calls.specs.Adjusted.{change_at, change_fits, unfit_refusal}
use Rattle.adjusted_bound.proofs.Scanned.{unfit_here, fit_here, unfit_none}
use Rattle.adjusted_bound.proofs.check_fit.Goals as goal

pub returns-then-not-is_fitting : goal.returns-then-not-is_fitting
unfolding change_at
returns-then-not-is_fitting c =
    let s = c.args.changes.now in
    let n = c.args.n in
    let here : c.is_fitting.result ≡ change_fits n (change_at s c.loop-i.i) = c.is_fitting.ensures ∙ ap (fitting n 32) c.number_at-key.ensures.0 in
    let e = unfit_here s n c.loop-i.i (omega (arith, c.loop-i-test.true)) c.loop-i.invariant (sym here ∙ c.if-not-is_fitting.true) in
    (c.change_refusal.ensures ∙ ap unfit_refusal (sym e), rw c.change_refusal.ensures (omega arith))

pub loop-i-preserved : goal.loop-i-preserved
unfolding change_at
loop-i-preserved c =
    let s = c.args.changes.now in
    let n = c.args.n in
    let here : c.is_fitting.result ≡ change_fits n (change_at s c.loop-i.i) = c.is_fitting.ensures ∙ ap (fitting n 32) c.number_at-key.ensures.0 in
    fit_here s n c.loop-i.i (omega (arith, c.loop-i-test.true)) c.loop-i.invariant (sym here ∙ c.if-not-is_fitting.false)

pub returns : goal.returns
returns c =
    ap unfit_refusal (unfit_none c.args.changes.now c.args.n c.loop-i.i (omega (arith, c.loop-i-test.false)) c.loop-i.invariant)
