-- `note_fits`: one exponent more, whose number fits or does not.
use Rattle.std.proofs.Common.{◌<◌, ◌≤◌, length, ◌∙◌, arith, length-set, take_all}
use Rattle.round_laws.proofs.Fits.{fitting_start}
use Rattle.joining_basis.proofs.Fits.{fits_hit, fits_miss}
use Rattle.joining_basis.proofs.note_fits.Goals as goal
use Rattle.joining_basis.proofs.note_fits.Goals.{then-s-bits, else-s-bits}

pub loop-t-init : goal.loop-t-init
loop-t-init c = record { few = omega arith; long = c.requires.0; fit = λ B _ _. fitting_start c.args.exponents.now B _ }

pub loop-t-preserved : goal.loop-t-preserved
loop-t-preserved c =
    let w = c.wrapping_sub_u64-s in
    let v = c.loop-t.invariant in
    let i = c.loop-t.t-index in
    let room : c.loop-t.n < length c.loop-t.fits = omega arith in
    let one : c.if-s-bits.n ≤ 1 = elim c.if-s-bits.branch [ then-s-bits u ↦ omega (arith, u.n-is) | else-s-bits u ↦ omega (arith, u.n-is) ] in
    record {
      few = omega arith;
      long = length-set c.loop-t.fits c.loop-t.n w.result ∙ v.long;
      fit = elim c.if-s-bits.branch [
        | then-s-bits u ↦ rw u.n-is (fits_hit _ _ _ i (omega arith) (c.requires.2 i) _ _ room v.fit w.result w.type_inv w.ensures.value u.if-s-bits.true)
        | else-s-bits u ↦ rw u.n-is (fits_miss _ _ _ i (omega arith) (c.requires.2 i) _ _ room v.fit w.result w.type_inv w.ensures.value u.if-s-bits.false)
      ];
    }

pub returns : goal.returns
returns c =
    let v = c.loop-t.invariant in
    (v.long, omega arith, rw (take_all c.loop-t.t-index c.args.exponents.now (omega arith)) at v.fit)
