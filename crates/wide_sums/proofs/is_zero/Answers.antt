-- `is_zero`: the sum is 0 where the low half leaves nothing, and what is carried is the opposite of the high half.
use Rattle.std.proofs.Common.{◌≡◌, refl, sym, ap, ◌∙◌, pos, get_or, ◌-ℤ◌, w64, to_z, of_z, rules}
use Rattle.std.proofs.lemmas.Bool.{eqb-true, eqb-false}
use mir.Facts.{to_z-of_z}
use mir.Val.{SFits}
use Rattle.integers.proofs.Ranges.{zero_bits}
use Rattle.wide_sums.specs.Sums.{halves_of}
use Rattle.wide_sums.proofs.Floors.{halves_fit, minus_fits, zero_halves, halves_zero}
use Rattle.wide_sums.proofs.is_zero.Goals as goal

pub overflow_sub-result : goal.overflow_sub-result
overflow_sub-result c =
    let a = get_or c.args.lo.now c.args.at (pos 0) in
    let f : SFits w64 a = search rules in
    let e : c.cut-l.result ≡ halves_of a = c.cut-l.ensures ∙ ap halves_of (to_z-of_z f) in
    rw (e, to_z-of_z (halves_fit a f).high) (minus_fits a f)

pub returns-then-l-eq0 : goal.returns-then-l-eq0
returns-then-l-eq0 c =
    let g = get_or c.args.hi.now c.args.at (pos 0) in
    let a = get_or c.args.lo.now c.args.at (pos 0) in
    let m = pos 0 -ℤ (halves_of a).high in
    let f : SFits w64 a = search rules in
    let p : SFits w64 g = search rules in
    let e : c.cut-l.result ≡ halves_of a = c.cut-l.ensures ∙ ap halves_of (to_z-of_z f) in
    let z = zero_bits (halves_fit a f).low (rw e at c.if-l-eq0.true) in
    rw (e, to_z-of_z (halves_fit a f).high)
    record {
      yes = λ t. halves_zero g a z (sym (to_z-of_z p) ∙ ap (to_z w64) (eqb-true (of_z w64 g) (of_z w64 m) t) ∙ to_z-of_z (minus_fits a f));
      no = λ t s. eqb-false (of_z w64 g) (of_z w64 m) t (ap (of_z w64) (zero_halves g a s).1);
    }

pub returns-else-l-eq0 : goal.returns-else-l-eq0
returns-else-l-eq0 c =
    let g = get_or c.args.hi.now c.args.at (pos 0) in
    let a = get_or c.args.lo.now c.args.at (pos 0) in
    let f : SFits w64 a = search rules in
    let e : c.cut-l.result ≡ halves_of a = c.cut-l.ensures ∙ ap halves_of (to_z-of_z f) in
    record {
      yes = λ t. absurd (c.if-l-eq0.false (eqb-true _ _ t));
      no = λ t s. c.if-l-eq0.false (rw (e, (zero_halves g a s).0) refl);
    }
