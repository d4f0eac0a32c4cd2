use Rattle.std.proofs.Common.{◌≡◌, ◌∙◌, sym, ap, length-set, get_or, pos, w32, to_z, of_z, arith, rules}
use Rattle.std.proofs.lemmas.Bool.{not-false, eqb-true}
use mir.Facts.{to_z-of_z}
use Rattle.integers.proofs.Ranges.{zero_bits}
use Rattle.row_digits.specs.Digits.{high_digit}
use Rattle.row_digits.proofs.Digits.{digits_more}
use Rattle.row_digits.proofs.high_digits.Goals as goal

pub loop-k-preserved : goal.loop-k-preserved
loop-k-preserved c =
    let l = get_or c.args.factors.now c.loop-k.k (pos 0) in
    let read : to_z w32 (of_z w32 l) ≡ l = to_z-of_z {w = w32} (search rules) in
    let e : c.high_digit-h.result ≡ high_digit l = c.high_digit-h.ensures ∙ ap high_digit read in
    let h : to_z w32 (of_z w32 c.high_digit-h.result) ≡ high_digit l = to_z-of_z {w = w32} (search rules) ∙ e in
    let v = c.loop-k.invariant in
    rw h (length-set c.loop-k.highs c.loop-k.k _ ∙ v.0, digits_more v.1 (omega arith) (λ n. sym e ∙ zero_bits {w = w32} (search rules) (eqb-true _ _ (not-false _ n))))
