use Rattle.std.proofs.Common.{◌≡◌, ◌∙◌, sym, ap, length-set, get_or, get_or-set_other, pos, w32, to_z, of_z, arith, rules}
use Rattle.std.proofs.lemmas.Bool.{not-false, eqb-true}
use mir.Facts.{to_z-of_z}
use Rattle.integers.proofs.Ranges.{zero_bits}
use Rattle.row_digits.specs.Digits.{high_digit, low_digit}
use Rattle.row_digits.proofs.Digits.{digits_more}
use Rattle.row_digits.proofs.keep_low_digits.Goals as goal

pub loop-k-preserved : goal.loop-k-preserved
loop-k-preserved c =
    let v = c.loop-k.invariant in
    let k = c.loop-k.k in
    let l = get_or c.args.factors.now k (pos 0) in
    let read : to_z w32 (of_z w32 (get_or c.loop-k.factors k (pos 0))) ≡ l = to_z-of_z {w = w32} (search rules) ∙ v.later k (omega arith) in
    let e : c.high_digit.result ≡ high_digit l = c.high_digit.ensures ∙ ap high_digit read in
    let h : to_z w32 (of_z w32 c.low_digit.result) ≡ low_digit l = to_z-of_z {w = w32} (search rules) ∙ c.low_digit.ensures ∙ ap low_digit read in
    rw h
    record {
      long = length-set c.loop-k.factors k _ ∙ v.long;
      later = λ i b. get_or-set_other c.loop-k.factors k i _ (pos 0) (λ q. omega arith) ∙ v.later i (omega arith);
      held = digits_more v.held (omega arith) (λ n. sym e ∙ zero_bits {w = w32} (search rules) (eqb-true _ _ (not-false _ n)));
    }
