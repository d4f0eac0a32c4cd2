-- `high_digits`: the first k places hold the upper digits.
use Rattle.std.proofs.Common.{◌≡◌, length}
use Rattle.row_digits.specs.Digits.{high_digit, HoldsDigits}
use Rattle.row_digits.proofs.high_digits.Given as goal

abbrev pub invariant-loop-k : goal.invariant-loop-k
invariant-loop-k l = (length l.highs ≡ 64) × HoldsDigits high_digit l.factors l.k l.highs l.wide
