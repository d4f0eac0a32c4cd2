-- `keep_low_digits`: the first k places hold the lower digits, and the others are as they were.
use Rattle.std.proofs.Common.{◌≡◌, ℕ, ◌≤◌, length, get_or, pos}
use Rattle.row_digits.specs.Digits.{low_digit, HoldsDigits}
use Rattle.row_digits.proofs.keep_low_digits.Given as goal

abbrev pub invariant-loop-k : goal.invariant-loop-k
invariant-loop-k l =
    record {
      long : length l.factors ≡ 64;
      later : (i : ℕ) → l.k ≤ i → get_or l.factors i (pos 0) ≡ get_or l.initial.factors i (pos 0);
      held : HoldsDigits low_digit l.initial.factors l.k l.factors l.wide;
    }
