-- What documents 01 and 02 show of gapcheck's output, replay's lines of the same pairs, and the ends of the range of
-- numbers.
use mathlib.Core.Path.{◌≡◌, refl}
use mathlib.Core.Bool.{true, false}
use lib.IntN.{pos, negsuc}
use Rattle.calls.specs.Fractions.{fraction, none}
use Rattle.calls.specs.Refusals.{no_refusal, certificate_refusal}
use Rattle.calls.specs.declared.PairVerdict.{PairVerdict}
use Rattle.calls.specs.Pair.{refused_pair}
use Rattle.lines.specs.Lines.{ascii, decimal, signed_decimal, ratio, refusal_line, gap_word, pair_words, pair_lines, pair_line}

abbrev pub case_f : PairVerdict
case_f = record {
  refusal = no_refusal;
  lower = fraction (negsuc 0) 1;
  upper = fraction (pos 1) 1;
  gap = fraction (pos 2) 1;
  empty = false;
  rounds = 2;
  rule = 1;
}

pub lines_of_F : pair_lines case_f ≡ ascii "lower -1/1\nupper 1/1\ngap 2/1\nrounds 2\n"
unfolding pair_lines pair_words gap_word ratio signed_decimal decimal refusal_line
lines_of_F = refl

pub line_of_F : pair_line case_f ≡ ascii "pair -1/1 1/1 gap 2/1 rounds 2 rule 1\n"
unfolding pair_line pair_words gap_word ratio signed_decimal decimal refusal_line
line_of_F = refl

-- two bounds that cross
abbrev pub crossed : PairVerdict
crossed = record {
  refusal = no_refusal;
  lower = fraction (pos 1) 1;
  upper = fraction (negsuc 0) 1;
  gap = none;
  empty = true;
  rounds = 1;
  rule = 2;
}

pub lines_of_crossed : pair_lines crossed ≡ ascii "lower 1/1\nupper -1/1\ngap empty\nrounds 1\n"
unfolding pair_lines pair_words gap_word ratio signed_decimal decimal refusal_line
lines_of_crossed = refl

pub line_of_crossed : pair_line crossed ≡ ascii "pair 1/1 -1/1 gap empty rounds 1 rule 2\n"
unfolding pair_line pair_words gap_word ratio signed_decimal decimal refusal_line
line_of_crossed = refl

pub lines_of_B : pair_lines (refused_pair (certificate_refusal 1 9 0 0)) ≡ ascii "refused 9 1 0 0\n"
unfolding pair_lines pair_words ratio signed_decimal decimal refusal_line
lines_of_B = refl

pub least : signed_decimal (negsuc 9223372036854775807) ≡ ascii "-9223372036854775808"
unfolding signed_decimal decimal
least = refl

pub greatest : decimal 18446744073709551615 ≡ ascii "18446744073709551615"
unfolding decimal
greatest = refl
