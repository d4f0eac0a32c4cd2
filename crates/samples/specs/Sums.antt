-- Streams of problems with a pair for each, for request 12.
use Rattle.std.specs.Prelude.{List, ◌++◌, ℕ}
use Rattle.calls.specs.AddedBounds.{Streams, streams}
use Rattle.samples.specs.Streams.{variables, exponents, condition_term, condition_minus, end, header, finish, rule, problem_f, problem_f_with, low_f, half_f, high_f}

abbrev pub case_f : Streams
case_f = streams problem_f low_f high_f

-- F with the lower bound −2/2, and F under a joining rule
abbrev pub halves_f : Streams
halves_f = streams problem_f half_f high_f

abbrev pub ruled_f : ℕ → Streams
ruled_f r = streams (problem_f_with (rule r)) low_f high_f

-- n variables and some conditions, no objective: both bounds are 0
abbrev pub without : ℕ → List ℕ → Streams
without n conditions = streams (variables n ++ conditions ++ end) (header 0 1 0 1 ++ finish) (header 1 1 0 1 ++ finish)

-- the terms 1 and −x² of case F's constraint, and the term x
abbrev pub one : List ℕ
one = condition_term (exponents 0 0) 1

abbrev pub minus_square : List ℕ
minus_square = condition_minus (exponents 2 0) 255

abbrev pub linear : List ℕ
linear = condition_term (exponents 1 0) 1
