-- Kind w: a run of arrivals, and the line for it.
use Rattle.std.specs.Prelude.{cond, List, [], ℕ, ◌+◌, ◌*◌, ◌/◌, eqb, length}
use Rattle.counting.specs.Counting.{listed}
use Rattle.format.specs.Operands.{number, signed}
use Rattle.calls.specs.Fractions.{fraction}
use Rattle.calls.specs.declared.Fraction.{Fraction}
use Rattle.calls.specs.Window.{verdicts_after}
use Rattle.lines.specs.Lines.{ascii, window_line}

-- an arrival has 16 bytes: the numerator, signed, and the denominator
abbrev pub arrival_at : List ℕ → ℕ → Fraction
arrival_at s i = fraction (signed 63 (number 8 s (16 * i))) (number 8 s (16 * i + 8))

-- those of a run, in order; bytes after the last whole one are ignored
unfoldable pub arrivals_of : List ℕ → List Fraction
arrivals_of s = listed (length s / 16) (arrival_at s)

abbrev pub window_answer : List ℕ → List ℕ
window_answer s = window_line (verdicts_after [] (arrivals_of s))

-- what stands before the outcome of arrival i
abbrev pub separator : ℕ → List ℕ
separator i = cond (eqb i 0) (ascii " ") (ascii "; ")
