-- The line that replay writes for two problems with a pair for each (request 12).
use Rattle.std.specs.Prelude.{List, ◌++◌, ℕ}
use Rattle.calls.specs.declared.SumVerdict.{SumVerdict}
use Rattle.lines.specs.Lines.{ascii, with_number, with_ratio, unless_refused}

-- the two sums, and the rule used by each problem
unfoldable pub sum_line : SumVerdict → List ℕ
sum_line v =
    unless_refused v.refusal
    (with_ratio "sum " v.lower
    ++ with_ratio " " v.upper
    ++ with_number " rules " v.rules.first
    ++ with_number " " v.rules.second
    ++ ascii "\n")
