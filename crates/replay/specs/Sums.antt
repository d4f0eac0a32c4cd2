-- Kind d: two problems with a pair for each, and the line for them. The tables are long enough.
use Rattle.std.specs.Prelude.{false, List, ℕ}
use Rattle.calls.specs.AddedBounds.{Streams, sum_verdict}
use Rattle.lines.specs.SumLines.{sum_line}

abbrev pub sum_answer : Streams → Streams → List ℕ
sum_answer a b = sum_line (sum_verdict false a b)
