-- What gapcheck writes: the lines of the pair's verdict on three streams. The work tables are long enough.
use Rattle.std.specs.Prelude.{false, List, ℕ}
use Rattle.calls.specs.Pair.{pair_verdict}
use Rattle.lines.specs.Lines.{pair_lines}

abbrev pub answer_to : List ℕ → List ℕ → List ℕ → List ℕ
answer_to problem low high = pair_lines (pair_verdict false problem low high)
