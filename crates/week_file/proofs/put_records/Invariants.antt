use Rattle.std.proofs.Common.{◌≡◌, length, ◌*◌, ◌≤◌}
use Rattle.text.specs.Appending.{Appended}
use Rattle.week_file.specs.Lines.{lines_to}
use Rattle.week_file.proofs.put_records.Given as goal

-- the lines of the first i records are there
abbrev pub invariant-loop-i : goal.invariant-loop-i
invariant-loop-i l =
    (l.at ≤ 119 * l.i) × ((length l.text ≡ length l.initial.text) × Appended l.initial.text 0 (lines_to l.i l.fn.out) l.text l.at)
