use Rattle.std.proofs.Common.{◌≡◌, take, ◌+◌, ◌*◌}
use Rattle.text.specs.Appending.{Appended}
use Rattle.lines.specs.Lines.{hexadecimal}
use Rattle.text.proofs.append_hexadecimal.Given as goal

-- the digits of the first bytes are appended
abbrev pub invariant-loop-b : goal.invariant-loop-b
invariant-loop-b l =
    (l.end ≡ l.fn.at + 2 * l.b-index)
    × Appended l.initial.out l.fn.at (hexadecimal (take l.b-index l.fn.bytes)) l.out l.end
