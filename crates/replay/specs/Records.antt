-- The line that answers a record. The tables, the 576 bytes and the 256 bytes are long enough, and the bytes are 0
-- before the call.
use Rattle.std.specs.Prelude.{false, cond, List, [], ℕ, eqb, length, replicate}
use Rattle.calls.specs.Blocks.{blocks_verdict, bytes_left}
use Rattle.calls.specs.Check.{check_verdict}
use Rattle.calls.specs.Pair.{pair_verdict}
use Rattle.calls.specs.Superseding.{superseding_verdict, part_of}
use Rattle.calls.specs.Adjusted.{adjusted_verdict}
use Rattle.calls.specs.declared.SupersedingVerdict.{SupersedingVerdict}
use Rattle.calls.specs.Symmetries.{symmetries_verdict, masks_left}
use Rattle.calls.specs.Office.{office_verdict, buffer_left}
use Rattle.lines.specs.Lines.{blocks_line, check_line, pair_line, tighter_line, symmetries_line, adjusted_line, office_line}

abbrev pub blocks_answer : List ℕ → List ℕ
blocks_answer problem = blocks_line (blocks_verdict false problem) (bytes_left false problem (replicate 576 0))

abbrev pub check_answer : List ℕ → List ℕ → List ℕ
check_answer problem certificate = check_line (check_verdict false problem certificate)

abbrev pub pair_answer : List ℕ → List ℕ → List ℕ → List ℕ
pair_answer problem first second = pair_line (pair_verdict false problem first second)

-- what comes back of two certificates, and the refusal
abbrev pub tighter_verdict : SupersedingVerdict → List ℕ → List ℕ → List ℕ
tighter_verdict v first second = tighter_line v.refusal (part_of v.chosen first second)

abbrev pub tighter_answer : List ℕ → List ℕ → List ℕ → List ℕ
tighter_answer problem first second = tighter_verdict (superseding_verdict false problem first second) first second

abbrev pub symmetries_answer : List ℕ → List ℕ
symmetries_answer problem =
    symmetries_line (symmetries_verdict false problem) (masks_left false problem (replicate 256 0))

-- a certificate, and changes in the place of the second
abbrev pub adjusted_answer : List ℕ → List ℕ → List ℕ → List ℕ
adjusted_answer problem certificate changes = adjusted_line (adjusted_verdict false problem certificate changes)

-- a certificate that may have notes, and the buffer as lent
abbrev pub office_answer : List ℕ → List ℕ → List ℕ → List ℕ
office_answer problem certificate buffer =
    office_line (office_verdict false problem certificate (length buffer)) (buffer_left false problem certificate buffer)

-- by the kind: b, c, p, s, a, or another, which is not answered. Kinds t, n, w, r and x, whose lines may be longer than
-- a text, and d, which has six runs, are answered by `tighter_answer`, `office_answer`, `window_answer`, `report_answer`,
-- `tool_answer` and `sum_answer`
unfoldable pub record_answer : ℕ → List ℕ → List ℕ → List ℕ → List ℕ
record_answer kind problem first second =
    cond (eqb kind 0x62) (blocks_answer problem)
    (cond (eqb kind 0x63) (check_answer problem first)
    (cond (eqb kind 0x70) (pair_answer problem first second)
    (cond (eqb kind 0x73) (symmetries_answer problem)
    (cond (eqb kind 0x61) (adjusted_answer problem first second) []))))
