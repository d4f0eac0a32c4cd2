-- `at_end`: by what stands there.
use Rattle.std.proofs.Common.{refl, sym, ◌∙◌}
use Rattle.office_check.proofs.Walks.{end_cut, end_whole, end_past}
use Rattle.office_check.proofs.at_end.Goals as goal
use Rattle.office_check.proofs.at_end.Goals.{else-at-s-via-then-at-s+else-s-at-eq64, else-at-s-via-else-at-s}

pub returns-then-s-at-eq64 : goal.returns-then-s-at-eq64
returns-then-s-at-eq64 c = (refl, c.requires ∙ sym (end_cut _ (rw c.requires at c.if-s-at-eq64.true)))

pub returns-else-at-s : goal.returns-else-at-s
returns-else-at-s c =
    elim c.else-at-s.branch [
      | else-at-s-via-then-at-s+else-s-at-eq64 w ↦ (refl, sym (end_whole _ (rw c.requires at w.if-s-at-eq64.false)))
      | else-at-s-via-else-at-s w ↦ (refl, sym (end_past _ (rw c.requires at w.if-at-s.false)))
    ]
