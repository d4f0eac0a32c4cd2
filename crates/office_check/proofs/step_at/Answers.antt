-- `step_at`: by the tests of the byte and of the length.
use Rattle.std.proofs.Common.{◌∙◌, sym, arith}
use Rattle.office_check.proofs.Walks.{step_past, step_end, step_cut, step_goes}
use Rattle.office_check.proofs.step_at.Goals as goal
use Rattle.office_check.proofs.step_at.Goals.{then-at-s-via-then-at-s, then-at-s-via-else-at-s+then-s-at-eq19, then-n-eq0-via-then-n-eq0, then-n-eq0-via-else-n-eq0+then-s-at}

pub returns-then-at-s : goal.returns-then-at-s
returns-then-at-s c =
    elim c.then-at-s.branch [
      | then-at-s-via-then-at-s w ↦ step_past _ _ w.if-at-s.true
      | then-at-s-via-else-at-s+then-s-at-eq19 w ↦ step_end _ _ w.if-s-at-eq19.true
    ]

pub returns-then-n-eq0 : goal.returns-then-n-eq0
returns-then-n-eq0 c =
    elim c.then-n-eq0.branch [
      | then-n-eq0-via-then-n-eq0 w ↦
          step_goes _ _ _ c.length_of-n.ensures c.if-s-at-eq19.false (omega (arith, w.if-n-eq0.true, c.if-at-s.false)) ∙ w.if-n-eq0.true
      | then-n-eq0-via-else-n-eq0+then-s-at w ↦ step_cut _ _ _ c.length_of-n.ensures (omega arith)
    ]

pub returns : goal.returns
returns c = (sym (step_goes _ _ _ c.length_of-n.ensures c.if-s-at-eq19.false (omega arith)), omega arith)
