-- `add_squares`: the first part is all where no row has a wide factor.
use Rattle.identity_check.proofs.Squares.{narrow_carried, parts_carried}
use Rattle.identity_check.proofs.add_squares.Goals as goal

pub returns-then-sum_rows : goal.returns-then-sum_rows
returns-then-sum_rows c =
    parts_carried c.requires.comparable.0.0 c.requires.ready.support.few c.sum_rows.ensures.0 c.add_wide_parts.ensures

pub returns : goal.returns
returns c =
    let s = c.sum_rows.ensures in
    narrow_carried c.requires.comparable.0.0 c.requires.ready.support.few s.0 (s.2 c.if-sum_rows.false)
