use Rattle.identity_rows.specs.Bundles.{rows_in}
use Rattle.identity_check.proofs.Squares.{wide_carried}
use Rattle.identity_check.proofs.add_wide_parts.Goals as goal

pub returns : goal.returns
returns c =
    wide_carried (rows_in c.args.rows) c.requires.ready.support.few c.divide_sums-first.ensures c.sum_rows.ensures.0 c.divide_sums-second.ensures c.sum_rows-2.ensures.0
