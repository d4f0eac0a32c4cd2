use Rattle.std.proofs.Common.{◌≡◌, ◌∙◌, w32, to_z, of_z, arith, rules}
use mir.Facts.{to_z-of_z}
use Rattle.certificate_rows.specs.Offsets.{entry_at}
use Rattle.certificate_rows.proofs.Offsets.{stand_low}
use Rattle.certificate_rows.proofs.Steps.{step_of, step_entry, step_long}
use Rattle.row_products.proofs.Gathering.{filling_start, filling_end, filling_more}
use Rattle.row_products.proofs.read_row.Goals as goal

pub overflow_add-x : goal.overflow_add-x
overflow_add-x c = let k = c.requires.0 in omega (arith, stand_low k.entries, k.inside, c.ranges.to)

pub loop-x-init : goal.loop-x-init
loop-x-init c = filling_start c.requires.0.entries c.requires.2 c.requires.3

pub index_at-requires : goal.index_at-requires
index_at-requires c = step_entry (step_of c.loop-x.invariant.stand c.loop-x-test.true) c.requires.0.inside

pub factor_at-requires : goal.factor_at-requires
factor_at-requires c = step_entry (step_of c.loop-x.invariant.stand c.loop-x-test.true) c.requires.0.inside

pub after_entry-x-requires : goal.after_entry-x-requires
after_entry-x-requires c = step_entry (step_of c.loop-x.invariant.stand c.loop-x-test.true) c.requires.0.inside

pub loop-x-smaller : goal.loop-x-smaller
loop-x-smaller c =
    omega (arith, c.after_entry-x.ensures, step_long (step_of c.loop-x.invariant.stand c.loop-x-test.true))

pub loop-x-preserved : goal.loop-x-preserved
loop-x-preserved c =
    let e : to_z w32 (of_z w32 c.factor_at.result) ≡ (entry_at c.args.s.now c.loop-x.x).factor = to_z-of_z {w = w32} (search rules) ∙ c.factor_at.ensures in
    rw (c.after_entry-x.ensures, c.index_at.ensures, e) (filling_more c.loop-x.invariant c.loop-x-test.true c.requires.1)

pub returns : goal.returns
returns c = filling_end c.loop-x.invariant c.loop-x-test.false
