-- `row_split`: what is asked at an entry, and what the walk has found.
use native.Mathlib.Omega.{arith}
use Rattle.row_blocks.proofs.Splits.{row_first, searching_end, searching_entry, searching_long, searching_low, searching_found}
use Rattle.row_blocks.proofs.row_split.Goals as goal

pub index_at-requires : goal.index_at-requires
index_at-requires c = row_first c.requires c.if-to-x.false

pub index_at-requires-in-loop-x : goal.index_at-requires-in-loop-x
index_at-requires-in-loop-x c = searching_entry c.loop-x.invariant c.loop-x-test.true

pub bounds-labels-part-in-loop-x : goal.bounds-labels-part-in-loop-x
bounds-labels-part-in-loop-x c = searching_low c.loop-x.invariant c.loop-x-test.true (omega arith)

pub returns-then-labels-part : goal.returns-then-labels-part
returns-then-labels-part c = searching_found c.loop-x.invariant c.loop-x-test.true (omega arith) c.if-labels-part.true

pub after_entry-x-requires : goal.after_entry-x-requires
after_entry-x-requires c = searching_entry c.loop-x.invariant c.loop-x-test.true

pub loop-x-smaller : goal.loop-x-smaller
loop-x-smaller c = omega (arith, searching_long c.loop-x.invariant c.loop-x-test.true)

pub returns : goal.returns
returns c = searching_end c.loop-x.invariant c.loop-x-test.false
