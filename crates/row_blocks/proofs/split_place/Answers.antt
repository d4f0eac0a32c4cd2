-- `split_place`: a row that is reached has its numbers, and what the walk has found.
use Rattle.row_blocks.proofs.Splits.{splitting_indexed, splitting_more, split_found, split_none}
use Rattle.row_blocks.proofs.split_place.Goals as goal

pub row_split-requires : goal.row_split-requires
row_split-requires c = splitting_indexed c.requires.0 c.requires.2 c.loop-r-test.true

pub returns-in-Some : goal.returns-in-Some
returns-in-Some c = λ p k l e f q. split_found p l c.loop-r.invariant e f q c.loop-r-test.true c.in-Some.ensures

pub loop-r-preserved : goal.loop-r-preserved
loop-r-preserved c = splitting_more c.loop-r.invariant c.loop-r-test.true c.in_default.ensures

pub returns : goal.returns
returns c = λ p k l e f q. split_none p l c.loop-r.invariant e f q c.loop-r-test.false
