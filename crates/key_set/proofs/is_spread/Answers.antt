-- `is_spread`: the links of the keys so far lead back.
use Rattle.std.proofs.Common.{arith}
use Rattle.key_set.proofs.Index.{linked_upto}
use Rattle.key_set.proofs.is_spread.Goals as goal

pub depth-n-requires : goal.depth-n-requires
depth-n-requires c = (linked_upto c.requires _ c.loop-p-test.true, omega arith)
