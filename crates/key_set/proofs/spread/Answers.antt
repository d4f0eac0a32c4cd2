-- `spread`: every link of an index leads back.
use Rattle.key_set.proofs.Index.{linked}
use Rattle.key_set.proofs.spread.Goals as goal

pub is_spread-requires : goal.is_spread-requires
is_spread-requires c = linked c.requires.0 c.loop-k.invariant
