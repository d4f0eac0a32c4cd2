-- `contains`: a key that is found is in the set, and one that is not found is not.
use Rattle.std.proofs.Common.{◌∙◌}
use Rattle.key_set.proofs.Keys.{found_is}
use Rattle.key_set.proofs.contains.Goals as goal

pub returns : goal.returns
returns c = c.is_ok.ensures.value ∙ found_is _ _ _ _ c.find.ensures
