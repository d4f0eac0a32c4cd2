-- `is_before`: a key has one place.
use Rattle.key_set.proofs.Keys.{before_at, before_nowhere}
use Rattle.key_set.proofs.is_before.Goals as goal

pub returns-in-Ok : goal.returns-in-Ok
returns-in-Ok c = before_at c.requires.0 _ c.requires.2 _ _ c.in-Ok.ensures

pub returns-in-Err : goal.returns-in-Err
returns-in-Err c = before_nowhere c.requires.0 _ c.requires.2 _ _ c.in-Err.ensures
