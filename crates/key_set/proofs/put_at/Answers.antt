-- `key_set::put_at`: the key is there, or there is no room, or it is put at the end.
use Rattle.std.proofs.Common.{refl, arith}
use Rattle.key_set.proofs.Keys.{found_there, found_nowhere, stored_there, stored_full}
use Rattle.key_set.proofs.Index.{stored_added, divisor_added}
use Rattle.key_set.proofs.put_at.Goals as goal

pub returns-in-Ok : goal.returns-in-Ok
returns-in-Ok c =
    let h = c.requires.0 in
    (stored_there h.0 h.1 _ (found_there _ _ _ _ c.in-Ok.ensures), h.0.few, refl)

pub returns-in-Err : goal.returns-in-Err
returns-in-Err c =
    let h = c.requires.0 in
    (stored_full h.0 h.1 _ (found_nowhere _ _ _ _ c.in-Err.ensures) (omega arith), tt, refl)

pub returns-in-Err-2 : goal.returns-in-Err-2
returns-in-Err-2 c =
    let h = c.requires.0 in
    let w = rw c.requires.1 at c.note.ensures in (
      stored_added h.0 h.1 _ (omega arith) _ _ w c.mark.ensures (found_nowhere _ _ _ _ c.in-Err-2.ensures),
      omega arith,
      divisor_added h.0 h.1 _ (omega arith) _ _ w c.mark.ensures,
    )
