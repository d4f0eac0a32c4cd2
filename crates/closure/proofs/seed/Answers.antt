-- `closure::seed` meets its contract: three growths of the table, one after another, are the start of the support.
use Rattle.std.proofs.Common.{◌*◌, length, get_or, ap, arith}
use Rattle.counting.proofs.Bounded.{bounded_part}
use Rattle.key_set.proofs.Keys.{grown_holds, keys_none}
use Rattle.joining_bases.proofs.Ready.{stored_full}
use Rattle.closure.proofs.Start.{first, conditions, doubled, start_is, doubled_more, conditions_more, stored_then}
use Rattle.closure.proofs.Laid.{all_low}
use Rattle.closure.proofs.seed.Goals as goal

pub put_polynomial-requires : goal.put_polynomial-requires
put_polynomial-requires c = ((record { few = omega arith; room = c.requires.0; apart = ap length (keys_none _) }, c.requires.1), c.requires.2, omega arith)

pub returns-in_err-a : goal.returns-in_err-a
returns-in_err-a c =
    let k = c.args.keys.now in
    let z = c.args.sizes.now in
    rw (← start_is k z) (stored_full _ _ _ _ _ (rw keys_none at c.in_err-a.ensures.0) _ (conditions_more k z (first k z)) _ c.from_residual.ensures.0)

pub put_conditions-requires : goal.put_conditions-requires
put_conditions-requires c =
    let one = c.in_ok-a.ensures.0 in
    ((grown_holds one.grown c.requires.0 c.in_ok-a.ensures.1, one.index c.in_ok-a.ensures.1), c.requires.2)

pub returns-in_err-b : goal.returns-in_err-b
returns-in_err-b c =
    let k = c.args.keys.now in
    let z = c.args.sizes.now in
    let two = stored_then _ _ _ _ _ (rw keys_none at c.in_ok-a.ensures.0) c.in_ok-a.ensures.1 (conditions k z) _ _ _ c.in_err-b.ensures.0 in
    rw (← start_is k z) (stored_full _ _ _ _ _ two _ (doubled_more k z (conditions k z (first k z))) _ c.from_residual-in_err-b.ensures.0)

pub put_keys-requires : goal.put_keys-requires
put_keys-requires c =
    let k = c.args.keys.now in
    let z = c.args.sizes.now in
    let two = stored_then _ _ _ _ _ (rw keys_none at c.in_ok-a.ensures.0) c.in_ok-a.ensures.1 (conditions k z) _ _ _ c.in_ok-b.ensures.0 in
    let few = c.in_ok-b.ensures.1 in
    ((grown_holds two.grown c.requires.0 few, two.index few), (λ i. rw c.basis-basis.ensures (bounded_part _ (64 * 0) (get_or z 0 0) k (all_low _ _ c.requires.2) i)), omega arith)

pub returns : goal.returns
returns c =
    let k = c.args.keys.now in
    let z = c.args.sizes.now in
    let two = stored_then _ _ _ _ _ (rw keys_none at c.in_ok-a.ensures.0) c.in_ok-a.ensures.1 (conditions k z) _ _ _ c.in_ok-b.ensures.0 in
    (rw (← start_is k z) (stored_then _ _ _ _ _ two c.in_ok-b.ensures.1 (doubled k z) _ _ _ (rw c.basis-basis.ensures at c.put_keys.ensures.0)), c.put_keys.ensures.1)
