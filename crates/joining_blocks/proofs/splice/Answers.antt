-- `joining_blocks::splice` meets its contract.
use Prim.Native.Nat.{◌≤◌}
use native.Mathlib.Omega.{arith}
use lib.ListN.{length}
use Rattle.round_laws.proofs.Merging.{merging_start, merging_step, merging_less, merging_labels, merging_lists}
use Rattle.joining_blocks.proofs.splice.Goals as goal

pub loop-k-init : goal.loop-k-init
loop-k-init c = merging_start _ _ _ _ c.requires

pub loop-k-smaller : goal.loop-k-smaller
loop-k-smaller c = merging_less _ _ _ _ c.requires _ _ _ c.loop-k.invariant (omega (arith, c.requires.lists.few))

pub loop-k-preserved : goal.loop-k-preserved
loop-k-preserved c = merging_step _ _ _ _ c.requires _ _ _ c.loop-k.invariant (omega (arith, c.requires.lists.few))

pub returns : goal.returns
returns c =
    let e : length c.args.labels.now ≤ c.loop-k.k = omega arith in
    (merging_labels _ _ _ _ c.requires _ _ _ c.loop-k.invariant e, merging_lists _ _ _ _ c.requires _ _ _ c.loop-k.invariant e)
