-- `spread`: the entry at x, which is on or above the diagonal, is spread; then the next place is sought.
use Rattle.std.proofs.Common.{◌*◌, ◌/◌, ◌%◌, ◌≤◌, ◌<◌, ◌⊎◌, ℕ, pos, get_or, refl, inl, ⊎_elim, rules, arith}
use mir.Facts.{to_z-of_z}
use mir.Syntax.{w64}
use mir.Val.{SFits}
use Rattle.identity_sums.proofs.Growth.{ready_after}
use Rattle.identity_rows.proofs.Spreading.{spreading_start, spreading_entered, spreading_room, spreading_more, spreading_skip, spreading_end}
use Rattle.identity_rows.proofs.spread.Goals as goal

-- a place that the walk comes to
upper : (x m : ℕ) → (x / 64 ≤ x % 64) ⊎ (64 * m ≤ x) → x < 64 * m → x / 64 ≤ x % 64
upper x m u h = ⊎_elim (λ w. w) (λ p. absurd (omega arith)) u

pub loop-x-init : goal.loop-x-init
loop-x-init c = (spreading_start, inl (omega arith))

pub add_entry-requires : goal.add_entry-requires
add_entry-requires c =
    let p = c.requires.spreadable in
    let v = c.loop-x.invariant in
    let t = c.loop-x-test.true in
    let room = spreading_room v.0 p.1 t p.0.basis_few (upper _ _ v.1 t) in
    let f : SFits w64 (get_or c.loop-x.g c.loop-x.x (pos 0)) = search rules in
    record {
      ready = (ready_after c.requires.ready v.0.grown (omega arith), c.place-placed.ensures.0);
      spreadable = rw c.place-placed.ensures.1 (p.0, simp (to_z-of_z f) (spreading_entered v.0 p.1));
    }

pub loop-x-preserved : goal.loop-x-preserved
loop-x-preserved c =
    let p = c.requires.spreadable in
    let v = c.loop-x.invariant in
    let t = c.loop-x-test.true in
    let f : SFits w64 (get_or c.loop-x.g c.loop-x.x (pos 0)) = search rules in
    let g = rw c.place-placed.ensures.1 at (simp (to_z-of_z f) at c.add_entry.ensures) in
    let u = upper _ _ v.1 t in (
      spreading_skip (spreading_more v.0 p.1 t p.0.basis_few u g) p.1 refl c.next_place-x.ensures refl,
      c.next_place-x.ensures.upper u,
    )

pub returns : goal.returns
returns c =
    let p = c.requires.spreadable in
    spreading_end c.loop-x.invariant.0 p.1 p.0.basis_few c.loop-x-test.false
