-- `add_terms`: in each turn the next term is added x times, at the place that its slot and the key's give.
use Rattle.std.proofs.Common.{◌≡◌, pos, get_or, length, rules, arith}
use mir.Facts.{to_z-of_z}
use mir.Syntax.{w32}
use mir.Val.{SFits}
use Rattle.identity_sums.proofs.Growth.{slot_of_product, ready_after, grown_same}
use Rattle.identity_sums.proofs.Products.{scaled_entry, halves_times, summing_start, summing_more}
use Rattle.identity_sums.proofs.add_terms.Goals as goal

pub loop-t-init : goal.loop-t-init
loop-t-init c = summing_start

pub add_term-requires : goal.add_term-requires
add_term-requires c =
    let p = c.requires.addable in
    let t = c.loop-t-test.true in
    let f : SFits w32 (get_or c.args.placed.now.terms.coefficients.now c.loop-t.t (pos 0)) = search rules in (
      ready_after c.requires.ready c.loop-t.invariant.grown (omega (arith, t)),
      simp (c.cut-h.ensures, to_z-of_z, c.ranges.x, f) (scaled_entry _ _ p.0.small (p.0.coefficients_small c.loop-t.t)),
      slot_of_product _ _ _ _ _ _ _ c.divisor-d.ensures c.slot-slot.ensures (p.1.each c.loop-t.t t) c.slot_of_sum-at.ensures,
    )

pub loop-t-preserved : goal.loop-t-preserved
loop-t-preserved c =
    let f : SFits w32 (get_or c.args.placed.now.terms.coefficients.now c.loop-t.t (pos 0)) = search rules in
    let g = rw (to_z-of_z f) at c.add_term.ensures in
    summing_more c.loop-t.invariant (grown_same g (λ k. halves_times _ _ c.cut-h.ensures _ _) (omega arith))

pub returns : goal.returns
returns c =
    let e : c.loop-t.t ≡ length c.args.placed.now.terms.exponents.now = omega arith in
    rw (← e) (simp (to_z-of_z c.ranges.x) at c.loop-t.invariant.grown)
