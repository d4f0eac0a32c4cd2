-- `divide`: what is carried has room, and both halves are cut at 2^16.
use Rattle.std.proofs.Common.{◌≡◌, ap, ◌∙◌, ◌+◌, ◌^◌, ◌<◌, ℤ, pos, nat_abs, get_or, ◌+ℤ◌, w64, to_z, of_z, rules}
use mir.Facts.{to_z-of_z}
use mir.Val.{SFits}
use Rattle.wide_sums.specs.declared.Halves.{Halves}
use Rattle.wide_sums.specs.Sums.{step, halves_of, cut_at}
use Rattle.wide_sums.proofs.Floors.{halves_fit, carried_fits, high_halved, low_halved, moved_fits, sum_fits}
use Rattle.wide_sums.proofs.Tables.{carry_room, divided}
use Rattle.wide_sums.proofs.divide.Goals as goal

-- the halves of the sum, and what they are cut into, as numbers and not as their bits
module _ (g a : ℤ) (g_fits : SFits w64 g) (a_fits : SFits w64 a) (room : nat_abs g + nat_abs (halves_of a).high < 2 ^ 63) {l : Halves}
    (cut : l ≡ halves_of (to_z w64 (of_z w64 a))) where
  cut_is : l ≡ halves_of a
  cut_is = cut ∙ ap halves_of (to_z-of_z a_fits)

  carried_is : to_z w64 (of_z w64 g) +ℤ to_z w64 (of_z w64 l.high) ≡ g +ℤ (halves_of a).high
  carried_is = simp (to_z-of_z, cut_is, (halves_fit a a_fits).high, g_fits)

  high_is : {h : Halves} → h ≡ cut_at step (to_z w64 (of_z w64 (to_z w64 (of_z w64 g) +ℤ to_z w64 (of_z w64 l.high)))) → h ≡ cut_at step (g +ℤ (halves_of a).high)
  high_is e = e ∙ ap (cut_at step) (rw carried_is (to_z-of_z (carried_fits g a a_fits room)))

  low_is : {r : Halves} → r ≡ cut_at step (to_z w64 (of_z w64 l.low)) → r ≡ cut_at step (halves_of a).low
  low_is e = e ∙ ap (cut_at step) (rw cut_is (to_z-of_z (halves_fit a a_fits).low))

pub overflow_add-hi : goal.overflow_add-hi
overflow_add-hi c =
    let g = get_or c.args.hi.now c.args.at (pos 0) in
    let a = get_or c.args.lo.now c.args.at (pos 0) in
    let gf : SFits w64 g = search rules in
    let af : SFits w64 a = search rules in
    let room = carry_room c.args.hi.now c.args.lo.now c.args.at af c.requires.0 c.requires.1 in
    rw (carried_is g a gf af room c.cut-l.ensures) (carried_fits g a af room)

pub overflow_mul-lo : goal.overflow_mul-lo
overflow_mul-lo c =
    let g = get_or c.args.hi.now c.args.at (pos 0) in
    let a = get_or c.args.lo.now c.args.at (pos 0) in
    let gf : SFits w64 g = search rules in
    let af : SFits w64 a = search rules in
    let room = carry_room c.args.hi.now c.args.lo.now c.args.at af c.requires.0 c.requires.1 in
    rw (high_is g a gf af room c.cut-l.ensures c.cut_step-h.ensures, to_z-of_z (high_halved g a af room).low) (moved_fits g a af room)

pub overflow_add-lo : goal.overflow_add-lo
overflow_add-lo c =
    let g = get_or c.args.hi.now c.args.at (pos 0) in
    let a = get_or c.args.lo.now c.args.at (pos 0) in
    let gf : SFits w64 g = search rules in
    let af : SFits w64 a = search rules in
    let room = carry_room c.args.hi.now c.args.lo.now c.args.at af c.requires.0 c.requires.1 in
    rw (high_is g a gf af room c.cut-l.ensures c.cut_step-h.ensures, low_is g a gf af room c.cut-l.ensures c.cut_step-r.ensures)
    (simp (to_z-of_z, (high_halved g a af room).low, moved_fits g a af room, (low_halved g a af room).high) (sum_fits g a af room))

pub returns : goal.returns
returns c =
    let g = get_or c.args.hi.now c.args.at (pos 0) in
    let a = get_or c.args.lo.now c.args.at (pos 0) in
    let gf : SFits w64 g = search rules in
    let af : SFits w64 a = search rules in
    let room = carry_room c.args.hi.now c.args.lo.now c.args.at af c.requires.0 c.requires.1 in
    let high = high_halved g a af room in
    let low = low_halved g a af room in
    rw (high_is g a gf af room c.cut-l.ensures c.cut_step-h.ensures, low_is g a gf af room c.cut-l.ensures c.cut_step-r.ensures)
    (simp (to_z-of_z, high.high, high.low, moved_fits g a af room, low.high, sum_fits g a af room)
    (divided c.args.hi.now c.args.lo.now c.args.at af c.requires.0 c.requires.1))
