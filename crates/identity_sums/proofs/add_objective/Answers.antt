-- `add_objective`: in each turn the next term is added x times; a product fits 64 bits.
use Rattle.std.proofs.Common.{◌≡◌, ◌^◌, ◌≤◌, ℤ, pos, nat_abs, ◌*ℤ◌, length, length-append, rules, arith}
use mir.Facts.{to_z-of_z, sfits_widen}
use mir.Syntax.{w32, w64}
use mir.Val.{SFits}
use Rattle.std.proofs.lemmas.Slice.Zip.{zip_turn, zip_end}
use Rattle.integers.proofs.Ranges.{abs_fits, fits_abs, abs_mul_le}
use Rattle.identity_sums.specs.Tables.{claim_most}
use Rattle.identity_sums.proofs.Growth.{ready_after}
use Rattle.identity_sums.proofs.Products.{summing_start, summing_more}
use Rattle.identity_sums.proofs.add_objective.Goals as goal

product_fits : (x c : ℤ) → nat_abs x ≤ claim_most → SFits w32 c → SFits w64 (x *ℤ c)
product_fits x c h f = abs_fits (omega (arith, abs_mul_le x c claim_most (2 ^ 31) h (fits_abs f)))

pub loop-exponent-init : goal.loop-exponent-init
loop-exponent-init c = summing_start

pub overflow_mul-x : goal.overflow_mul-x
overflow_mul-x c =
    let f : SFits w32 c.in-Some.field-0-1.now = search rules in
    let w : SFits w64 c.in-Some.field-0-1.now = sfits_widen tt f in
    simp (to_z-of_z, c.ranges.x, f, w) (product_fits _ _ c.requires.2 f)

pub add_number-requires : goal.add_number-requires
add_number-requires c =
    let a = c.args.terms in
    let t = zip_turn a.exponents.now a.coefficients.now c.loop-exponent.yielded c.into_iter-exponent-iterator.result _ c.next.new.self _ (search rules) (search rules) c.loop-exponent.yielded_by _ c.in-Some.is c.next.ensures.steps in
    ready_after c.requires.0 c.loop-exponent.invariant.grown (omega arith)

pub loop-exponent-preserved : goal.loop-exponent-preserved
loop-exponent-preserved c =
    let a = c.args.terms in
    let t = zip_turn a.exponents.now a.coefficients.now c.loop-exponent.yielded c.into_iter-exponent-iterator.result _ c.next.new.self _ (search rules) (search rules) c.loop-exponent.yielded_by _ c.in-Some.is c.next.ensures.steps in
    let f : SFits w32 c.in-Some.field-0-1.now = search rules in
    let w : SFits w64 c.in-Some.field-0-1.now = sfits_widen tt f in
    let p : SFits w64 (c.args.x *ℤ c.in-Some.field-0-1.now) = product_fits _ _ c.requires.2 f in
    let x = to_z-of_z c.ranges.x in
    let g = rw (t.2 0, t.3 (pos 0)) at (simp (to_z-of_z, c.ranges.x, f, w, p) at c.add_number.ensures) in
    simp (x, length-append) (summing_more (simp x at c.loop-exponent.invariant) g)

pub returns : goal.returns
returns c =
    let a = c.args.terms in
    let t = zip_end a.exponents.now a.coefficients.now c.loop-exponent.yielded c.into_iter-exponent-iterator.result _ c.next.new.self _ (search rules) (search rules) c.loop-exponent.yielded_by c.in-None.is c.next.ensures.steps in
    let e : length c.loop-exponent.yielded ≡ length a.exponents.now = omega arith in
    rw (← e) (simp (to_z-of_z c.ranges.x) at c.loop-exponent.invariant.grown)
