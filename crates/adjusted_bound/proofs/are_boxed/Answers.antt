-- `are_boxed`: the variables one by one, up to the first without a box.
use Rattle.std.proofs.Common.{◌≡◌, ◌+◌, ◌-◌, refl, sym, ap, ◌∙◌}
use native.Mathlib.Omega.{arith}
use Prim.Native.Nat.{ℕ}
use Rattle.calls.specs.Adjusted.{boxed_to}
use Rattle.adjusted_bound.proofs.Searched.{not_boxed, boxed_next, next_square, square_low}
use Rattle.adjusted_bound.proofs.are_boxed.Goals as goal

pub loop-i-init : goal.loop-i-init
unfolding boxed_to
loop-i-init c = (omega arith, (omega (arith, c.requires.1), (refl, λ p f. refl)))

pub returns-then-not-has_box : goal.returns-then-not-has_box
returns-then-not-has_box c =
    let l = c.loop-i in
    λ p f.
    not_boxed p.conditions _ l.i l.invariant.0 l.invariant.1.0
    (sym (c.has_box.ensures p f l.i l.invariant.1.1.0) ∙ c.if-not-has_box.true)

pub overflow_mul-square : goal.overflow_mul-square
overflow_mul-square c =
    let l = c.loop-i in
    omega (arith, square_low l.i l.square l.invariant.0 (omega (arith, c.loop-i-test.true, c.requires.2)) l.invariant.1.1.0)

pub loop-i-preserved : goal.loop-i-preserved
loop-i-preserved c =
    let l = c.loop-i in
    let z : l.i + 1 - 1 ≡ l.i = omega arith in (
      omega arith,
      (
        omega (arith, c.loop-i-test.true),
        (
          next_square l.i l.square l.invariant.0 l.invariant.1.1.0,
          λ p f.
              ap (λ (m : ℕ). boxed_to m p.conditions) z
              ∙ boxed_next p.conditions l.i l.invariant.0 (l.invariant.1.1.1 p f)
              ∙ sym (c.has_box.ensures p f l.i l.invariant.1.1.0) ∙ c.if-not-has_box.false,
        ),
      ),
    )

pub returns : goal.returns
returns c =
    let l = c.loop-i in
    λ p f.
    let e : l.i ≡ c.args.n = omega (arith, c.loop-i-test.false, l.invariant.1.0) in
    c.has_box-2.ensures p f l.i l.invariant.1.1.0
    ∙ sym (boxed_next p.conditions l.i l.invariant.0 (l.invariant.1.1.1 p f))
    ∙ ap (λ (m : ℕ). boxed_to m p.conditions) e
