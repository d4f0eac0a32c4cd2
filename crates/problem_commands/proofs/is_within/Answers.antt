-- `is_within`: a shift by 8n bits divides by 256^n, and past 64 bits nothing is left.
use mathlib.Core.Path.{◌≡◌, refl, sym, ap, ◌∙◌}
use Prim.Native.Nat.{ℕ, zero, suc, ◌+◌, ◌*◌, ◌/◌, ◌^◌, ◌≤◌, ◌<◌}
use native.Mathlib.Nat.{pow-suc, pow-le-pow_right, div-lt_iff_lt-mul}
use native.Mathlib.Omega.{arith}
use lib.Dec.{lit<}
use lib.Pow.{pow-add}
use borrow.Author.Tests.{eq-eqb}
use Rattle.polynomial.specs.Monomial.{within}
use Rattle.problem_commands.proofs.is_within.Goals as goal

shift_is : (n : ℕ) → 2 ^ (8 * n) ≡ 256 ^ n
shift_is zero = refl
shift_is (suc n) =
    let e : 8 * suc n ≡ 8 * n + 8 = omega arith in
    ap (λ (x : ℕ). 2 ^ x) e ∙ pow-add 2 (8 * n) 8 ∙ ap (λ (x : ℕ). x * 256) (shift_is n) ∙ sym (pow-suc 256 n)

beyond : (n k : ℕ) → 7 < n → k < 2 ^ 64 → k / 256 ^ n ≡ 0
beyond n k h l =
    let u : 256 ^ 8 ≤ 256 ^ n = pow-le-pow_right {n = 256} (lit< tt) {i = 8} {j = n} h in
    let b : k / 256 ^ n < 1 = (div-lt_iff_lt-mul (pow-le-pow_right {n = 256} (lit< tt) {i = 0} {j = n} (omega arith))).1 (omega arith) in
    omega arith

pub returns-then-n-gt7 : goal.returns-then-n-gt7
unfolding within
returns-then-n-gt7 c = sym (eq-eqb _ 0 (beyond c.args.n c.args.key c.if-n-gt7.true c.ranges.key.fits))

pub returns : goal.returns
unfolding within
returns c = rw (shift_is c.args.n)
