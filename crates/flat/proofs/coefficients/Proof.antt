-- `coefficients`: a part from a place to that place and n more has n numbers.
use borrow.Author.Rules.{rules}
use native.Mathlib.Omega.{arith}
use mathlib.Core.Path.{◌≡◌}
use Prim.Native.Nat.{◌+◌, ◌-◌, ◌*◌}
use lib.ListN.{get_or}
use Rattle.flat.proofs.coefficients.Statement.{statement}
use Rattle.flat.proofs.coefficients.Tie as tie

returns : tie.Need-returns
returns c =
    let a = c.args in
    let n = get_or a.sizes.now (9 + a.j) 0 in
    let e : 32 * a.j + n - 32 * a.j ≡ n = omega arith in
    rw e

pub coefficients_spec : {M : Type 1} → statement M
coefficients_spec =
    tie.close
    (tie.spec
    (λ c. search rules)
    (λ c. search rules)
    (λ c. search rules)
    (λ c. search rules)
    (λ c. search rules)
    (λ c. search rules)
    (λ c. search rules)
    (λ c. search rules)
    (λ c. search rules)
    returns)
