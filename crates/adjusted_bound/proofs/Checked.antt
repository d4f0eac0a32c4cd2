-- The verdict from what the check says, and the range of the bound that the check returns.
use mathlib.Core.Path.{◌≡◌, ap}
use mathlib.Core.Bool.{Bool}
use mathlib.Core.List.{List}
use Prim.Native.Nat.{ℕ}
use borrow.Author.Tests.{eq-eqb, ne_eqb}
use Rattle.counting.specs.Counting.{Bounded}
use Rattle.format.specs.ProblemRules.{read_problem}
use Rattle.format.proofs.HeaderRange.{read_ranged}
use Rattle.fractions.specs.Ranges.{Bound}
use Rattle.calls.specs.declared.CheckVerdict.{CheckVerdict}
use Rattle.calls.specs.Check.{bound_of, check_verdict}
use Rattle.calls.specs.Adjusted.{refused_adjusted, adjusted_read, adjusted_checked, adjusted_verdict}
use Rattle.calls.proofs.Checking.{check_found}

module _ (short : Bool) (s t : List ℕ) (v : CheckVerdict) (is : v ≡ check_verdict short s t) where
  -- p of 32 bits over q of 16
  pub bound_ranged : v.refusal.number ≡ 0 → Bounded 255 t → Bound v.bound
  bound_ranged h bytes =
      let r = check_found short s t v is h in
      let k = r.holds in
      let g = read_ranged t bytes r.problem k.certificate k.accepted.read in
      let e : v.bound ≡ bound_of k.certificate.header = ap (λ (w : CheckVerdict). w.bound) k.verdict in
      rw e (record { num = g.p; den = g.q })

  module _ (changes : List ℕ) where
    of_check : adjusted_checked s v changes ≡ adjusted_verdict short s t changes
    unfolding adjusted_verdict
    of_check = ap (λ (w : CheckVerdict). adjusted_checked s w changes) is

    pub check_refused_lem : (v.refusal.number ≡ 0 → ⊥)
        → refused_adjusted v.refusal ≡ adjusted_verdict short s t changes
    unfolding adjusted_checked
    check_refused_lem h = rw (ne_eqb v.refusal.number 0 h) at of_check

    pub check_passed : v.refusal.number ≡ 0
        → adjusted_read (read_problem s) v changes ≡ adjusted_verdict short s t changes
    unfolding adjusted_checked
    check_passed h = rw (eq-eqb v.refusal.number 0 h) at of_check
