-- What an accepted certificate says over every ordered ring: its bound holds by its side. One law, for the check and for
-- every call that decides by it.
use mathlib.Core.Path.{◌≡◌, refl}
use mathlib.Core.Bool.{Bool}
use mathlib.Core.List.{List}
use Prim.Native.Nat.{ℕ}
use Rattle.ordered_rings.specs.Rings.{OrderedRing}
use Rattle.format.specs.Commands.{given}
use Rattle.format.specs.ProblemRules.{Problem, read_problem}
use Rattle.format.specs.CertificateRules.{Certificate}
use Rattle.format.proofs.ProblemLimits.{read_limits}
use Rattle.accepting.specs.Judgement as J
use Rattle.accepting.proofs.RingBounds.{accepted_below_in, accepted_above_in}
use Rattle.calls.specs.Check.{bound_of, check_verdict}
use Rattle.calls.specs.RingPromises.{SideHoldsIn}
use Rattle.calls.specs.Superseding.{HoldingPart}
use Rattle.calls.proofs.Refusing.{reads_at}
use Rattle.calls.proofs.Checking.{Checked, check_found}

module _ {A : Type 0} (R : OrderedRing A) (s : List ℕ) (p : Problem) (read : read_problem s ≡ given p) where
  pub accepted_in : (t : List ℕ) (c : Certificate) → J.Accepted p t c
      → SideHoldsIn R p c.header.side (bound_of c.header)
  accepted_in t c a = record {
    lower = accepted_below_in R p (read_limits s p read) t c a;
    upper = accepted_above_in R p (read_limits s p read) t c a;
  }

  -- of what the check returns
  pub checked_in : (short : Bool) (t : List ℕ) → (check_verdict short s t).refusal.number ≡ 0
      → SideHoldsIn R p (check_verdict short s t).side (check_verdict short s t).bound
  checked_in short t h =
      let v = check_verdict short s t in
      let k = reads_at s (λ q. Checked q t v) (check_found short s t v refl h) p read in
      rw k.verdict (accepted_in t k.certificate k.accepted)

  -- of the part that comes back of two certificates, from the clause `holds`
  pub part_in : (part : List ℕ) (k : HoldingPart p part)
      → SideHoldsIn R p k.certificate.header.side (bound_of k.certificate.header)
  part_in part k = accepted_in part k.certificate k.accepted
