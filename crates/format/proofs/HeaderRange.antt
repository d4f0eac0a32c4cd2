-- How large what a certificate's header states is: p of 32 bits and q of 16.
use mathlib.Core.Path.{◌≡◌}
use mathlib.Core.List.{List}
use Prim.Native.Nat.{ℕ, ◌+◌, ◌^◌, ◌≤◌, ◌<◌}
use native.Mathlib.Omega.{arith}
use lib.IntN.{nat_abs}
use Rattle.counting.specs.Counting.{Bounded}
use Rattle.format.specs.Commands.{given}
use Rattle.format.specs.ProblemRules.{Problem}
use Rattle.format.specs.declared.certificate.Command.{Command}
use Rattle.format.specs.declared.certificate.Command.TheVariants as C
use Rattle.format.specs.declared.certificate.Header.{Header}
use Rattle.format.specs.CertificateLayout.{certificate_decoded}
use Rattle.format.specs.CertificateRules.{Certificate, no_certificate, certificate_applied, certificate_command_at, certificate_next, certificate_language, read_certificate}
use Rattle.format.proofs.Numbers.{number_low, operand_small}
use Rattle.format.proofs.Run.{read_induction}

pub record Ranged (h : Header) : Type 0 where
  pub p : nat_abs h.p ≤ 2 ^ 31
  pub q : h.q < 2 ^ 16

module _ (s : List ℕ) (bytes : Bounded 255 s) where
  applied_ranged : (c : Certificate) (at : ℕ) (k : Command) → Ranged c.header
      → Ranged (certificate_applied c (certificate_decoded k s at) at).header
  unfolding certificate_applied
  applied_ranged c at C.Header h = record { p = operand_small s bytes 4 _; q = number_low s bytes 2 (at + 8) }
  applied_ranged c at C.Row h = h
  applied_ranged c at C.Entry h = h
  applied_ranged c at C.End h = h
  applied_ranged c at C.Unknown h = h
  applied_ranged c at C.EqualityRow h = h
  applied_ranged c at C.WideEntry h = h

  next_ranged : (c : Certificate) (at : ℕ) → Ranged c.header → Ranged (certificate_next c s at).header
  unfolding certificate_next
  next_ranged c at h = applied_ranged c at (certificate_command_at s at) h

  pub read_ranged : (p : Problem) (c : Certificate) → read_certificate p s ≡ given c → Ranged c.header
  unfolding read_certificate
  read_ranged p c e =
      read_induction (certificate_language p) s (λ a at cs b. Ranged a.header → Ranged b.header)
      (λ a at t b h. h)
      (λ a b at cs t n f h. f (next_ranged a at h))
      no_certificate c e (record { p = omega arith; q = omega arith })
