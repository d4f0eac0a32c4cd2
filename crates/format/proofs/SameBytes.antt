-- The same bytes in two certificate streams: a command within them has the same operands. Where both streams begin with
-- them, it is checked and taken in the same way.
use mathlib.Core.Path.{◌≡◌, refl, ap, ap₂}
use mathlib.Core.List.{List}
use Prim.Native.Nat.{ℕ, zero, suc, ◌+◌, ◌≤◌, ◌<◌}
use native.Mathlib.Omega.{arith}
use lib.ListN.{length, get_or}
use borrow.Author.Tests.{le-leb}
use Rattle.format.specs.Operands.{number, signed}
use Rattle.format.specs.ProblemRules.{Problem}
use Rattle.format.specs.declared.certificate.Command.{Command}
use Rattle.format.specs.declared.certificate.Command.TheVariants as C
use Rattle.format.specs.declared.certificate.Instruction.TheVariants as I
use Rattle.format.specs.CertificateLayout.{certificate_size, certificate_decoded}
use Rattle.format.specs.CertificateRules.{Certificate, certificate_command_at, certificate_refusal_at, certificate_next}

-- n bytes of one stream, from an offset on, are those of another from an offset of its own on
pub record SameRun (s : List ℕ) (a : ℕ) (t : List ℕ) (b n : ℕ) : Type 0 where
  pub bytes : (x : ℕ) → x < n → get_or t (b + x) 0 ≡ get_or s (a + x) 0

module _ (s : List ℕ) (a : ℕ) (t : List ℕ) (b n : ℕ) (same : SameRun s a t b n) where
  same_number : (w x : ℕ) → x + w ≤ n → number w t (b + x) ≡ number w s (a + x)
  unfolding number
  same_number zero x h = refl
  same_number (suc w) x h =
      let e : b + x + 1 ≡ b + (x + 1) = omega arith in
      let f : a + x + 1 ≡ a + (x + 1) = omega arith in
      rw (same.bytes x (omega arith), e, f, same_number w (x + 1) (omega arith))

  -- so they are one command with its operands
  pub run_decoded : (k : Command) → certificate_size k ≤ n → certificate_decoded k t b ≡ certificate_decoded k s a
  run_decoded C.Header h =
      cc (same_number 1 1 (omega arith), same_number 2 2 (omega arith), same_number 4 4 (omega arith), same_number 2 8 (omega arith))
  run_decoded C.Row h = cc (same_number 1 1 (omega arith), same_number 2 2 (omega arith))
  run_decoded C.Entry h =
      ap₂ I.Entry (same_number 1 1 (omega arith)) (ap (signed 15) (same_number 2 2 (omega arith)))
  run_decoded C.End h = refl
  run_decoded C.Unknown h = refl
  run_decoded C.EqualityRow h =
      ap₂ I.EqualityRow (same_number 1 1 (omega arith)) (ap (signed 15) (same_number 2 2 (omega arith)))
  run_decoded C.WideEntry h =
      ap₂ I.WideEntry (same_number 1 1 (omega arith)) (ap (signed 31) (same_number 4 2 (omega arith)))

-- the first n bytes of both are the same
pub record SameBytes (s t : List ℕ) (n : ℕ) : Type 0 where
  pub first : n ≤ length s
  pub second : n ≤ length t
  pub bytes : (x : ℕ) → x < n → get_or t x 0 ≡ get_or s x 0

module _ (s t : List ℕ) (n : ℕ) (same : SameBytes s t n) where
  module _ (at : ℕ) where
    same_decoded : (k : Command) → at + certificate_size k ≤ n → certificate_decoded k t at ≡ certificate_decoded k s at
    same_decoded k h =
        run_decoded s at t at (certificate_size k) (record { bytes = λ x b. same.bytes (at + x) (omega arith) }) k (omega arith)

    module _ (inside : at < n) (whole : at + certificate_size (certificate_command_at s at) ≤ n) where
      abbrev k : Command
      k = certificate_command_at s at

      pub same_refusal : (p : Problem) (c : Certificate) → certificate_refusal_at p c t at ≡ certificate_refusal_at p c s at
      unfolding certificate_refusal_at
      same_refusal p c =
          let a = same.first in
          let b = same.second in
          rw (same.bytes at inside, same_decoded k whole, le-leb (at + certificate_size k) (length s) (omega arith), le-leb (at + certificate_size k) (length t) (omega arith))

      pub same_next : (c : Certificate) → certificate_next c t at ≡ certificate_next c s at
      unfolding certificate_next
      same_next c = rw (same.bytes at inside, same_decoded k whole)
