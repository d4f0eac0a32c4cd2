-- What a reader meets at an offset of a stream, by cases, and induction by these over a certificate stream.
use mathlib.Core.Path.{◌≡◌}
use mathlib.Core.List.{List}
use mathlib.Core.Logic.{⊎_elim}
use Prim.Native.Nat.{ℕ, zero, suc, ◌+◌, ◌≤◌, ◌<◌}
use native.Mathlib.Omega.{arith}
use lib.ListN.{length, get_or}
use Rattle.counting.proofs.Cases.{lt_or_le}
use Rattle.counting.proofs.Listed.{same_or_not}
use Rattle.format.specs.Commands.{Outcome, refused, given, Language}
use Rattle.format.specs.ProblemRules.{Problem}
use Rattle.format.specs.CertificateLayout.{certificate_size}
use Rattle.format.specs.CertificateRules.{Certificate, no_certificate, certificate_command_at, certificate_refusal_at, certificate_next, certificate_language, read_certificate}
use Rattle.format.proofs.Run.{Left, left_start, left_end, left_refused, left_extra, left_given, left_next}
use Rattle.format.proofs.CertificateChecks.{taken_size, taken_whole}

-- the stream's end; a command that is refused; bytes behind the end command; the end command; or a command that is
-- taken. o is what the stream gives
pub data Meets {A : Type 0} (l : Language A) (s : List ℕ) (o : Outcome A) (a : A) (at : ℕ) : Type 0 where
  past : length s ≤ at → refused 2 (length s) ≡ o → Meets l s o a at
  stopped : at < length s → 0 < l.verdict a s at → refused (l.verdict a s at) at ≡ o → Meets l s o a at
  extra : at < length s → l.verdict a s at ≡ 0 → get_or s at 0 ≡ l.ending → at + 1 < length s → refused 2 (at + 1) ≡ o
      → Meets l s o a at
  finished : at < length s → l.verdict a s at ≡ 0 → get_or s at 0 ≡ l.ending → length s ≤ at + 1 → given a ≡ o
      → Meets l s o a at
  taken : at < length s → l.verdict a s at ≡ 0 → (get_or s at 0 ≡ l.ending → ⊥) → Meets l s o a at

module _ {A : Type 0} (l : Language A) (s : List ℕ) (o : Outcome A) (a : A) (at : ℕ) (k : Left l s o a at) where
  pub meets : Meets l s o a at
  meets = ⊎_elim inside (λ h. past h (left_end l s o a at k h)) (lt_or_le at (length s))
    where
      ending : at < length s → l.verdict a s at ≡ 0 → get_or s at 0 ≡ l.ending → Meets l s o a at
      ending h v b =
          ⊎_elim
          (λ m. extra h v b m (left_extra l s o a at k h v b m))
          (λ m. finished h v b m (left_given l s o a at k h v b m))
          (lt_or_le (at + 1) (length s))

      passed : at < length s → l.verdict a s at ≡ 0 → Meets l s o a at
      passed h v = ⊎_elim (ending h v) (taken h v) (same_or_not (get_or s at 0) l.ending)

      inside : at < length s → Meets l s o a at
      inside h =
          ⊎_elim
          (λ v. stopped h v (left_refused l s o a at k h v))
          (λ z. passed h (omega arith))
          (lt_or_le 0 (l.verdict a s at))

-- ---- induction over the commands of a certificate stream: R at a command, from what is met there and, where that is
-- taken, R at the next
module _ (p : Problem) (s : List ℕ) (R : Certificate → ℕ → Type 0)
    (step : (c : Certificate) (at : ℕ) → Meets (certificate_language p) s (read_certificate p s) c at
    → (certificate_refusal_at p c s at ≡ 0 → (get_or s at 0 ≡ 0x13 → ⊥)
    → R (certificate_next c s at) (at + certificate_size (certificate_command_at s at)))
    → R c at) where
  abbrev l : Language Certificate
  l = certificate_language p

  -- a command that is taken has a byte, so it stands within the stream
  inside : (c : Certificate) (at : ℕ) → certificate_refusal_at p c s at ≡ 0 → at < length s
  inside c at v = omega (arith, taken_whole p c s at v, taken_size p c s at v)

  from : (f : ℕ) (c : Certificate) (at : ℕ) → length s ≤ at + f → Left l s (read_certificate p s) c at → R c at
  from zero c at h k = step c at (meets l s _ c at k) (λ v n. absurd (omega (arith, inside c at v)))
  from (suc f) c at h k =
      step c at (meets l s _ c at k)
      (λ v n.
      from f _ _ (omega (arith, taken_size p c s at v))
      (left_next l s _ c at k (inside c at v) v n (taken_size p c s at v)))

  pub reading_induction : R no_certificate 0
  unfolding read_certificate
  reading_induction = from (length s) no_certificate 0 (omega arith) (left_start l s no_certificate)
