-- The places of a certificate stream: those of its refusals and of its entries lie within it.
use mathlib.Core.Path.{◌≡◌}
use mathlib.Core.Bool.{true}
use mathlib.Core.List.{List}
use mathlib.Core.Logic.{◌⊎◌, inl, inr}
use Prim.Native.Nat.{ℕ, ◌+◌, ◌-◌, ◌<◌}
use native.Mathlib.Omega.{arith}
use lib.Dec.{ltb}
use lib.IntN.{ℤ}
use lib.ListN.{length, get_or}
use borrow.Author.Tests.{ltb-true}
use Rattle.counting.proofs.Cases.{clash, and_right}
use Rattle.format.specs.All.{All}
use Rattle.format.specs.Commands.{refused, given}
use Rattle.format.specs.ProblemRules.{Problem}
use Rattle.format.specs.declared.certificate.Command.{Command}
use Rattle.format.specs.declared.certificate.Command.TheVariants as C
use Rattle.format.specs.CertificateLayout.{certificate_decoded}
use Rattle.format.specs.CertificateRules.{Entry, Row, Certificate, no_certificate, no_row, entry_placed, entered, certificate_applied, certificate_command_at, certificate_refusal_at, certificate_next, certificate_language, read_certificate}
use Rattle.format.proofs.ProblemLimits.{all_more, all_set}
use Rattle.format.proofs.Run.{read_induction}
use Rattle.format.proofs.CertificateChecks.{Passed, passed}
use Rattle.format.proofs.CertificateLimits.{all_within}
use Rattle.format.proofs.Meets.{Meets, past, stopped, extra, finished, taken, reading_induction}

-- ---- a refusal: at a byte of the stream, or with 2 at its length
abbrev pub RefusedWithin : List ℕ → ℕ → ℕ → Type 0
RefusedWithin s n place = (place < length s) ⊎ ((n ≡ 2) × (place ≡ length s))

pub refused_within : (p : Problem) (s : List ℕ) (n place : ℕ) → read_certificate p s ≡ refused n place
    → RefusedWithin s n place
refused_within p s n place e = reading_induction p s (λ a at. RefusedWithin s n place) go
  where
    go : (a : Certificate) (at : ℕ) → Meets (certificate_language p) s (read_certificate p s) a at
        → (certificate_refusal_at p a s at ≡ 0 → (get_or s at 0 ≡ 0x13 → ⊥) → RefusedWithin s n place)
        → RefusedWithin s n place
    go a at (past h f) next = inr (cc, cc)
    go a at (stopped h v f) next = let z : place ≡ at = cc in inl (omega arith)
    go a at (extra h v b m f) next = let z : place ≡ at + 1 = cc in inl (omega arith)
    go a at (finished h v b m f) next = clash (cc)
    go a at (taken h v b) next = next v b

-- ---- the entries of a certificate
abbrev RowWithin : List ℕ → Row → Type 0
RowWithin s r = All (λ (e : Entry). e.place < length s) r.entries

abbrev pub EntriesWithin : List ℕ → List Row → Type 0
EntriesWithin s rs = All (RowWithin s) rs

module _ (p : Problem) (c : Certificate) (s : List ℕ) (at : ℕ) (h : at < length s) (k : EntriesWithin s c.rows) where
  entered_within : (i : ℕ) (x : ℤ) → entry_placed c at ≡ true → EntriesWithin s (entered c i x at).rows
  entered_within i x q =
      let n = ltb-true 0 (length c.rows) (and_right (ltb 0 at) _ q) in
      let last = all_within (RowWithin s) c.rows (length c.rows - 1) no_row (omega arith) k in
      all_set (RowWithin s) c.rows _ _ k (all_more (λ (e : Entry). e.place < length s) _ _ last h)

  applied_within : (j : Command) → Passed p c s at j → EntriesWithin s (certificate_applied c (certificate_decoded j s at) at).rows
  unfolding certificate_applied All
  applied_within C.Header q = k
  applied_within C.Row q = all_more (RowWithin s) c.rows _ k tt
  applied_within C.Entry q = entered_within _ _ q.placed
  applied_within C.End q = k
  applied_within C.Unknown q = clash (cc)
  applied_within C.EqualityRow q = all_more (RowWithin s) c.rows _ k tt
  applied_within C.WideEntry q = entered_within _ _ q.placed

  next_within : certificate_refusal_at p c s at ≡ 0 → EntriesWithin s (certificate_next c s at).rows
  unfolding certificate_next
  next_within v = applied_within (certificate_command_at s at) (passed p c s at v)

pub entries_within : (p : Problem) (s : List ℕ) (c : Certificate) → read_certificate p s ≡ given c
    → EntriesWithin s c.rows
unfolding read_certificate All
entries_within p s c e =
    read_induction (certificate_language p) s (λ a at cs b. EntriesWithin s a.rows → EntriesWithin s b.rows)
    (λ a at t b k. k)
    (λ a b at cs t n f k. f (next_within p a s at t.inside k t.passed))
    no_certificate c e tt
