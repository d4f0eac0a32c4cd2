-- What a pair's record tells, for any bytes: each field whole but the place and the key, of which it has the lowest 32
-- bits. The bounds of an accepted pair are operands of its certificates, so they have the widths of a record's fields.
use native.Mathlib.Omega.{arith}
use mathlib.Core.Path.{◌≡◌, refl, sym, ap, ◌∙◌, subst}
use mathlib.Core.Bool.{Bool, true, false, cond}
use mathlib.Core.List.{List, [], ◌++◌, append-nil}
use mathlib.Core.Logic.{◌⊎◌, inl, inr}
use Prim.Native.Nat.{ℕ, suc, ◌+◌, ◌-◌, ◌%◌, ◌^◌, ◌≤◌, ◌<◌}
use lib.Dec.{lit<, eqb}
use lib.IntN.{pos, negsuc, ◌-ℤ◌}
use lib.ListN.{get_or}
use borrow.Author.Tests.{lt-ltb}
use Rattle.counting.specs.Counting.{Bounded}
use Rattle.counting.proofs.Bounded.{bounded_part}
use Rattle.counting.proofs.Cases.{lt_or_le}
use Rattle.format.specs.All.{All}
use Rattle.format.specs.Commands.{given}
use Rattle.format.specs.Operands.{number, signed}
use Rattle.format.specs.ProblemRules.{Problem}
use Rattle.format.specs.CertificateLayout.{certificate_decoded}
use Rattle.format.specs.CertificateRules.{Certificate, no_certificate, certificate_applied, certificate_next}
use Rattle.format.specs.CertificateRules.{certificate_command_at, certificate_language, read_certificate}
use Rattle.format.specs.declared.certificate.Command.{Command}
use Rattle.format.specs.declared.certificate.Command.TheVariants as C
use Rattle.format.specs.declared.certificate.Header.{Header}
use Rattle.format.proofs.CertificateLimits.{all_within}
use Rattle.format.proofs.Numbers.{lower, upper, number_low}
use Rattle.format.proofs.Run.{read_induction}
use Rattle.calls.specs.declared.PairVerdict.{PairVerdict}
use Rattle.calls.specs.declared.Refusal.{Refusal}
use Rattle.calls.specs.Pair.{refused_pair, pair_verdict}
use Rattle.calls.specs.Report.{Runs, low_start, high_start, runs_at, records_of, pair_on, record_bytes}
use Rattle.calls.specs.Report.{no_runs, EachRecord, Told, EachTold, RecordZeros, EachZeros}
use Rattle.calls.specs.Zeros.{PairZeros}
use Rattle.calls.proofs.Records.{records_induction}
use Rattle.calls.proofs.Endings.{pair_by_lem}
use Rattle.calls.proofs.Pairing.{pair_clauses, pair_zeros}
use Rattle.calls.proofs.RecordFields.{Small, up, down, record_told}

-- ---- the bound that a certificate states
record Narrow (h : Header) : Type 0 where
  p : Small h.p
  q : h.q < 2 ^ 32

small_read : (x : ℕ) → x < 2 ^ 32 → Small (signed 31 x)
small_read x h = go (lt_or_le x (2 ^ 31))
  where
    go : (x < 2 ^ 31) ⊎ (2 ^ 31 ≤ x) → Small (signed 31 x)
    go (inl k) = subst Small (lower 31 x k) (up x k)
    go (inr k) =
        let e : pos x -ℤ pos (2 ^ 32) ≡ negsuc (2 ^ 32 - suc x) = rw (lt-ltb x (2 ^ 32) h) refl in
        subst Small (upper 31 x k) (rw e (down (2 ^ 32 - suc x) (omega arith)))

module _ (s : List ℕ) (bytes : Bounded 255 s) where
  applied_narrow : (c : Certificate) (at : ℕ) (k : Command) → Narrow c.header
      → Narrow (certificate_applied c (certificate_decoded k s at) at).header
  unfolding certificate_applied
  applied_narrow c at C.Header n = record {
    p = small_read (number 4 s (at + 4)) (omega (arith, number_low s bytes 4 (at + 4)));
    q = omega (arith, number_low s bytes 2 (at + 8));
  }
  applied_narrow c at C.Row n = n
  applied_narrow c at C.Entry n = n
  applied_narrow c at C.End n = n
  applied_narrow c at C.Unknown n = n
  applied_narrow c at C.EqualityRow n = n
  applied_narrow c at C.WideEntry n = n

  read_narrow : (p : Problem) (c : Certificate) → read_certificate p s ≡ given c → Narrow c.header
  unfolding read_certificate certificate_next
  read_narrow p c e =
      read_induction (certificate_language p) s (λ a at cs b. Narrow a.header → Narrow b.header)
      (λ a at t b n. n)
      (λ a b at cs t n f k. f (applied_narrow a at (certificate_command_at s at) k))
      no_certificate c e (record { p = up 0 (lit< tt); q = lit< tt })

-- ---- the fields of a verdict, but for the number
record Fields (v : PairVerdict) : Type 0 where
  p : Small v.lower.num
  q : v.lower.den < 2 ^ 32
  P : Small v.upper.num
  Q : v.upper.den < 2 ^ 32
  stream : v.refusal.stream < 2 ^ 32

refused_fields : (r : Refusal) → r.stream ≤ 2 → Fields (refused_pair r)
refused_fields r h = record { p = up 0 (lit< tt); q = lit< tt; P = up 0 (lit< tt); Q = lit< tt; stream = omega arith }

pair_fields : (s low high : List ℕ) → Bounded 255 low → Bounded 255 high → Fields (pair_verdict false s low high)
pair_fields s low high low-bytes high-bytes =
    pair_by_lem false s low high Fields (λ r b. refused_fields r b.stream) (λ p w c d b.
    let n = read_narrow low low-bytes p c b.first.read in
    let m = read_narrow high high-bytes p d b.second.read in
    record { p = n.p; q = n.q; P = m.p; Q = m.q; stream = lit< tt })

-- ---- the record of any three runs whose certificates are bytes, whatever stands behind it
pub record Bytes (r : Runs) : Type 0 where
  pub low : Bounded 255 r.low
  pub high : Bounded 255 r.high

pub pair_told : (r : Runs) → Bytes r → (rest : List ℕ) → Told (record_bytes (pair_on r) ++ rest) (pair_on r)
unfolding pair_on
pair_told r b rest =
    let f = pair_fields r.problem r.low r.high b.low b.high in
    record_told (pair_on r) (record {
      number = omega (arith, (pair_clauses false r.problem r.low r.high (pair_on r) refl).0);
      p = f.p;
      q = f.q;
      P = f.P;
      Q = f.Q;
      stream = f.stream;
    }) rest

-- the records of bytes
module _ (s : List ℕ) (bytes : Bounded 255 s) where
  runs_bytes : (at : ℕ) → Bytes (runs_at s at)
  unfolding runs_at
  runs_bytes at = record {
    low = bounded_part 255 (low_start s at) (number 2 s (at + 2)) s bytes;
    high = bounded_part 255 (high_start s at) (number 2 s (at + 4)) s bytes;
  }

  records_bytes : (l : List Runs) → records_of s ≡ given l → All Bytes l
  unfolding records_of All
  records_bytes l e =
      records_induction s (λ left at k. All Bytes k) (λ left at h. tt) (λ left at k h w b. (runs_bytes at, b)) 64 0 l e

  pub each_told : (number : ℕ) (left : List ℕ) → EachRecord s number left → EachTold s number left
  each_told number left h l e z i k =
      rw (h l e z i k, ← append-nil (record_bytes (pair_on (get_or l i no_runs))))
      (pair_told (get_or l i no_runs) (all_within Bytes l i no_runs k (records_bytes l e)) [])

-- ---- what a record tells has the zeros of its verdict
told_zeros : (s : List ℕ) (v : PairVerdict) → Told s v → PairZeros v → RecordZeros s
told_zeros s v t z = record {
  p = λ h. t.p ∙ (z.lower (refused h)).num;
  q = λ h. t.q ∙ (z.lower (refused h)).den;
  P = λ h. t.P ∙ (z.upper (refused h)).num;
  Q = λ h. t.Q ∙ (z.upper (refused h)).den;
  stream = λ h. t.stream ∙ z.refusal.stream (sym t.refusal ∙ h);
  place = λ h. t.place ∙ ap (λ (n : ℕ). n % 2 ^ 32) (z.refusal.place (sym t.refusal ∙ h));
  key = λ h. t.key ∙ ap (λ (n : ℕ). n % 2 ^ 32) (z.refusal.key (λ e. h (t.refusal ∙ e)));
}
  where
    refused : 0 < number 4 s 0 → 0 < v.refusal.number
    refused h = rw t.refusal at h

pub record_zeros : (r : Runs) (s : List ℕ) → Told s (pair_on r) → RecordZeros s
unfolding pair_on
record_zeros r s t = told_zeros s (pair_on r) t (pair_zeros false r.problem r.low r.high (pair_on r) refl)

pub each_zeros : (s : List ℕ) (number : ℕ) (left : List ℕ) → EachTold s number left → EachZeros s number left
each_zeros s number left h l e z i k = record_zeros (get_or l i no_runs) _ (h l e z i k)
