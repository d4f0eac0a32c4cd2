-- The longest certificate: 128 rows of 64 entries with 32-bit factors. A longer stream is refused by its first bytes.
use mathlib.Core.Path.{◌≡◌, refl, sym, ◌∙◌}
use mathlib.Core.List.{List, [], ◌∷◌, ◌++◌}
use mathlib.Core.Logic.{⊎_elim}
use Prim.Native.Nat.{ℕ, zero, suc, ◌+◌, ◌-◌, ◌*◌, ◌≤◌, ◌<◌}
use native.Mathlib.Omega.{arith}
use mathlib.Core.Bool.{true}
use lib.Dec.{ltb}
use lib.IntN.{ℤ}
use lib.ListN.{length, get_or, take, set, length-append}
use lib.Seq.{take_all, get_or-take, length-take-le}
use borrow.Author.Tests.{ltb-true, eqb-true}
use Rattle.counting.proofs.Cases.{clash, and_right, lt_or_le}
use Rattle.format.specs.All.{All}
use Rattle.format.specs.Commands.{refused, given, Language}
use Rattle.format.specs.ProblemRules.{Problem}
use Rattle.format.proofs.WithinLimits.{Limits}
use Rattle.format.proofs.ProblemLimits.{basis_few}
use Rattle.format.specs.declared.certificate.Command.{Command}
use Rattle.format.specs.declared.certificate.Command.TheVariants as C
use Rattle.format.specs.CertificateLayout.{certificate_size, certificate_decoded}
use Rattle.format.specs.CertificateRules.{Entry, Row, Certificate, no_certificate, no_row, entry_placed, with_entry, entered, certificate_applied, certificate_command_at, certificate_refusal_at, certificate_next, certificate_language, read_certificate}
use Rattle.format.proofs.Run.{Left, left_start, left_refused, left_extra, left_next}
use Rattle.format.proofs.Meets.{Meets, past, stopped, extra, finished, taken, reading_induction}
use Rattle.format.proofs.Lengths.{certificate_byte}
use Rattle.format.proofs.CertificateChecks.{Passed, passed, taken_size}
use Rattle.format.proofs.CertificateLimits.{IndicesRise, SoundRow, Kept, kept_start, kept_next}
use Rattle.format.proofs.SameBytes.{SameBytes, same_refusal, same_next}

-- ---- indices that rise below n are at most n
few_indices : (n : ℕ) (e : Entry) (es : List Entry) → IndicesRise (e ∷ es)
    → All (λ (d : Entry). d.index < n) (e ∷ es) → e.index + length (e ∷ es) ≤ n
unfolding IndicesRise All
few_indices n e [] r h = omega (arith, h.0)
few_indices n e (f ∷ es) r h = omega (arith, r.0, few_indices n f es r.1 h.1)

few_entries : (n : ℕ) (es : List Entry) → IndicesRise es → All (λ (d : Entry). d.index < n) es → length es ≤ n
few_entries n [] r h = omega arith
few_entries n (e ∷ es) r h = omega (arith, few_indices n e es r h)

-- ---- the bytes of rows, if each entry is a wide one
abbrev rows_size : List Row → ℕ
rows_size [] = 0
rows_size (r ∷ rs) = 4 + 6 * length r.entries + rows_size rs

size_append : (rs : List Row) (r : Row) → rows_size (rs ++ (r ∷ [])) ≡ rows_size rs + (4 + 6 * length r.entries)
size_append [] r = omega arith
size_append (x ∷ rs) r = rw (size_append rs r) (omega arith)

size_set : (rs : List Row) (i : ℕ) (e : Entry) → i < length rs
    → rows_size (set rs i (with_entry (get_or rs i no_row) e)) ≡ rows_size rs + 6
size_set [] i e h = absurd (omega arith)
size_set (r ∷ rs) zero e h = rw (length-append r.entries) (omega arith)
size_set (r ∷ rs) (suc i) e h = rw (size_set rs i e (omega arith)) (omega arith)

-- a certificate within the limits
sound_size : (p : Problem) → Limits p → (rs : List Row) → All (SoundRow p) rs → rows_size rs ≤ 388 * length rs
unfolding All
sound_size p l [] h = omega arith
sound_size p l (r ∷ rs) h =
    let few = few_entries _ r.entries h.0.rising h.0.indices in
    omega (arith, few, basis_few p l r.basis, sound_size p l rs h.1)

-- ---- where a command stands: what was read before it is within the limits, and is no longer than this
record Placed (p : Problem) (c : Certificate) (at : ℕ) : Type 0 where
  kept : Kept p c at
  short : at ≤ 10 + rows_size c.rows

placed_start : (p : Problem) → Placed p no_certificate 0
placed_start p = record { kept = kept_start p; short = omega arith }

module _ (p : Problem) (c : Certificate) (s : List ℕ) (at : ℕ) (h : Placed p c at) where
  -- an entry, by either command
  entered_size : (i : ℕ) (x : ℤ) → entry_placed c at ≡ true → rows_size (entered c i x at).rows ≡ rows_size c.rows + 6
  entered_size i x q =
      size_set c.rows (length c.rows - 1) _ (omega (arith, ltb-true 0 (length c.rows) (and_right (ltb 0 at) _ q)))

  applied_short : (k : Command) → Passed p c s at k → (k ≡ C.End → ⊥)
      → at + certificate_size k ≤ 10 + rows_size (certificate_applied c (certificate_decoded k s at) at).rows
  unfolding certificate_applied
  applied_short C.Header q n = omega (arith, eqb-true at 0 q.placed)
  applied_short C.Row q n = rw (size_append c.rows) (omega (arith, h.short))
  applied_short C.Entry q n = rw (entered_size _ _ q.placed) (omega (arith, h.short))
  applied_short C.End q n = absurd (n refl)
  applied_short C.Unknown q n = clash (cc)
  applied_short C.EqualityRow q n = rw (size_append c.rows) (omega (arith, h.short))
  applied_short C.WideEntry q n = rw (entered_size _ _ q.placed) (omega (arith, h.short))

  placed_next : certificate_refusal_at p c s at ≡ 0 → (get_or s at 0 ≡ 0x13 → ⊥)
      → Placed p (certificate_next c s at) (at + certificate_size (certificate_command_at s at))
  unfolding certificate_next
  placed_next v n = record {
    kept = kept_next p c s at h.kept v;
    short =
        applied_short (certificate_command_at s at) (passed p c s at v)
        (λ e. n (eqb-true _ _ (certificate_byte C.End (get_or s at 0) e (λ u. clash (cc)))));
  }

  -- 128 rows of 64 entries
  placed_most : Limits p → at ≤ 49674
  placed_most l = ⊎_elim later (λ z. omega arith) (lt_or_le 0 at)
    where
      later : 0 < at → at ≤ 49674
      later q =
          let k = h.kept.later q in
          omega (arith, h.short, sound_size p l c.rows k.rows, k.count)

-- ---- a certificate that is read has at most 49,675 bytes
pub read_longest : (p : Problem) (s : List ℕ) (c : Certificate) → Limits p → read_certificate p s ≡ given c
    → length s ≤ 49675
read_longest p s c l e =
    reading_induction p s (λ a at. Placed p a at → length s ≤ 49675)
    (λ a at m next k. go a at m (λ v n. next v n (placed_next p a s at k v n)) (placed_most p a s at k l))
    (placed_start p)
  where
    go : (a : Certificate) (at : ℕ) → Meets (certificate_language p) s (read_certificate p s) a at
        → (certificate_refusal_at p a s at ≡ 0 → (get_or s at 0 ≡ 0x13 → ⊥) → length s ≤ 49675) → at ≤ 49674
        → length s ≤ 49675
    go a at (past h f) next b = clash (cc)
    go a at (stopped h v f) next b = clash (cc)
    go a at (extra h v q m f) next b = clash (cc)
    go a at (finished h v q m f) next b = omega arith
    go a at (taken h v n) next b = next v n

-- ---- so a stream is read by its first bytes: a command that is met stands at 49,674 at most, and has at most 10 bytes
abbrev pub enough_bytes : ℕ
enough_bytes = 49684

size_most : (k : Command) → certificate_size k ≤ 10
size_most C.Header = omega arith
size_most C.Row = omega arith
size_most C.Entry = omega arith
size_most C.End = omega arith
size_most C.Unknown = omega arith
size_most C.EqualityRow = omega arith
size_most C.WideEntry = omega arith

module _ (p : Problem) (s t : List ℕ) (limits : Limits p) (same : SameBytes s t enough_bytes) where
  abbrev l : Language Certificate
  l = certificate_language p

  -- at a command
  module _ (a : Certificate) (at : ℕ) (low : at ≤ 49674) (k : Left l t (read_certificate p t) a at) where
    whole : at + certificate_size (certificate_command_at s at) ≤ enough_bytes
    whole = omega (arith, size_most (certificate_command_at s at))

    refusal : certificate_refusal_at p a t at ≡ certificate_refusal_at p a s at
    refusal = same_refusal s t enough_bytes same at (omega arith) whole p a

    within : at + 1 < length t
    within = omega (arith, same.second)

    at_stopped : 0 < certificate_refusal_at p a s at → refused (certificate_refusal_at p a s at) at ≡ read_certificate p t
    at_stopped v = rw (← refusal) (left_refused l t _ a at k (omega (arith, within)) (rw refusal v))

    module _ (v : certificate_refusal_at p a s at ≡ 0) where
      at_extra : get_or s at 0 ≡ 0x13 → refused 2 (at + 1) ≡ read_certificate p t
      at_extra b =
          left_extra l t _ a at k (omega (arith, within)) (refusal ∙ v) (same.bytes at (omega arith) ∙ b) within

      at_next : (get_or s at 0 ≡ 0x13 → ⊥)
          → Left l t (read_certificate p t) (certificate_next a s at) (at + certificate_size (certificate_command_at s at))
      at_next n =
          let b = same.bytes at (omega arith) in
          let w = left_next l t _ a at k (omega (arith, within)) (refusal ∙ v) (λ e. n (sym b ∙ e)) (taken_size p a t at (refusal ∙ v)) in
          rw (same_next s t enough_bytes same at (omega arith) whole a, b) at w

  same_reading : read_certificate p t ≡ read_certificate p s
  unfolding read_certificate
  same_reading =
      reading_induction p s
      (λ a at. Placed p a at → Left l t (read_certificate p t) a at → read_certificate p t ≡ read_certificate p s)
      (λ a at m next k w.
      go a at m (placed_most p a s at k limits) w (λ low v n. next v n (placed_next p a s at k v n) (at_next a at low w v n)))
      (placed_start p) (left_start l t no_certificate)
    where
      go : (a : Certificate) (at : ℕ) → Meets l s (read_certificate p s) a at → at ≤ 49674
          → Left l t (read_certificate p t) a at
          → (at ≤ 49674 → certificate_refusal_at p a s at ≡ 0 → (get_or s at 0 ≡ 0x13 → ⊥)
          → read_certificate p t ≡ read_certificate p s) → read_certificate p t ≡ read_certificate p s
      go a at (past h f) low w next = absurd (omega (arith, same.first))
      go a at (stopped h v f) low w next = sym (at_stopped a at low w v) ∙ f
      go a at (extra h v b m f) low w next = sym (at_extra a at low w v b) ∙ f
      go a at (finished h v b m f) low w next = absurd (omega (arith, same.first))
      go a at (taken h v n) low w next = next low v n

pub read_beginning : (p : Problem) (s : List ℕ) → Limits p → read_certificate p (take enough_bytes s) ≡ read_certificate p s
read_beginning p s limits = ⊎_elim longer (λ h. rw (take_all enough_bytes s h)) (lt_or_le enough_bytes (length s))
  where
    longer : enough_bytes < length s → read_certificate p (take enough_bytes s) ≡ read_certificate p s
    longer h =
        same_reading p s (take enough_bytes s) limits
        (record {
          first = omega arith;
          second = rw (length-take-le enough_bytes s (omega arith)) (omega arith);
          bytes = λ x b. get_or-take enough_bytes s x 0 b;
        })
