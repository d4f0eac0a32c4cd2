-- How the strict reader reads a stream with notes: it refuses the first note with 3, unless it refuses something before
-- it.
use mathlib.Core.Path.{◌≡◌, refl, sym, ◌∙◌}
use mathlib.Core.Bool.{Bool, true, false, cond, ◌&&◌}
use mathlib.Core.List.{List, ◌∷◌}
use mathlib.Core.Logic.{◌⊎◌, inl, inr, ⊎_elim}
use Prim.Native.Nat.{ℕ, ◌+◌, ◌-◌, ◌≤◌, ◌<◌}
use native.Mathlib.Omega.{arith}
use lib.Dec.{eqb, leb}
use lib.ListN.{length, get_or, length-append}
use lib.Seq.{slice, length-slice}
use borrow.Author.Tests.{eqb-true}
use Rattle.counting.proofs.Cases.{clash, lt_or_le}
use Rattle.format.specs.Commands.{refused, first_refusal, Language}
use Rattle.format.specs.ProblemRules.{Problem}
use Rattle.format.specs.CertificateLayout.{certificate_command, certificate_size}
use Rattle.format.specs.CertificateRules.{Certificate, no_certificate, certificate_command_at, certificate_refusal_at, certificate_next, certificate_language, read_certificate}
use Rattle.format.specs.Notes.{note_length, is_note, walk_start, step_at, note_offsets, walk_end, body_end, outside, without_notes}
use Rattle.format.proofs.Run.{Left, left_start, left_refused, left_next}
use Rattle.format.proofs.CertificateChecks.{taken_size}
use Rattle.format.proofs.SameBytes.{SameBytes, same_refusal, same_next}
use Rattle.format.proofs.Meets.{Meets, past, stopped, extra, finished, taken, reading_induction}
use Rattle.format.proofs.Walk.{stepped, Walking, walking_start, walking_end, walking_command, walking_note}
use Rattle.format.proofs.Notes.{Spaced, spaced_most, walking_found, end_inside, notes_spaced, spaced, place_low, removes_notes}

-- the strict check knows no 40: "The strict check refuses it as before, with 3"
pub note_refused : (p : Problem) (c : Certificate) (s : List ℕ) (at : ℕ) → is_note (get_or s at 0) ≡ true
    → certificate_refusal_at p c s at ≡ 3
unfolding certificate_refusal_at first_refusal certificate_command
note_refused p c s at h = rw (eqb-true (get_or s at 0) _ h)

-- ---- the beginning of a stream that has notes, or a note that is cut
-- where the walk does not end at once, the stream begins with a 10
pub record Headed (s : List ℕ) : Type 0 where
  pub byte : get_or s 0 0 ≡ 0x10
  pub start : walk_start s ≡ 10

pub headed : (s : List ℕ) → walk_start s < length s → Headed s
unfolding walk_start
headed s = go (eqb (get_or s 0 0) 0x10) refl (leb 10 (length s)) refl
  where
    go : (x : Bool) → eqb (get_or s 0 0) 0x10 ≡ x → (y : Bool) → leb 10 (length s) ≡ y
        → cond (x && y) 10 (length s) < length s → Headed s
    go true e true f h = record { byte = eqb-true _ _ e; start = unfold walk_start in rw (e, f) }
    go true e false f h = absurd (omega arith)
    go false e y f h = absurd (omega arith)

-- ---- the strict reader, where the first note stands at a
module _ (p : Problem) (s : List ℕ) (a : ℕ) (l : List ℕ) (first : note_offsets s ≡ a ∷ l) where
  abbrev t : List ℕ
  t = without_notes s

  apart : Spaced 0 (a ∷ l) (body_end s)
  apart = rw first at (spaced s)

  far : a + note_length ≤ length s
  unfolding Spaced
  far = omega (arith, spaced_most (a + note_length) l (body_end s) apart.1, end_inside s)

  -- up to there the streams are the same
  long : a ≤ length t
  unfolding without_notes outside
  long =
      rw (first, length-append (slice 0 a s), length-slice 0 a s (omega (arith, far))) (omega arith)

  same : SameBytes s t a
  unfolding Spaced
  same = record {
    first = omega (arith, far);
    second = long;
    bytes = λ x h.
        let e = place_low a (a ∷ l) (body_end s) x (omega arith, apart.1) h in
        rw (first, e) at ((removes_notes s).bytes x (omega (arith, long)));
  }

  -- a command before the note
  record Ahead (at : ℕ) : Type 0 where
    before : at < a
    goes : get_or s at 0 ≡ 0x13 → ⊥
    whole : at + certificate_size (certificate_command_at s at) ≤ a
    walking : Walking s (at + certificate_size (certificate_command_at s at)) (a ∷ l) (walk_end s)

  -- on the way to it
  abbrev Reaches : ℕ → Type 0
  Reaches at = ((at ≡ a) × (is_note (get_or s at 0) ≡ true)) ⊎ Ahead at

  reaches : (at : ℕ) → at ≤ length s → Walking s at (a ∷ l) (walk_end s) → Reaches at
  unfolding Spaced
  reaches at h w = ⊎_elim (λ q. more q (is_note (get_or s at 0)) refl) done (lt_or_le 0 (step_at s at))
    where
      done : step_at s at ≤ 0 → Reaches at
      done z = let e = (walking_end s at (a ∷ l) (walk_end s) w (omega arith)).none in clash (cc)

      more : 0 < step_at s at → (b : Bool) → is_note (get_or s at 0) ≡ b → Reaches at
      more q true b = let m = (walking_note s at (a ∷ l) (walk_end s) w q b).first in inl (cc, b)
      more q false b =
          let k = stepped s at q in
          let z : step_at s at ≡ certificate_size (certificate_command_at s at) = k.size ∙ rw b in
          let v = walking_command s at (a ∷ l) (walk_end s) w q b in
          let f = (walking_found s (at + step_at s at) (a ∷ l) (walk_end s) k.inside v).spaced.0 in
          inr (record { before = omega arith; goes = k.goes; whole = rw z at f; walking = rw z at v })

  -- it begins so
  reaches_start : Reaches 0
  unfolding Spaced certificate_command
  reaches_start =
      let n = (rw first at (notes_spaced s)).0 in
      let h = headed s (omega (arith, far)) in
      let w = rw (first, h.start) at (walking_start s) in
      let m : 10 ≤ a = omega (arith, h.start) in
      inr (record { before = omega arith; goes = λ e. omega (arith, h.byte); whole = rw h.byte m; walking = rw h.byte w })

  -- what the strict reader gives: 3 at the note, or a refusal before it, which the stream with notes removed meets too
  pub data Strict : Type 0 where
    noted : read_certificate p s ≡ refused 3 a → Strict
    earlier : (n place : ℕ) → place < a → read_certificate p s ≡ refused n place → read_certificate p t ≡ refused n place
        → Strict

  abbrev language : Language Certificate
  language = certificate_language p

  module _ (c : Certificate) (at : ℕ) (h : Ahead at) (w : Left language t (read_certificate p t) c at) where
    refusal : certificate_refusal_at p c t at ≡ certificate_refusal_at p c s at
    refusal = same_refusal s t a same at h.before h.whole p c

    at_stopped : 0 < certificate_refusal_at p c s at → refused (certificate_refusal_at p c s at) at ≡ read_certificate p t
    at_stopped v =
        rw (← refusal) (left_refused language t _ c at w (omega (arith, h.before, long)) (rw refusal v))

    at_next : certificate_refusal_at p c s at ≡ 0
        → Left language t (read_certificate p t) (certificate_next c s at) (at + certificate_size (certificate_command_at s at))
    at_next v =
        let b = same.bytes at h.before in
        let z = refusal ∙ v in
        let k =
        left_next language t _ c at w (omega (arith, h.before, long)) z (λ e. h.goes (sym b ∙ e)) (taken_size p c t at z) in
        rw (same_next s t a same at h.before h.whole c, b) at k

  pub strict_reading : Strict
  unfolding read_certificate
  strict_reading =
      reading_induction p s (λ c at. Reaches at → Left language t (read_certificate p t) c at → Strict)
      (λ c at m next r w.
      ⊎_elim (here c at m)
      (λ h.
      ahead c at m h w
      (λ v n. next v n (reaches _ (omega (arith, h.whole, far)) h.walking) (at_next c at h w v)))
      r)
      reaches_start (left_start language t no_certificate)
    where
      here : (c : Certificate) (at : ℕ) → Meets language s (read_certificate p s) c at
          → (at ≡ a) × (is_note (get_or s at 0) ≡ true) → Strict
      here c at (past h f) e = absurd (omega (arith, far, e.0))
      here c at (stopped h v f) e = noted (sym f ∙ rw (note_refused p c s at e.1, e.0))
      here c at (extra h v b m f) e = absurd (omega (arith, note_refused p c s at e.1))
      here c at (finished h v b m f) e = absurd (omega (arith, note_refused p c s at e.1))
      here c at (taken h v b) e = absurd (omega (arith, note_refused p c s at e.1))

      ahead : (c : Certificate) (at : ℕ) → Meets language s (read_certificate p s) c at → (h : Ahead at)
          → Left language t (read_certificate p t) c at
          → (certificate_refusal_at p c s at ≡ 0 → (get_or s at 0 ≡ 0x13 → ⊥) → Strict) → Strict
      ahead c at (past h f) k w next = absurd (omega (arith, far, k.before))
      ahead c at (stopped h v f) k w next = earlier _ at k.before (sym f) (sym (at_stopped c at k w v))
      ahead c at (extra h v b m f) k w next = absurd (k.goes b)
      ahead c at (finished h v b m f) k w next = absurd (k.goes b)
      ahead c at (taken h v b) k w next = next v b
