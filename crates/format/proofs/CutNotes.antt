-- Where a note is cut, the stream with notes removed has no end command, so it is not read whole.
use mathlib.Core.Path.{◌≡◌, refl, sym, ap, ◌∙◌}
use mathlib.Core.Bool.{Bool, true, false, cond}
use mathlib.Core.List.{List, [], ◌∷◌, ◌++◌}
use mathlib.Core.Logic.{⊎_elim}
use Prim.Native.Nat.{ℕ, ◌+◌, ◌-◌, ◌≤◌, ◌<◌}
use native.Mathlib.Omega.{arith}
use lib.ListN.{length, get_or, take, drop, length-drop, get_or-append, get_or-eq_default}
use lib.Seq.{slice, length-slice, slice_empty, get_or-drop, drop-drop, drop-append-le}
use borrow.Author.Tests.{eqb-true}
use Rattle.counting.proofs.Cases.{clash, lt_or_le}
use Rattle.format.specs.Commands.{given, Language}
use Rattle.format.specs.ProblemRules.{Problem}
use Rattle.format.specs.CertificateLayout.{certificate_command, certificate_size}
use Rattle.format.specs.CertificateRules.{Certificate, no_certificate, certificate_command_at, certificate_next, certificate_language, read_certificate}
use Rattle.format.specs.Notes.{note_length, is_note, walk_start, step_at, note_offsets, walk_end, body_end, outside, without_notes}
use Rattle.format.proofs.Run.{Left, left_start, left_next}
use Rattle.format.proofs.CertificateChecks.{taken_size}
use Rattle.format.proofs.Meets.{Meets, past, stopped, extra, finished, taken, meets}
use Rattle.format.proofs.Walk.{stepped, walk_induction}
use Rattle.format.proofs.Notes.{Spaced, spaced_most, spaced_lower, end_inside, notes_spaced, part_byte}
use Rattle.format.proofs.NotesRead.{headed}

-- ---- the rest of the stream with notes removed, from a command on
module _ (s : List ℕ) (end : ℕ) (inside : end ≤ length s) where
  drop_part : (at n to : ℕ) → drop n (slice at to s) ≡ slice (at + n) to s
  drop_part at n to = drop-drop n at (take to s)

  -- past a command that stands before the notes left
  drop_outside : (at n : ℕ) (l : List ℕ) → Spaced (at + n) l end → drop n (outside at l end s) ≡ outside (at + n) l end s
  unfolding outside Spaced
  drop_outside at n [] q = drop_part at n end
  drop_outside at n (b ∷ l) q =
      let m = spaced_most (b + note_length) l end q.1 in
      let e = length-slice at b s (omega arith) in
      drop-append-le n (slice at b s) (outside (b + note_length) l end s) (omega arith)
      ∙ ap (λ (x : List ℕ). x ++ outside (b + note_length) l end s) (drop_part at n b)

  -- its first byte
  first_outside_lem : (at n : ℕ) (l : List ℕ) → 0 < n → Spaced (at + n) l end → get_or (outside at l end s) 0 0 ≡ get_or s at 0
  unfolding outside Spaced
  first_outside_lem at n [] h q = let z : at + 0 ≡ at = omega arith in rw z at (part_byte at end s 0 (omega arith))
  first_outside_lem at n (b ∷ l) h q =
      let m = spaced_most (b + note_length) l end q.1 in
      let e = length-slice at b s (omega arith) in
      let z : at + 0 ≡ at = omega arith in
      get_or-append (slice at b s) _ 0 0 (omega arith) ∙ rw z at (part_byte at b s 0 (omega arith))

module _ (p : Problem) (s : List ℕ) (d : Certificate) (read : read_certificate p (without_notes s) ≡ given d) where
  abbrev t : List ℕ
  t = without_notes s

  abbrev end : ℕ
  end = body_end s

  abbrev language : Language Certificate
  language = certificate_language p

  -- the reader of the stream with notes removed is at y, the walk at `at`
  record Both (at : ℕ) (l : List ℕ) (c : Certificate) (y : ℕ) : Type 0 where
    rest : drop y t ≡ outside at l end s
    left : Left language t (read_certificate p t) c y

  -- a command is read in both
  module _ (at n : ℕ) (l : List ℕ) (some : 0 < n) (apart : Spaced (at + n) l end)
      (size : certificate_size (certificate_command_at s at) ≡ n) (goes : get_or s at 0 ≡ 0x13 → ⊥)
      (c : Certificate) (y : ℕ) (b : Both at l c y) where
    byte : get_or t y 0 ≡ get_or s at 0
    byte =
        let z : y + 0 ≡ y = omega arith in
        rw z at (sym (get_or-drop y t 0 0)) ∙ rw b.rest (first_outside_lem s end (end_inside s) at n l some apart)

    both_next : ((e : Certificate) → Both (at + n) l e (y + n) → ⊥) → ⊥
    both_next next = go (meets language t _ c y b.left)
      where
        go : Meets language t (read_certificate p t) c y → ⊥
        go (past h f) = clash (cc)
        go (stopped h v f) = clash (cc)
        go (extra h v e m f) = clash (cc)
        go (finished h v e m f) = goes (sym byte ∙ e)
        go (taken h v e) =
            let k = left_next language t _ c y b.left h v e (taken_size p c t y v) in
            next (certificate_next c t y)
            (record {
              rest = sym (drop-drop n y t) ∙ rw b.rest (drop_outside s end (end_inside s) at n l apart);
              left = rw (byte, size) at k;
            })

  record Unended (at : ℕ) (l : List ℕ) (e : ℕ) : Type 0 where
    spaced : Spaced at l e
    never : e ≡ end → (c : Certificate) (y : ℕ) → Both at l c y → ⊥

  unended : Unended (walk_start s) (note_offsets s) (walk_end s)
  unfolding Spaced outside
  unended = walk_induction s Unended ends command note
    where
      ends : (at : ℕ) → at ≤ length s → step_at s at ≡ 0 → Unended at [] at
      ends at h z = record { spaced = omega arith; never = λ e c y b. go e c y b (meets language t _ c y b.left) }
        where
          none : at ≡ end → (c : Certificate) (y : ℕ) → Both at [] c y → length t ≤ y
          none e c y b =
              let m : drop y t ≡ [] = b.rest ∙ rw e (slice_empty end s) in
              omega (arith, length-drop y t, ap length m)

          go : at ≡ end → (c : Certificate) (y : ℕ) → Both at [] c y → Meets language t (read_certificate p t) c y → ⊥
          go e c y b (past h f) = clash (cc)
          go e c y b (stopped h v f) = clash (cc)
          go e c y b (extra h v q m f) = clash (cc)
          go e c y b (finished h v q m f) = omega (arith, none e c y b)
          go e c y b (taken h v q) = omega (arith, none e c y b)

      command : (at : ℕ) (l : List ℕ) (e : ℕ) → 0 < step_at s at → is_note (get_or s at 0) ≡ false
          → Unended (at + step_at s at) l e → Unended at l e
      command at l e q n r =
          let k = stepped s at q in
          record {
            spaced = spaced_lower at (at + step_at s at) l e (omega arith) r.spaced;
            never = λ f c y b.
                both_next at (step_at s at) l q (rw f at r.spaced) (sym (k.size ∙ rw n)) k.goes c y b
                (λ d g. r.never f d (y + step_at s at) g);
          }

      note : (at : ℕ) (l : List ℕ) (e : ℕ) → 0 < step_at s at → is_note (get_or s at 0) ≡ true
          → Unended (at + note_length) l e → Unended at (at ∷ l) e
      note at l e q n r = record {
        spaced = (omega arith, r.spaced);
        never = λ f c y b.
            r.never f c y (record { rest = rw (slice_empty at s) at b.rest; left = b.left });
      }

  -- a cut note stands within the stream, and behind a 10
  module _ (note : is_note (get_or s (walk_end s) 0) ≡ true) where
    is_end : walk_end s ≡ end
    unfolding body_end
    is_end = rw note

    note_inside : walk_end s < length s
    note_inside =
        let b = eqb-true (get_or s (walk_end s) 0) _ note in
        ⊎_elim (λ h. h) (λ h. absurd (omega (arith, get_or-eq_default s 0 h))) (lt_or_le (walk_end s) (length s))

    not_cut : ⊥
    unfolding without_notes read_certificate certificate_command
    not_cut =
        let l = note_offsets s in
        let low = spaced_most (walk_start s) l end (notes_spaced s) in
        let h = headed s (omega (arith, low, is_end, note_inside)) in
        let apart = rw h.start at (notes_spaced s) in
        both_next 0 10 l (omega arith) apart (rw h.byte) (λ e. omega (arith, h.byte)) no_certificate 0
        (record { rest = refl; left = left_start language t no_certificate })
        (λ c b. unended.never is_end c 10 (rw h.start b))

  -- so a stream that is read with notes removed has no note that is cut
  pub read_whole : body_end s ≡ length s
  unfolding body_end
  read_whole = go (is_note (get_or s (walk_end s) 0)) refl
    where
      go : (b : Bool) → is_note (get_or s (walk_end s) 0) ≡ b → cond b (walk_end s) (length s) ≡ length s
      go true e = absurd (not_cut e)
      go false e = refl
