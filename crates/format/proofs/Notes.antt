-- What the stream with notes removed is: its bytes stand in the stream as sent at the places that are told, in their
-- order, and between them stand the notes alone. Streams without notes, and streams that differ in their notes alone.
use mathlib.Core.Path.{◌≡◌, refl, sym, ap, ap₂, ◌∙◌}
use mathlib.Core.Bool.{Bool, true, false, cond, ◌&&◌}
use mathlib.Core.List.{List, [], ◌∷◌, ◌++◌}
use mathlib.Core.Logic.{⊎_elim}
use Prim.Native.Nat.{ℕ, zero, suc, ◌+◌, ◌-◌, ◌*◌, ◌≤◌, ◌<◌}
use native.Mathlib.Omega.{arith}
use lib.Dec.{eqb, leb}
use lib.ListN.{length, get_or, take, length-append, get_or-append}
use lib.Seq.{slice, length-slice, get_or-drop, get_or-take, get_or-append-add, ext_get_or, take-length}
use borrow.Author.Tests.{le-leb, lt-leb, leb-true, leb-false, le-ltb, lt-ltb}
use Rattle.counting.proofs.Cases.{lt_or_le}
use Rattle.format.specs.Notes.{note_text, note_length, is_note, step_at, walk_start, note_offsets, walk_end, body_end, outside, without_notes, place_sent, texts_at, note_texts, RemovesNotes, NotesInOrder, NoNotes, in_text, OtherNotes}
use Rattle.format.specs.All.{All}
use Rattle.format.proofs.CertificateLimits.{all_within}
use Rattle.format.proofs.Walk.{start_inside, Walking, walking_start, walking_end, walking_command, walking_note, walking_induction, walk_induction}

-- ---- offsets of notes between two offsets, in their order and without overlap
unfoldable pub Spaced : ℕ → List ℕ → ℕ → Type 0
Spaced from [] end = from ≤ end
Spaced from (a ∷ l) end = (from ≤ a) × Spaced (a + note_length) l end

pub spaced_lower : (b from : ℕ) (l : List ℕ) (end : ℕ) → b ≤ from → Spaced from l end → Spaced b l end
unfolding Spaced
spaced_lower b from [] end h q = omega arith
spaced_lower b from (a ∷ l) end h q = (omega arith, q.1)

spaced_higher : (from : ℕ) (l : List ℕ) (e end : ℕ) → e ≤ end → Spaced from l e → Spaced from l end
unfolding Spaced
spaced_higher from [] e end h q = omega arith
spaced_higher from (a ∷ l) e end h q = (q.0, spaced_higher (a + note_length) l e end h q.1)

pub spaced_most : (from : ℕ) (l : List ℕ) (end : ℕ) → Spaced from l end → from ≤ end
unfolding Spaced
spaced_most from [] end q = q
spaced_most from (a ∷ l) end q = omega (arith, spaced_most (a + note_length) l end q.1)

-- the walk finds such
pub record Found (s : List ℕ) (at : ℕ) (l : List ℕ) (e : ℕ) : Type 0 where
  pub inside : e ≤ length s
  pub spaced : Spaced at l e

pub walking_found : (s : List ℕ) (at : ℕ) (l : List ℕ) (e : ℕ) → at ≤ length s → Walking s at l e → Found s at l e
unfolding Spaced
walking_found s =
    walking_induction s (Found s)
    (λ at h z. record { inside = h; spaced = omega arith })
    (λ at l e q t r. record { inside = r.inside; spaced = spaced_lower at (at + step_at s at) l e (omega arith) r.spaced })
    (λ at l e q t r. record { inside = r.inside; spaced = (omega arith, r.spaced) })

found : (s : List ℕ) → Found s (walk_start s) (note_offsets s) (walk_end s)
found s = walking_found s (walk_start s) (note_offsets s) (walk_end s) (start_inside s) (walking_start s)

pub end_inside : (s : List ℕ) → body_end s ≤ length s
unfolding body_end
end_inside s = go (is_note (get_or s (walk_end s) 0))
  where
    go : (b : Bool) → cond b (walk_end s) (length s) ≤ length s
    go true = (found s).inside
    go false = omega arith

-- all notes stand behind the 10, and before the end
pub notes_spaced : (s : List ℕ) → Spaced (walk_start s) (note_offsets s) (body_end s)
unfolding body_end
notes_spaced s = go (is_note (get_or s (walk_end s) 0))
  where
    go : (b : Bool) → Spaced (walk_start s) (note_offsets s) (cond b (walk_end s) (length s))
    go true = (found s).spaced
    go false = spaced_higher _ (note_offsets s) (walk_end s) (length s) (found s).inside (found s).spaced

pub spaced : (s : List ℕ) → Spaced 0 (note_offsets s) (body_end s)
spaced s = spaced_lower 0 (walk_start s) (note_offsets s) (body_end s) (omega arith) (notes_spaced s)

-- ---- places as sent
-- with one note at offset a
abbrev moved : ℕ → ℕ → ℕ
moved a x = cond (leb a x) (x + note_length) x

moved_least : (a x : ℕ) → x ≤ moved a x
moved_least a x = go (leb a x)
  where
    go : (b : Bool) → x ≤ cond b (x + note_length) x
    go true = omega arith
    go false = omega arith

moved_rises : (a x y : ℕ) → x < y → moved a x < moved a y
moved_rises a x y h = go (leb a x) refl (leb a y) refl
  where
    go : (b : Bool) → leb a x ≡ b → (c : Bool) → leb a y ≡ c → cond b (x + note_length) x < cond c (y + note_length) y
    go true e true f = omega arith
    go true e false f = absurd (omega (arith, leb-true a x e, leb-false a y f))
    go false e true f = omega arith
    go false e false f = omega arith

pub place_least : (l : List ℕ) (x : ℕ) → x ≤ place_sent l x
unfolding place_sent
place_least [] x = omega arith
place_least (a ∷ l) x = omega (arith, moved_least a x, place_least l (moved a x))

-- in their order
pub place_rises : (l : List ℕ) (x y : ℕ) → x < y → place_sent l x < place_sent l y
unfolding place_sent
place_rises [] x y h = h
place_rises (a ∷ l) x y h = place_rises l (moved a x) (moved a y) (moved_rises a x y h)

-- before the first note they are the same
pub place_low : (from : ℕ) (l : List ℕ) (end x : ℕ) → Spaced from l end → x < from → place_sent l x ≡ x
unfolding place_sent Spaced
place_low from [] end x q h = refl
place_low from (a ∷ l) end x q h =
    rw (lt-leb a x (omega arith)) (place_low (a + note_length) l end x q.1 (omega arith))

-- ---- the bytes outside the notes
pub part_byte : (from to : ℕ) (s : List ℕ) (x : ℕ) → from + x < to → get_or (slice from to s) x 0 ≡ get_or s (from + x) 0
part_byte from to s x h = get_or-drop from (take to s) x 0 ∙ get_or-take to s (from + x) 0 h

module _ (s : List ℕ) (end : ℕ) (inside : end ≤ length s) where
  -- the first part of them
  head_length : (from a : ℕ) (l : List ℕ) → Spaced from (a ∷ l) end → length (slice from a s) ≡ a - from
  unfolding Spaced
  head_length from a l q = length-slice from a s (omega (arith, spaced_most (a + note_length) l end q.1))

  outside_length : (from : ℕ) (l : List ℕ) → Spaced from l end
      → from + length (outside from l end s) + note_length * length l ≡ end
  unfolding outside Spaced
  outside_length from [] q = rw (length-slice from end s inside) (omega arith)
  outside_length from (a ∷ l) q =
      rw (length-append (slice from a s), head_length from a l q)
      (omega (arith, outside_length (a + note_length) l q.1))

  -- behind them the stream ends
  place_end : (from : ℕ) (l : List ℕ) → Spaced from l end → place_sent l (from + length (outside from l end s)) ≡ end
  unfolding outside place_sent Spaced
  place_end from [] q = rw (length-slice from end s inside) (omega arith)
  place_end from (a ∷ l) q =
      let n = length (outside (a + note_length) l end s) in
      let e : from + (a - from + n) ≡ a + n = omega arith in
      let f : a + n + note_length ≡ a + note_length + n = omega arith in
      rw (length-append (slice from a s), head_length from a l q, e, le-leb a (a + n) (omega arith), f)
      (place_end (a + note_length) l q.1)

  -- a byte before the first note, and one behind it
  module _ (from a : ℕ) (l : List ℕ) (q : Spaced from (a ∷ l) end) (x : ℕ) where
    abbrev rest : List ℕ
    rest = outside (a + note_length) l end s

    before : from + x < a → get_or (slice from a s ++ rest) x 0 ≡ get_or s (place_sent l (moved a (from + x))) 0
    unfolding Spaced
    before b =
        let n = head_length from a l q in
        rw (lt-leb a (from + x) b, place_low (a + note_length) l end (from + x) q.1 (omega arith))
        (get_or-append (slice from a s) rest 0 x (omega arith) ∙ part_byte from a s x b)

    behind : a ≤ from + x → get_or rest (from + x - a) 0 ≡ get_or s (place_sent l (a + note_length + (from + x - a))) 0
        → get_or (slice from a s ++ rest) x 0 ≡ get_or s (place_sent l (moved a (from + x))) 0
    unfolding Spaced
    behind b h =
        let n = head_length from a l q in
        let e : x ≡ length (slice from a s) + (from + x - a) = omega arith in
        let f : a + note_length + (from + x - a) ≡ from + x + note_length = omega arith in
        rw (le-leb a (from + x) b, ← f)
        (ap (λ (y : ℕ). get_or (slice from a s ++ rest) y 0) e
        ∙ get_or-append-add (slice from a s) rest (from + x - a) 0
        ∙ h)

  place_byte : (from : ℕ) (l : List ℕ) → Spaced from l end → (x : ℕ) → x < length (outside from l end s)
      → get_or (outside from l end s) x 0 ≡ get_or s (place_sent l (from + x)) 0
  unfolding outside place_sent Spaced
  place_byte from [] q x h = part_byte from end s x (omega (arith, rw (length-slice from end s inside) at h))
  place_byte from (a ∷ l) q x h =
      ⊎_elim (before from a l q x)
      (λ b.
      behind from a l q x b
      (place_byte (a + note_length) l q.1 (from + x - a)
      (omega (arith, rw (length-append (slice from a s), head_length from a l q) at h))))
      (lt_or_le (from + x) a)

-- ---- the stream with notes removed
pub removes_notes : (s : List ℕ) → RemovesNotes s
unfolding without_notes
removes_notes s =
    let end = body_end s in
    let l = note_offsets s in
    let n = length (outside 0 l end s) in
    let zero-add : (x : ℕ) → 0 + x ≡ x = (λ x. omega arith) in
    record {
      bytes = λ x h. rw (zero-add x) at (place_byte s end (end_inside s) 0 l (spaced s) x h);
      rising = place_rises l;
      ends = rw (zero-add n) at (place_end s end (end_inside s) 0 l (spaced s));
      count = omega (arith, outside_length s end (end_inside s) 0 l (spaced s));
    }

-- a place in it, or its end, is a place in the stream as sent, or its end
pub place_inside : (s : List ℕ) (x : ℕ) → x ≤ length (without_notes s) → place_sent (note_offsets s) x ≤ length s
place_inside s x h =
    let n = length (without_notes s) in
    let r = removes_notes s in
    ⊎_elim
    (λ b. omega (arith, r.rising x n b, r.ends, end_inside s))
    (λ b. let e : x ≡ n = omega arith in rw e (omega (arith, r.ends, end_inside s)))
    (lt_or_le x n)

-- ---- streams without notes
pub without_none : (s : List ℕ) → NoNotes s → without_notes s ≡ s
unfolding without_notes outside
without_none s h = rw (h.none, h.whole) (take-length s)

-- ---- streams that differ in their notes alone
-- what lies behind the first note is in none, or in one of the others
behind_first : (a : ℕ) (l : List ℕ) (x : ℕ) → a + note_length ≤ x → in_text (a ∷ l) x ≡ in_text l x
behind_first a l x h = rw (lt-ltb a x (omega arith), le-ltb x (a + note_length) h)

-- what lies before the notes, or behind them, is in none
text_low : (from : ℕ) (l : List ℕ) (end x : ℕ) → Spaced from l end → x ≤ from → in_text l x ≡ false
unfolding Spaced
text_low from [] end x q h = refl
text_low from (a ∷ l) end x q h =
    rw (le-ltb a x (omega arith)) (text_low (a + note_length) l end x q.1 (omega arith))

text_high : (from : ℕ) (l : List ℕ) (end x : ℕ) → Spaced from l end → end ≤ x → in_text l x ≡ false
unfolding Spaced
text_high from [] end x q h = refl
text_high from (a ∷ l) end x q h =
    let b = spaced_most (a + note_length) l end q.1 in
    behind_first a l x (omega arith) ∙ text_high (a + note_length) l end x q.1 h

slice_same : (s t : List ℕ) (from to : ℕ) → to ≤ length s → to ≤ length t
    → ((x : ℕ) → from ≤ x → x < to → get_or t x 0 ≡ get_or s x 0) → slice from to t ≡ slice from to s
slice_same s t from to h k same =
    let m = length-slice from to s h in
    let n = length-slice from to t k in
    ext_get_or 0 (slice from to t) (slice from to s) (n ∙ sym m)
    (λ i b.
    part_byte from to t i (omega arith)
    ∙ same (from + i) (omega arith) (omega arith)
    ∙ sym (part_byte from to s i (omega arith)))

outside_same : (s t : List ℕ) (end : ℕ) → end ≤ length s → end ≤ length t → (from : ℕ) (l : List ℕ)
    → Spaced from l end → ((x : ℕ) → from ≤ x → in_text l x ≡ false → get_or t x 0 ≡ get_or s x 0)
    → outside from l end t ≡ outside from l end s
unfolding outside Spaced
outside_same s t end h k from [] q same = slice_same s t from end h k (λ x b c. same x b refl)
outside_same s t end h k from (a ∷ l) q same =
    let b = spaced_most (a + note_length) l end q.1 in
    ap₂ ◌++◌
    (slice_same s t from a (omega arith) (omega arith)
    (λ x c d. same x c (text_low x (a ∷ l) end x (omega arith, q.1) (omega arith))))
    (outside_same s t end h k (a + note_length) l q.1
    (λ x c d. same x (omega arith) (behind_first a l x c ∙ d)))

module _ (s t : List ℕ) (other : OtherNotes s t) where
  -- the byte at an offset of the walk is the same, and so is the step from there
  same_step : (at : ℕ) → get_or t at 0 ≡ get_or s at 0 → step_at t at ≡ step_at s at
  unfolding step_at
  same_step at e = rw (e, other.long)

  -- what follows of a walk over the second from an offset of the walk over the first
  record Follows (at : ℕ) (l : List ℕ) (e : ℕ) : Type 0 where
    spaced : Spaced at l e
    same : ((x : ℕ) → at ≤ x → in_text (note_offsets s) x ≡ in_text l x) → (k : List ℕ) (f : ℕ) → Walking t at k f
        → (k ≡ l) × (f ≡ e)

  -- an offset of the walk is in no note
  same_byte : (at : ℕ) (l : List ℕ) (e : ℕ) → Spaced at l e
      → ((x : ℕ) → at ≤ x → in_text (note_offsets s) x ≡ in_text l x) → get_or t at 0 ≡ get_or s at 0
  same_byte at l e q h = other.bytes at (h at (omega arith) ∙ text_low at l e at q (omega arith))

  follows : Follows (walk_start s) (note_offsets s) (walk_end s)
  unfolding Spaced
  follows = walk_induction s Follows ends command note
    where
      ends : (at : ℕ) → at ≤ length s → step_at s at ≡ 0 → Follows at [] at
      ends at b z = record {
        spaced = omega arith;
        same = λ h k f w.
            let d = walking_end t at k f w (same_step at (same_byte at [] at (omega arith) h) ∙ z) in
            (d.none, d.last);
      }

      command : (at : ℕ) (l : List ℕ) (e : ℕ) → 0 < step_at s at → is_note (get_or s at 0) ≡ false
          → Follows (at + step_at s at) l e → Follows at l e
      command at l e q n r =
          let low = spaced_lower at (at + step_at s at) l e (omega arith) r.spaced in
          record {
            spaced = low;
            same = λ h k f w.
                let b = same_byte at l e low h in
                let z = same_step at b in
                r.same (λ x c. h x (omega arith)) k f
                (rw z at (walking_command t at k f w (rw z q) (rw b n)));
          }

      note : (at : ℕ) (l : List ℕ) (e : ℕ) → 0 < step_at s at → is_note (get_or s at 0) ≡ true
          → Follows (at + note_length) l e → Follows at (at ∷ l) e
      note at l e q n r =
          let low : Spaced at (at ∷ l) e = (omega arith, r.spaced) in
          record {
            spaced = low;
            same = λ h k f w.
                let b = same_byte at (at ∷ l) e low h in
                let z = same_step at b in
                let m = walking_note t at k f w (rw z q) (rw b n) in
                let i = r.same (λ x c. h x (omega arith) ∙ behind_first at l x c) m.rest f m.walking in
                (m.first ∙ ap (λ (y : List ℕ). at ∷ y) i.0, i.1);
          }

  -- the walk begins at the same place
  same_start : walk_start t ≡ walk_start s
  unfolding walk_start
  same_start =
      rw (other.bytes 0 (text_low 0 (note_offsets s) (body_end s) 0 (spaced s) (omega arith)), other.long)

  same_walk : (note_offsets t ≡ note_offsets s) × (walk_end t ≡ walk_end s)
  same_walk = follows.same (λ x h. refl) _ _ (rw same_start at (walking_start t))

  pub same_offsets : note_offsets t ≡ note_offsets s
  same_offsets = same_walk.0

  same_end : body_end t ≡ body_end s
  unfolding body_end
  same_end =
      let e = walk_end s in
      rw (same_walk.1, other.bytes e (text_high _ (note_offsets s) e e (found s).spaced (omega arith)), other.long)

  -- so does the stream with notes removed
  pub same_removed : without_notes t ≡ without_notes s
  unfolding without_notes
  same_removed =
      rw (same_offsets, same_end)
      (outside_same s t (body_end s) (end_inside s) (rw other.long (end_inside s)) 0 (note_offsets s) (spaced s)
      (λ x h. other.bytes x))

-- ---- the notes in their order
spaced_at : (from : ℕ) (l : List ℕ) (end : ℕ) → Spaced from l end → (i : ℕ) → i < length l
    → (from ≤ get_or l i 0) × (get_or l i 0 + note_length ≤ end)
unfolding Spaced
spaced_at from [] end q i h = absurd (omega arith)
spaced_at from (a ∷ l) end q zero h = (q.0, spaced_most (a + note_length) l end q.1)
spaced_at from (a ∷ l) end q (suc i) h =
    let k = spaced_at (a + note_length) l end q.1 i (omega arith) in (omega arith, k.1)

spaced_rising : (from : ℕ) (l : List ℕ) (end : ℕ) → Spaced from l end → (i : ℕ) → i + 1 < length l
    → get_or l i 0 + note_length ≤ get_or l (i + 1) 0
unfolding Spaced
spaced_rising from [] end q i h = absurd (omega arith)
spaced_rising from (a ∷ l) end q zero h = (spaced_at (a + note_length) l end q.1 0 (omega arith)).0
spaced_rising from (a ∷ l) end q (suc i) h =
    let e : suc i + 1 ≡ suc (i + 1) = omega arith in
    rw e (spaced_rising (a + note_length) l end q.1 i (omega arith))

-- each has its byte
note_bytes_lem : (s : List ℕ) → All (λ a. is_note (get_or s a 0) ≡ true) (note_offsets s)
unfolding All
note_bytes_lem s =
    walk_induction s (λ at l e. All (λ a. is_note (get_or s a 0) ≡ true) l)
    (λ at h z. tt)
    (λ at l e q t r. r)
    (λ at l e q t r. (t, r))

-- where there is one, the walk began behind the 10
some_headed : (s : List ℕ) → 0 < length (note_offsets s) → 10 ≤ walk_start s
unfolding walk_start
some_headed s h = go (eqb (get_or s 0 0) 0x10 && leb 10 (length s)) refl
  where
    go : (b : Bool) → (eqb (get_or s 0 0) 0x10 && leb 10 (length s)) ≡ b → 10 ≤ cond b 10 (length s)
    go true e = omega arith
    go false e =
        let z : walk_start s ≡ length s = unfold walk_start in rw e in
        let k = spaced_at (walk_start s) (note_offsets s) (body_end s) (notes_spaced s) 0 h in
        absurd (omega (arith, end_inside s))

-- and its 8 bytes
module _ (s : List ℕ) (end : ℕ) (inside : end ≤ length s) where
  text_length : (from a : ℕ) (l : List ℕ) → Spaced from (a ∷ l) end
      → length (slice (a + 1) (a + note_length) s) ≡ note_text
  unfolding Spaced
  text_length from a l q =
      length-slice (a + 1) (a + note_length) s (omega (arith, spaced_most (a + note_length) l end q.1)) ∙ omega arith

  texts_length : (from : ℕ) (l : List ℕ) → Spaced from l end → length (texts_at l s) ≡ note_text * length l
  unfolding texts_at Spaced
  texts_length from [] q = refl
  texts_length from (a ∷ l) q =
      simp length-append (omega (arith, text_length from a l q, texts_length (a + note_length) l q.1))

  texts_at_lem : (from : ℕ) (l : List ℕ) → Spaced from l end → (i k : ℕ) → i < length l → k < note_text
      → get_or (texts_at l s) (note_text * i + k) 0 ≡ get_or s (get_or l i 0 + (1 + k)) 0
  unfolding texts_at Spaced
  texts_at_lem from [] q i k h b = absurd (omega arith)
  texts_at_lem from (a ∷ l) q zero k h b =
      let n = text_length from a l q in
      let e : note_text * 0 + k ≡ k = omega arith in
      let f : a + 1 + k ≡ a + (1 + k) = omega arith in
      rw (e, ← f)
      (get_or-append (slice (a + 1) (a + note_length) s) (texts_at l s) 0 k (omega arith)
      ∙ part_byte (a + 1) (a + note_length) s k (omega arith))
  texts_at_lem from (a ∷ l) q (suc i) k h b =
      let n = text_length from a l q in
      let e : note_text * suc i + k ≡ length (slice (a + 1) (a + note_length) s) + (note_text * i + k) = omega arith in
      rw e
      (get_or-append-add (slice (a + 1) (a + note_length) s) (texts_at l s) (note_text * i + k) 0
      ∙ texts_at_lem (a + note_length) l q.1 i k (omega arith) b)

pub notes_in_order : (s : List ℕ) → NotesInOrder s
unfolding note_texts
notes_in_order s =
    let l = note_offsets s in
    let end = body_end s in
    record {
      behind = λ i h.
          omega (arith, some_headed s (omega arith), (spaced_at (walk_start s) l end (notes_spaced s) i h).0);
      byte = λ i h. all_within (λ a. is_note (get_or s a 0) ≡ true) l i 0 h (note_bytes_lem s);
      whole = λ i h. (spaced_at 0 l end (spaced s) i h).1;
      rising = λ i h. spaced_rising 0 l end (spaced s) i h;
      texts = λ i k h b. texts_at_lem s end (end_inside s) 0 l (spaced s) i k h b;
      count = texts_length s end (end_inside s) 0 l (spaced s);
    }
