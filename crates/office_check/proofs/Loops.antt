-- What the loops over the notes of a stream keep: with the notes from the one at hand on, what they have done so far
-- comes to what is asked. Each has its start, its turn at a note and its end.
use mathlib.Core.Path.{◌≡◌, refl, sym, ap, ap₂, ◌∙◌}
use mathlib.Core.Bool.{true, false}
use mathlib.Core.List.{List, [], ◌∷◌, ◌++◌, append_assoc, append-nil}
use Prim.Native.Nat.{ℕ, zero, suc, ◌+◌, ◌-◌, ◌*◌, ◌≤◌, ◌<◌}
use native.Mathlib.Omega.{arith}
use lib.ListN.{length, take, drop, take-append-drop}
use lib.Seq.{slice, length-slice, take_all, drop-drop}
use borrow.Author.Tests.{le-leb}
use Rattle.format.specs.Notes.{note_text, note_length, note_offsets, walk_end, body_end, outside, without_notes, place_sent, texts_at, note_texts}
use Rattle.format.proofs.Walk.{Walking, NoteMet}
use Rattle.format.proofs.Notes.{Spaced, walking_found, place_least, place_low}
use Rattle.calls.specs.Office.{note_count}
use Rattle.office_check.specs.Steps.{note_here, Reached, Filled}
use Rattle.office_check.proofs.Walks.{here_inside}

-- ---- at an offset, with these notes from there on
pub record On (s : List ℕ) (at : ℕ) (rest : List ℕ) : Type 0 where
  pub inside : at ≤ length s
  pub reached : Reached s rest (walk_end s) at

-- the walk from behind a note has come to r
pub record Next (s : List ℕ) (at r : ℕ) : Type 0 where
  pub further : at + note_length ≤ r
  pub inside : r ≤ length s
  pub reached : (l : List ℕ) (e : ℕ) → Walking s (at + note_length) l e → Reached s l e r

module _ (s : List ℕ) (at : ℕ) (rest : List ℕ) (on : On s at rest) where
  met : note_here s at ≡ true → NoteMet s at rest (walk_end s)
  met h = on.reached.note h

  none_left : note_here s at ≡ false → rest ≡ []
  none_left h = (on.reached.none h).none

  pub at_walk_end : note_here s at ≡ false → at ≡ walk_end s
  at_walk_end h = sym (on.reached.none h).last

  on_next : (h : note_here s at ≡ true) (r : ℕ) → Next s at r → On s r (met h).rest
  on_next h r n = record { inside = n.inside; reached = n.reached _ _ (met h).walking }

-- ---- counting
pub record Counting (s : List ℕ) (notes at : ℕ) : Type 0 where
  pub rest : List ℕ
  pub on : On s at rest
  pub few : notes ≤ at
  pub count : notes + length rest ≡ note_count s

pub counting_start : (s : List ℕ) (at : ℕ) → On s at (note_offsets s) → Counting s 0 at
counting_start s at on = record { rest = note_offsets s; on = on; few = omega arith; count = omega arith }

module _ (s : List ℕ) (notes at : ℕ) (k : Counting s notes at) where
  pub counting_next : note_here s at ≡ true → (r : ℕ) → Next s at r → Counting s (notes + 1) r
  counting_next h r n =
      let m = met s at k.rest k.on h in
      record {
        rest = m.rest;
        on = on_next s at k.rest k.on h r n;
        few = omega (arith, k.few, n.further);
        count = omega (arith, k.count, ap length m.first);
      }

  pub counting_end : note_here s at ≡ false → notes ≡ note_count s
  counting_end h = omega (arith, k.count, ap length (none_left s at k.rest k.on h))

-- ---- removing: what the copy has, and as much of the rest as it still holds
take_append : (n : ℕ) (x y : List ℕ) → take n (x ++ y) ≡ take n x ++ take (n - length x) y
take_append zero x y = let e : 0 - length x ≡ 0 = omega arith in rw e
take_append (suc n) [] y = let e : suc n - 0 ≡ suc n = omega arith in rw e
take_append (suc n) (a ∷ x) y =
    let e : suc n - suc (length x) ≡ n - length x = omega arith in
    rw e (ap (λ (l : List ℕ). a ∷ l) (take_append n x y))

filled_more : (before after x y : List ℕ) (len r : ℕ) → Filled before len x after r
    → take r after ++ take (length before - r) y ≡ take len before ++ take (length before - len) (x ++ y)
filled_more before after x y len r f =
    rw (f.bytes, f.room, take_append (length before - len) x y)
    (append_assoc (take len before) (take (length before - len) x) (take (length before - len - length x) y))

pub record Removing (s lent copy : List ℕ) (from len at : ℕ) : Type 0 where
  pub rest : List ℕ
  pub on : On s at rest
  pub order : from ≤ at
  pub long : length copy ≡ length lent
  pub within : len ≤ length lent
  pub bytes : take len copy ++ take (length lent - len) (outside from rest (body_end s) s)
      ≡ take (length lent) (without_notes s)

pub removing_start : (s lent : List ℕ) (at : ℕ) → On s at (note_offsets s) → Removing s lent lent 0 0 at
unfolding without_notes
removing_start s lent at on =
    let e : length lent - 0 ≡ length lent = omega arith in
    record {
      rest = note_offsets s;
      on = on;
      order = omega arith;
      long = refl;
      within = omega arith;
      bytes = rw e;
    }

module _ (s lent copy : List ℕ) (from len at : ℕ) (k : Removing s lent copy from len at) where
  pub removing_next : note_here s at ≡ true → (after : List ℕ) (more : ℕ) → Filled copy len (slice from at s) after more
      → (r : ℕ) → Next s at r → Removing s lent after (at + note_length) more r
  unfolding outside
  removing_next h after more f r n =
      let m = met s at k.rest k.on h in
      record {
        rest = m.rest;
        on = on_next s at k.rest k.on h r n;
        order = n.further;
        long = f.long ∙ k.long;
        within = omega (arith, f.within, k.long);
        bytes =
            rw (← k.long)
            (filled_more copy after (slice from at s) (outside (at + note_length) m.rest (body_end s) s) len more f
            ∙ rw (m.first, ← k.long) at k.bytes);
      }

  pub removing_end : note_here s at ≡ false → (after : List ℕ) (r : ℕ) → Filled copy len (slice from (body_end s) s) after r
      → (take r after ≡ take (length lent) (without_notes s)) × (r ≤ length lent)
  unfolding outside
  removing_end h after r f =
      let b = rw (none_left s at k.rest k.on h) at k.bytes in
      (f.bytes ∙ rw k.long b, omega (arith, f.within, k.long))

-- ---- a place as sent
place_behind : (a : ℕ) (l : List ℕ) (x : ℕ) → a ≤ x → place_sent (a ∷ l) x ≡ place_sent l (x + note_length)
unfolding place_sent
place_behind a l x h = rw (le-leb a x h)

pub record Sending (s : List ℕ) (place x at : ℕ) : Type 0 where
  pub rest : List ℕ
  pub on : On s at rest
  pub same : place_sent rest x ≡ place_sent (note_offsets s) place

pub sending_start : (s : List ℕ) (place at : ℕ) → On s at (note_offsets s) → Sending s place place at
sending_start s place at on = record { rest = note_offsets s; on = on; same = refl }

module _ (s : List ℕ) (place x at : ℕ) (k : Sending s place x at) where
  -- before the note at hand
  pub sending_before : note_here s at ≡ true → x < at → x ≡ place_sent (note_offsets s) place
  unfolding Spaced
  sending_before h b =
      let m = met s at k.rest k.on h in
      let q = (walking_found s (at + note_length) m.rest (walk_end s) (here_inside s at h) m.walking).spaced in
      sym (rw m.first (place_low at (at ∷ m.rest) (walk_end s) x (omega arith, q) b)) ∙ k.same

  module _ (h : note_here s at ≡ true) (b : at ≤ x) where
    behind : place_sent (met s at k.rest k.on h).rest (x + note_length) ≡ place_sent (note_offsets s) place
    behind =
        let m = met s at k.rest k.on h in
        sym (place_behind at m.rest x b) ∙ rw m.first at k.same

    pub sending_next : (r : ℕ) → Next s at r → Sending s place (x + note_length) r
    sending_next r n = record {
      rest = (met s at k.rest k.on h).rest;
      on = on_next s at k.rest k.on h r n;
      same = behind;
    }

    -- it is no more than the place that it comes to
    pub sending_least : x + note_length ≤ place_sent (note_offsets s) place
    sending_least =
        omega (arith, place_least (met s at k.rest k.on h).rest (x + note_length), behind)

  pub sending_end : note_here s at ≡ false → x ≡ place_sent (note_offsets s) place
  unfolding place_sent
  sending_end h = rw (none_left s at k.rest k.on h) at k.same

-- ---- putting the notes into a buffer that holds them
pub record Putting (s lent buffer : List ℕ) (len at : ℕ) : Type 0 where
  pub rest : List ℕ
  pub on : On s at rest
  pub long : length buffer ≡ length lent
  pub count : len + note_text * length rest ≡ note_text * note_count s
  pub bytes : take len buffer ++ texts_at rest s ≡ note_texts s
  pub past : drop len buffer ≡ drop len lent

pub putting_start : (s lent : List ℕ) (at : ℕ) → On s at (note_offsets s) → Putting s lent lent 0 at
unfolding note_texts
putting_start s lent at on = record {
  rest = note_offsets s;
  on = on;
  long = refl;
  count = omega arith;
  bytes = refl;
  past = refl;
}

module _ (s lent buffer : List ℕ) (len at : ℕ) (k : Putting s lent buffer len at)
    (holds : note_text * note_count s ≤ length lent) where
  -- there is room for the note at hand
  pub putting_room : note_here s at ≡ true → len + note_text ≤ length buffer
  putting_room h =
      let m = met s at k.rest k.on h in omega (arith, k.count, k.long, ap length m.first)

  pub putting_next : note_here s at ≡ true → (after : List ℕ) (more : ℕ)
      → Filled buffer len (slice (at + 1) (at + note_length) s) after more → (r : ℕ) → Next s at r
      → Putting s lent after more r
  unfolding texts_at
  putting_next h after more f r n =
      let m = met s at k.rest k.on h in
      let text = slice (at + 1) (at + note_length) s in
      let i = here_inside s at h in
      let e : length text ≡ note_text = length-slice (at + 1) (at + note_length) s i ∙ omega arith in
      let room = putting_room h in
      let z : more ≡ len + note_text = omega (arith, f.room, f.within) in
      let whole : take (length buffer - len) text ≡ text = take_all (length buffer - len) text (omega arith) in
      record {
        rest = m.rest;
        on = on_next s at k.rest k.on h r n;
        long = f.long ∙ k.long;
        count = omega (arith, k.count, ap length m.first);
        bytes =
            rw (f.bytes, whole, append_assoc (take len buffer) text (texts_at m.rest s)) (rw m.first at k.bytes);
        past =
            f.past
            ∙ rw z
            (sym (drop-drop note_text len buffer) ∙ ap (drop note_text) k.past ∙ drop-drop note_text len lent);
      }

  pub putting_end : note_here s at ≡ false → buffer ≡ note_texts s ++ drop (note_text * note_count s) lent
  unfolding texts_at
  putting_end h =
      let none = none_left s at k.rest k.on h in
      let z : note_text * note_count s ≡ len = omega (arith, k.count, ap length none) in
      let b : take len buffer ≡ note_texts s = sym (append-nil (take len buffer)) ∙ rw none at k.bytes in
      rw z (sym (take-append-drop len buffer) ∙ ap₂ ◌++◌ b k.past)
