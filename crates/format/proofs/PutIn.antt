-- Notes put in are the notes that the office finds, and without them the stream is as it was.
use mathlib.Core.Path.{◌≡◌, refl, sym, ap, ◌∙◌}
use mathlib.Core.Bool.{Bool, true, false, cond, ◌&&◌, ◌||◌}
use mathlib.Core.List.{List, [], ◌∷◌, ◌++◌, append-nil, append_assoc}
use Prim.Native.Nat.{ℕ, zero, suc, ◌+◌, ◌-◌, ◌≤◌, ◌<◌}
use native.Mathlib.Omega.{arith}
use lib.Dec.{eqb, leb, ltb}
use lib.ListN.{length, get_or, take, drop, length-append, get_or-append}
use lib.Seq.{slice, take-length, drop-append-le, drop-append-add, drop_at, take_at, take-append_seam, get_or-append-add, drop-length}
use borrow.Author.Tests.{ne_eqb, le-leb, le-ltb, eqb-true}
use Rattle.counting.proofs.Cases.{clash}
use Rattle.format.specs.All.{All}
use Rattle.format.specs.declared.certificate.Command.TheVariants as C
use Rattle.format.specs.CertificateLayout.{certificate_command, certificate_size}
use Rattle.format.specs.Notes.{note_length, is_note, office_size, walk_start, step_at, notes_from, end_from, note_offsets, walk_end, body_end, outside, without_notes, place_sent, texts_at, note_texts}
use Rattle.format.specs.Cut.{command_of, Whole}
use Rattle.format.specs.RowOrder.{HeaderCommand}
use Rattle.format.specs.PutIn.{Piece, command, note, IsPiece, whole, eight, note_bytes, sent, plain, texts, note_number, note_places, PutIn, FindsNotes}
use Rattle.format.proofs.Lengths.{certificate_byte}
use Rattle.format.proofs.Walk.{Walking, walking_start, walking_end, walking_command, walking_note}
use Rattle.format.proofs.Notes.{Spaced, spaced_lower, place_low}

-- ---- the byte at the end of a front part
front_byte : (front r back t : List ℕ) → t ≡ front ++ (r ++ back) → 0 < length r → get_or t (length front) 0 ≡ get_or r 0 0
front_byte front r back t e h =
    let z : length front + 0 ≡ length front = omega arith in
    ap (λ (x : List ℕ). get_or x (length front) 0) e
    ∙ rw z at (get_or-append-add front (r ++ back) 0 0)
    ∙ get_or-append r back 0 0 h

long : (front r back t : List ℕ) → t ≡ front ++ (r ++ back) → length t ≡ length front + (length r + length back)
long front r back t e = rw (e, length-append front, length-append r)

-- a note's byte is that of no command
note_unknown : (b : ℕ) → is_note b ≡ true → certificate_size (certificate_command b) ≡ 0
unfolding certificate_command
note_unknown b e = rw (eqb-true b _ e)

-- 40 and its 8 bytes are passed over
note_size : office_size 0x40 ≡ 9
unfolding certificate_command
note_size = refl

-- ---- one step of the walk
module _ (front back t : List ℕ) where
  -- a command that is not the end
  module _ (r : List ℕ) (e : t ≡ front ++ (r ++ back)) (w : Whole r) (goes : get_or r 0 0 ≡ 0x13 → ⊥) where
    byte : get_or t (length front) 0 ≡ get_or r 0 0
    byte = front_byte front r back t e w.some

    not_note : is_note (get_or r 0 0) ≡ false
    not_note = go (is_note (get_or r 0 0)) refl
      where
        go : (b : Bool) → is_note (get_or r 0 0) ≡ b → b ≡ false
        go true x = absurd (omega (arith, w.some, w.long, note_unknown (get_or r 0 0) x))
        go false x = refl

    command_step : step_at t (length front) ≡ length r
    unfolding step_at
    command_step =
        rw (byte, not_note, ← w.long, ne_eqb (get_or r 0 0) 0x13 goes, le-ltb (length t) (length front + length r) (omega (arith, long front r back t e)))

  -- a note
  module _ (text : List ℕ) (e : t ≡ front ++ (note_bytes text ++ back)) (n : length text ≡ 8) where
    note_byte : get_or t (length front) 0 ≡ 0x40
    note_byte = front_byte front (note_bytes text) back t e (omega arith)

    note_step : step_at t (length front) ≡ 9
    unfolding step_at
    note_step =
        rw (note_byte, note_size, le-ltb (length t) (length front + 9) (omega (arith, long front (note_bytes text) back t e)))

  -- the end command
  module _ (e : t ≡ front ++ ((0x13 ∷ []) ++ back)) where
    end_byte : get_or t (length front) 0 ≡ 0x13
    end_byte = front_byte front (0x13 ∷ []) back t e (omega arith)

    end_step : step_at t (length front) ≡ 0
    unfolding step_at
    end_step = rw end_byte

-- a piece more in the front part
shift : (front r more back t : List ℕ) → t ≡ front ++ (r ++ more ++ back) → t ≡ front ++ r ++ (more ++ back)
shift front r more back t e = e ∙ rw (append_assoc r more back) (sym (append_assoc front r (more ++ back)))

is_whole : {r : List ℕ} → IsPiece (command r) → Whole r
is_whole (whole w goes) = w

is_before : {r : List ℕ} → IsPiece (command r) → get_or r 0 0 ≡ 0x13 → ⊥
is_before (whole w goes) = goes

is_eight : {text : List ℕ} → IsPiece (note text) → length text ≡ 8
is_eight (eight n) = n

module _ (rest t : List ℕ) where
  abbrev tail : List ℕ
  tail = 0x13 ∷ rest

  -- ---- the walk finds the notes that were put in, and ends at 13
  found : (front : List ℕ) (ps : List Piece) → All IsPiece ps → t ≡ front ++ (sent ps ++ tail) → (l : List ℕ) (m : ℕ)
      → Walking t (length front) l m → (l ≡ note_places (length front) ps) × (m ≡ length front + length (sent ps))
  unfolding All sent note_places
  found front [] w e l m k =
      let z = walking_end t (length front) l m k (end_step front rest t e) in (z.none, z.last ∙ omega arith)
  found front (command r ∷ ps) w e l m k =
      let a = is_whole w.0 in
      let b = e ∙ ap (λ (x : List ℕ). front ++ x) (append_assoc r (sent ps) tail) in
      let step = command_step front (sent ps ++ tail) t r b a (is_before w.0) in
      let first = byte front (sent ps ++ tail) t r b a (is_before w.0) in
      let n = length-append front r in
      let q = walking_command t (length front) l m k (omega (arith, a.some)) (rw first (not_note front (sent ps ++ tail) t r b a (is_before w.0))) in
      let i = found (front ++ r) ps w.1 (shift front r (sent ps) tail t e) l m (rw (n, ← step) q) in
      (i.0 ∙ rw n, i.1 ∙ rw (length-append front r, length-append r (sent ps)) (omega arith))
  found front (note text ∷ ps) w e l m k =
      let a = is_eight w.0 in
      let b = e ∙ ap (λ (x : List ℕ). front ++ x) (append_assoc (note_bytes text) (sent ps) tail) in
      let step = note_step front (sent ps ++ tail) t text b a in
      let first = note_byte front (sent ps ++ tail) t text b a in
      let n = length-append front (note_bytes text) in
      let q = walking_note t (length front) l m k (omega arith) (rw first) in
      let z : length front + note_length ≡ length (front ++ note_bytes text) = omega arith in
      let i = found (front ++ note_bytes text) ps w.1 (shift front (note_bytes text) (sent ps) tail t e) q.rest m (rw (← z) q.walking) in (
        q.first ∙ ap (λ (x : List ℕ). length front ∷ x) (i.0 ∙ rw n),
        i.1 ∙ rw (length-append front (note_bytes text), length-append (note_bytes text) (sent ps)) (omega arith),
      )

  -- ---- without them the commands are left
  outside_notes : (from : ℕ) (front : List ℕ) (ps : List Piece) → from ≤ length front → All IsPiece ps
      → t ≡ front ++ (sent ps ++ tail)
      → outside from (note_places (length front) ps) (length t) t ≡ drop from front ++ (plain ps ++ tail)
  unfolding All sent plain note_places outside
  outside_notes from front [] h w e =
      ap (drop from) (take-length t) ∙ ap (drop from) e ∙ drop-append-le from front tail h
  outside_notes from front (command r ∷ ps) h w e =
      let n = length-append front r in
      rw (← n)
      (outside_notes from (front ++ r) ps (omega arith) w.1 (shift front r (sent ps) tail t e)
      ∙ rw (drop-append-le from front r h, append_assoc (drop from front) r (plain ps ++ tail), append_assoc r (plain ps) tail))
  outside_notes from front (note text ∷ ps) h w e =
      let a = is_eight w.0 in
      let n = length-append front (note_bytes text) in
      let z : length front + length (note_bytes text) ≡ length front + note_length = omega arith in
      let y : length front + note_length ≡ length (front ++ note_bytes text) = omega arith in
      let part : slice from (length front) t ≡ drop from front = ap (drop from) (ap (take (length front)) e ∙ take-append_seam front (sent (note text ∷ ps) ++ tail)) in
      rw (part, z, y)
      (ap (λ (x : List ℕ). drop from front ++ x)
      (outside_notes (length (front ++ note_bytes text)) (front ++ note_bytes text) ps (omega arith) w.1 (shift front (note_bytes text) (sent ps) tail t e)
      ∙ rw (drop-length (front ++ note_bytes text))))

  -- ---- their texts
  texts_put : (front : List ℕ) (ps : List Piece) → All IsPiece ps → t ≡ front ++ (sent ps ++ tail)
      → texts_at (note_places (length front) ps) t ≡ texts ps
  unfolding All sent note_places texts_at texts
  texts_put front [] w e = refl
  texts_put front (command r ∷ ps) w e =
      rw (← (length-append front r)) (texts_put (front ++ r) ps w.1 (shift front r (sent ps) tail t e))
  texts_put front (note text ∷ ps) w e =
      let a = is_eight w.0 in
      let n = length-append front (note_bytes text) in
      let z : length front + length (note_bytes text) ≡ length front + note_length = omega arith in
      let y : length front + note_length ≡ length (front ++ note_bytes text) = omega arith in
      let f = shift front (note_bytes text) (sent ps) tail t e in
      let part : slice (length front + 1) (length (front ++ note_bytes text)) t ≡ text =
      ap (drop (length front + 1)) (ap (take (length (front ++ note_bytes text))) f ∙ take-append_seam (front ++ note_bytes text) (sent ps ++ tail))
      ∙ drop-append-add front (note_bytes text) 1 in
      rw (z, y, part) (ap (λ (x : List ℕ). text ++ x) (texts_put (front ++ note_bytes text) ps w.1 f))

places_number : (at : ℕ) (ps : List Piece) → length (note_places at ps) ≡ note_number ps
unfolding note_places
places_number at [] = refl
places_number at (command r ∷ ps) = places_number (at + length r) ps
places_number at (note text ∷ ps) = rw (places_number (at + length (note_bytes text)) ps) (omega arith)

-- ---- places as sent
-- the places of notes follow one another
places_spaced : (at : ℕ) (ps : List Piece) → All IsPiece ps → Spaced at (note_places at ps) (at + length (sent ps))
unfolding All sent note_places Spaced
places_spaced at [] w = omega arith
places_spaced at (command r ∷ ps) w =
    let z : at + length r + length (sent ps) ≡ at + (length r + length (sent ps)) = omega arith in
    rw (length-append r (sent ps), ← z)
    (spaced_lower at (at + length r) (note_places (at + length r) ps) _ (omega arith) (places_spaced (at + length r) ps w.1))
places_spaced at (note text ∷ ps) w =
    let n = is_eight w.0 in
    let y : at + length (note_bytes text) ≡ at + note_length = omega arith in
    let z : at + note_length + length (sent ps) ≡ at + (length (note_bytes text) + length (sent ps)) = omega arith in
    rw (length-append (note_bytes text) (sent ps), ← z, y)
    (omega arith, places_spaced (at + note_length) ps w.1)

-- what stands behind a note stands so much further
place_further : (a x : ℕ) (l : List ℕ) → a ≤ x → place_sent (a ∷ l) x ≡ place_sent l (x + note_length)
unfolding place_sent
place_further a x l h = ap (λ (b : Bool). place_sent l (cond b (x + note_length) x)) (le-leb a x h)

-- what stands behind some pieces, and is no note there
place_behind : (at : ℕ) (before after : List Piece) → All IsPiece (before ++ after)
    → ((b : ℕ) → place_sent (note_places b after) b ≡ b)
    → place_sent (note_places at (before ++ after)) (at + length (plain before)) ≡ at + length (sent before)
unfolding All sent plain note_places place_sent
place_behind at [] after w h = let z : at + 0 ≡ at = omega arith in rw z (h at)
place_behind at (command r ∷ before) after w h =
    let z : at + length r + length (plain before) ≡ at + (length r + length (plain before)) = omega arith in
    let y : at + length r + length (sent before) ≡ at + (length r + length (sent before)) = omega arith in
    rw (length-append r (plain before), length-append r (sent before), ← z, ← y) (place_behind (at + length r) before after w.1 h)
place_behind at (note text ∷ before) after w h =
    let n = is_eight w.0 in
    let l = note_places (at + length (note_bytes text)) (before ++ after) in
    let x : at + length (note_bytes text) ≡ at + note_length = omega arith in
    let z : at + length (plain before) + note_length ≡ at + note_length + length (plain before) = omega arith in
    let y : at + note_length + length (sent before) ≡ at + (length (note_bytes text) + length (sent before)) = omega arith in
    place_further at (at + length (plain before)) l (omega arith)
    ∙ rw (length-append (note_bytes text) (sent before), z, ← y, x) (place_behind (at + note_length) before after w.1 h)

all_behind : (before after : List Piece) → All IsPiece (before ++ after) → All IsPiece after
unfolding All
all_behind [] after w = w
all_behind (q ∷ before) after w = all_behind before after w.1

-- a command stands before the notes behind it
command_first : (r : List ℕ) (after : List Piece) → All IsPiece (command r ∷ after) → (b : ℕ)
    → place_sent (note_places b (command r ∷ after)) b ≡ b
unfolding All note_places
command_first r after w b =
    let k = is_whole w.0 in
    let s = k.some in
    place_low (b + length r) (note_places (b + length r) after) _ b (places_spaced (b + length r) after w.1) (omega arith)

-- ---- request 10: the notes that were put in are found
module _ {u t : List ℕ} (p : PutIn u t) where
  abbrev behind : List ℕ
  behind = sent p.pieces ++ (0x13 ∷ p.rest)

  ten : length p.header ≡ 10
  ten = let h = p.headed in h.whole.long ∙ rw h.header

  -- it begins with 10, and the walk behind that
  begins : get_or t 0 0 ≡ 0x10
  begins =
      let h = p.headed in
      front_byte [] p.header behind t p.noted h.whole.some
      ∙ eqb-true _ _ (certificate_byte C.Header (get_or p.header 0 0) h.header (λ z. clash (cc)))

  start : walk_start t ≡ length p.header
  unfolding walk_start
  start =
      let n = length-append p.header behind in
      let m = ap length p.noted in
      rw (begins, le-leb 10 (length t) (omega (arith, ten, n, m)), ten)

  walked : (note_offsets t ≡ note_places (length p.header) p.pieces)
      × (walk_end t ≡ length p.header + length (sent p.pieces))
  walked =
      found p.rest t p.header p.pieces p.each p.noted (note_offsets t) (walk_end t) (rw start at (walking_start t))

  -- it ends at 13, so no note is cut
  at_end : get_or t (walk_end t) 0 ≡ 0x13
  at_end =
      let e = sym (length-append p.header (sent p.pieces)) in
      rw (walked.1, e)
      (end_byte (p.header ++ sent p.pieces) p.rest t
      (p.noted ∙ sym (append_assoc p.header (sent p.pieces) (0x13 ∷ p.rest))))

  uncut : body_end t ≡ length t
  unfolding body_end
  uncut = rw at_end

  removed : without_notes t ≡ u
  unfolding without_notes
  removed =
      rw (walked.0, uncut) (outside_notes p.rest t 0 p.header p.pieces (omega arith) p.each p.noted)
      ∙ sym p.without

  told : note_texts t ≡ texts p.pieces
  unfolding note_texts
  told = rw walked.0 (texts_put p.rest t p.header p.pieces p.each p.noted)

  command_place : (before after : List Piece) (r : List ℕ) → p.pieces ≡ before ++ (command r ∷ after)
      → place_sent (note_offsets t) (length p.header + length (plain before))
      ≡ length p.header + length (sent before)
  command_place before after r e =
      let w = rw e at p.each in
      rw (walked.0, e)
      (place_behind (length p.header) before (command r ∷ after) w
      (command_first r after (all_behind before (command r ∷ after) w)))

  end_place : place_sent (note_offsets t) (length p.header + length (plain p.pieces))
      ≡ length p.header + length (sent p.pieces)
  unfolding note_places place_sent
  end_place =
      let n = append-nil p.pieces in
      rw walked.0 (rw n at (place_behind (length p.header) p.pieces [] (rw n p.each) (λ b. refl)))

  pub put_in : FindsNotes p
  put_in = record {
    removed = removed;
    places = walked.0;
    number = ap length walked.0 ∙ places_number (length p.header) p.pieces;
    told = told;
    uncut = uncut;
    commands = command_place;
    end = end_place;
  }
