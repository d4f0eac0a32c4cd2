-- Request 10 of document 02, "Notes that only the office sees": which bytes of a certificate stream are notes, the
-- stream with notes removed, and where its bytes stand in the stream as sent.
use Rattle.std.specs.Prelude.{◌≡◌, Bool, true, false, cond, ◌&&◌, ◌||◌, List, [], ◌∷◌, ◌++◌, ℕ, zero, suc, ◌+◌, ◌*◌, ◌≤◌, ◌<◌, eqb, leb, ltb, length, get_or}
use Rattle.std.proofs.Math.Seq.{slice}
use Rattle.format.specs.Layouts.{Layout, line, length_of, has_byte}
use Rattle.format.specs.declared.certificate.Command.TheVariants as C
use Rattle.format.specs.CertificateLayout.{certificate_layout, certificate_command, certificate_size}

-- "Certificate command 40 carries 8 bytes of note"
abbrev pub note_text : ℕ
note_text = 8

abbrev pub note_layout : Layout
note_layout = line 0x40 (note_text ∷ [])

-- a note with its command's byte
abbrev pub note_length : ℕ
note_length = length_of note_layout

abbrev pub is_note : ℕ → Bool
is_note b = has_byte note_layout b

-- ---- the walk over the commands: "allowed anywhere between commands after command 10 and before command 13; elsewhere
-- it is no note"
-- the length of the note or of the command that a byte begins; 0 where it is neither
abbrev pub office_size : ℕ → ℕ
office_size b = cond (is_note b) note_length (certificate_size (certificate_command b))

-- where the walk begins: "after command 10". A stream that does not begin with a whole 10 has no notes
unfoldable pub walk_start : List ℕ → ℕ
walk_start s =
    cond (has_byte (certificate_layout C.Header) (get_or s 0 0) && leb (certificate_size C.Header) (length s))
    (certificate_size C.Header) (length s)

-- how far it goes at an offset: the length of the note or of the command there. It ends, which is 0, "before command
-- 13", at a command that is unknown, at one that is cut, and at the end of the stream
unfoldable pub step_at : List ℕ → ℕ → ℕ
step_at s at =
    let n = office_size (get_or s at 0) in
    cond (has_byte (certificate_layout C.End) (get_or s at 0) || ltb (length s) (at + n)) 0 n

-- the offsets of the notes from an offset of the walk on. A step has at least one byte, so the number of steps left is
-- never used up
abbrev pub noted_at : List ℕ → ℕ → List ℕ → List ℕ
noted_at s at rest = cond (is_note (get_or s at 0)) (at ∷ rest) rest

unfoldable pub notes_from : ℕ → List ℕ → ℕ → List ℕ
notes_from zero s at = []
notes_from (suc left) s at = cond (eqb (step_at s at) 0) [] (noted_at s at (notes_from left s (at + step_at s at)))

-- and where the walk ends
unfoldable pub end_from : ℕ → List ℕ → ℕ → ℕ
end_from zero s at = at
end_from (suc left) s at = cond (eqb (step_at s at) 0) at (end_from left s (at + step_at s at))

-- the offsets of all notes, in their order
unfoldable pub note_offsets : List ℕ → List ℕ
note_offsets s = notes_from (length s) s (walk_start s)

unfoldable pub walk_end : List ℕ → ℕ
walk_end s = end_from (length s) s (walk_start s)

-- where the commands end: at the stream's end, or at the start of a note that is cut, where the walk then ends: "A note
-- cut short is refusal 2 at its start". So it ranks as a missing end does
unfoldable pub body_end : List ℕ → ℕ
body_end s = cond (is_note (get_or s (walk_end s) 0)) (walk_end s) (length s)

-- ---- "the stream with notes removed": the bytes from an offset to the end, but for the notes at the offsets between
unfoldable pub outside : ℕ → List ℕ → ℕ → List ℕ → List ℕ
outside from [] end s = slice from end s
outside from (a ∷ l) end s = slice from a s ++ outside (a + note_length) l end s

unfoldable pub without_notes : List ℕ → List ℕ
without_notes s = outside 0 (note_offsets s) (body_end s) s

-- ---- "places count the bytes as sent": of a place in that stream, with each note from the first on. What stands
-- behind a note stands so much further
unfoldable pub place_sent : List ℕ → ℕ → ℕ
place_sent [] x = x
place_sent (a ∷ l) x = place_sent l (cond (leb a x) (x + note_length) x)

-- ---- the 8 bytes of each note, "in order"
unfoldable pub texts_at : List ℕ → List ℕ → List ℕ
texts_at [] s = []
texts_at (a ∷ l) s = slice (a + 1) (a + note_length) s ++ texts_at l s

unfoldable pub note_texts : List ℕ → List ℕ
note_texts s = texts_at (note_offsets s) s

-- ---- what this means
-- every byte of the stream with notes removed stands in the stream as sent at its place there, these places rise,
-- behind the last one the commands end, and nothing but the notes is left out
pub record RemovesNotes (s : List ℕ) : Type 0 where
  pub bytes : (x : ℕ) → x < length (without_notes s)
      → get_or (without_notes s) x 0 ≡ get_or s (place_sent (note_offsets s) x) 0
  pub rising : (x y : ℕ) → x < y → place_sent (note_offsets s) x < place_sent (note_offsets s) y
  pub ends : place_sent (note_offsets s) (length (without_notes s)) ≡ body_end s
  pub count : length (without_notes s) + note_length * length (note_offsets s) ≡ body_end s

-- the notes are 40s behind the 10, whole, one behind another, and their texts stand in their order, 8 bytes each
pub record NotesInOrder (s : List ℕ) : Type 0 where
  pub behind : (i : ℕ) → i < length (note_offsets s) → certificate_size C.Header ≤ get_or (note_offsets s) i 0
  pub byte : (i : ℕ) → i < length (note_offsets s) → is_note (get_or s (get_or (note_offsets s) i 0) 0) ≡ true
  pub whole : (i : ℕ) → i < length (note_offsets s) → get_or (note_offsets s) i 0 + note_length ≤ body_end s
  pub rising : (i : ℕ) → i + 1 < length (note_offsets s)
      → get_or (note_offsets s) i 0 + note_length ≤ get_or (note_offsets s) (i + 1) 0
  pub texts : (i k : ℕ) → i < length (note_offsets s) → k < note_text
      → get_or (note_texts s) (note_text * i + k) 0 ≡ get_or s (get_or (note_offsets s) i 0 + (1 + k)) 0
  pub count : length (note_texts s) ≡ note_text * length (note_offsets s)

-- a stream without notes: none is found, and none is cut
pub record NoNotes (s : List ℕ) : Type 0 where
  pub none : note_offsets s ≡ []
  pub whole : body_end s ≡ length s

-- whether an offset is that of one of the 8 bytes of a note
abbrev pub in_text : List ℕ → ℕ → Bool
in_text [] x = false
in_text (a ∷ l) x = (ltb a x && ltb x (a + note_length)) || in_text l x

-- "Different notes at the same positions": two streams of one length, with the same bytes but for the 8 of each note
pub record OtherNotes (s t : List ℕ) : Type 0 where
  pub long : length t ≡ length s
  pub bytes : (x : ℕ) → in_text (note_offsets s) x ≡ false → get_or t x 0 ≡ get_or s x 0
