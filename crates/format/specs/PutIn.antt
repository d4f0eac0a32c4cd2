-- Request 10 of document 02 from the sender's side: notes put in between the commands of a certificate stream,
-- "anywhere between commands after command 10 and before command 13". The byte 40 and the 8 bytes of a note stand here
-- as document 02 has them, and not by the layout that the office's reader goes by.
use Rattle.std.specs.Prelude.{◌≡◌, List, [], ◌∷◌, ◌++◌, ℕ, ◌+◌, length, get_or}
use Rattle.format.specs.All.{All}
use Rattle.format.specs.Notes.{note_offsets, body_end, without_notes, place_sent, note_texts}
use Rattle.format.specs.Cut.{Whole}
use Rattle.format.specs.RowOrder.{HeaderCommand}

-- what stands between 10 and 13: commands, and notes by their texts
pub data Piece : Type 0 where
  command : List ℕ → Piece
  note : List ℕ → Piece

-- a whole command before 13, or "8 bytes of note"
pub data IsPiece : Piece → Type 0 where
  whole : {r : List ℕ} → Whole r → (get_or r 0 0 ≡ 0x13 → ⊥) → IsPiece (command r)
  eight : {text : List ℕ} → length text ≡ 8 → IsPiece (note text)

-- "Certificate command 40 carries 8 bytes of note"
abbrev pub note_bytes : List ℕ → List ℕ
note_bytes text = 0x40 ∷ text

-- ---- of some pieces: the bytes as sent, the bytes of the commands alone, and the texts of the notes in their order
unfoldable pub sent : List Piece → List ℕ
sent [] = []
sent (command r ∷ ps) = r ++ sent ps
sent (note text ∷ ps) = note_bytes text ++ sent ps

unfoldable pub plain : List Piece → List ℕ
plain [] = []
plain (command r ∷ ps) = r ++ plain ps
plain (note text ∷ ps) = plain ps

unfoldable pub texts : List Piece → List ℕ
texts [] = []
texts (command r ∷ ps) = texts ps
texts (note text ∷ ps) = text ++ texts ps

abbrev pub note_number : List Piece → ℕ
note_number [] = 0
note_number (command r ∷ ps) = note_number ps
note_number (note text ∷ ps) = 1 + note_number ps

-- where the notes stand, if the pieces begin at an offset
unfoldable pub note_places : ℕ → List Piece → List ℕ
note_places at [] = []
note_places at (command r ∷ ps) = note_places (at + length r) ps
note_places at (note text ∷ ps) = at ∷ note_places (at + length (note_bytes text)) ps

-- ---- t is the certificate stream u with notes put in. Behind 13 anything may stand; nothing does in a stream that reads
pub record PutIn (u t : List ℕ) : Type 0 where
  pub header : List ℕ
  pub pieces : List Piece
  pub rest : List ℕ
  pub headed : HeaderCommand header
  pub each : All IsPiece pieces
  pub without : u ≡ header ++ (plain pieces ++ (0x13 ∷ rest))
  pub noted : t ≡ header ++ (sent pieces ++ (0x13 ∷ rest))

-- ---- what the office then finds: the stream as it was, the notes where they were put in, and their texts in their
-- order; "places count the bytes as sent": a command, and 13, is told where it was sent
pub record FindsNotes {u t : List ℕ} (p : PutIn u t) : Type 0 where
  pub removed : without_notes t ≡ u
  pub places : note_offsets t ≡ note_places (length p.header) p.pieces
  pub number : length (note_offsets t) ≡ note_number p.pieces
  pub told : note_texts t ≡ texts p.pieces
  pub uncut : body_end t ≡ length t
  pub commands : (before after : List Piece) (r : List ℕ) → p.pieces ≡ before ++ (command r ∷ after)
      → place_sent (note_offsets t) (length p.header + length (plain before)) ≡ length p.header + length (sent before)
  pub end : place_sent (note_offsets t) (length p.header + length (plain p.pieces))
      ≡ length p.header + length (sent p.pieces)
