-- Request 10 of document 02, "Notes that only the office sees": what the office's call returns and leaves, for all
-- inputs; then what it promises.
use Rattle.std.specs.Prelude.{◌≡◌, Bool, cond, ◌&&◌, List, ◌∷◌, ◌++◌, ◌⊎◌, ℕ, ◌+◌, ◌*◌, ◌≤◌, ◌<◌, eqb, ltb, length, get_or, drop}
use Rattle.format.specs.Commands.{given}
use Rattle.format.specs.ProblemRules.{Problem}
use Rattle.format.specs.CertificateRules.{Certificate, read_certificate}
use Rattle.format.specs.Notes.{note_text, note_offsets, body_end, without_notes, place_sent, note_texts, NoNotes, OtherNotes}
use Rattle.format.specs.PutIn.{texts, note_number, PutIn, FindsNotes}
use Rattle.accepting.specs.Identity.{KeepsBlocks, Identity}
use Rattle.calls.specs.Refusals.{certificate_refusal}
use Rattle.calls.specs.Check.{refused_check, check_verdict}
use Rattle.calls.specs.Superseding.{is_accepted}
use Rattle.calls.specs.Promises.{Reads, Within, SplitsAt, CheckStated}
use Rattle.calls.specs.Rules.{Kept, SameBound}
use Rattle.calls.specs.declared.Refusal.{Refusal}
use Rattle.calls.specs.declared.CheckVerdict.{CheckVerdict}
use Rattle.calls.specs.declared.OfficeVerdict.{OfficeVerdict}

-- ---- "its verdict is the strict one on the stream with notes removed, except that places count the bytes as sent".
-- Those of the certificate, stream 1, are counted so; the problem has no notes
unfoldable pub refusal_sent : List ℕ → Refusal → Refusal
refusal_sent t r =
    cond (eqb r.stream 1)
    (record {
      number = r.number;
      stream = r.stream;
      place = place_sent (note_offsets t) r.place;
      key = r.key;
    })
    r

unfoldable pub verdict_sent : List ℕ → CheckVerdict → CheckVerdict
verdict_sent t v = record {
  refusal = refusal_sent t v.refusal;
  side = v.side;
  bound = v.bound;
  rounds = v.rounds;
  rule = v.rule;
}

-- "returns their number"
abbrev pub note_count : List ℕ → ℕ
note_count t = length (note_offsets t)

-- "13 when the buffer can't hold all notes": a buffer of so many bytes
abbrev pub cannot_hold : ℕ → List ℕ → Bool
cannot_hold room t = ltb room (note_text * note_count t)

-- "stream 1 and place 0"
abbrev pub refused_notes : OfficeVerdict
refused_notes = record { check = refused_check (certificate_refusal 1 13 0 0); notes = 0 }

-- 13 comes "after every refusal of the strict check"; v is what that says of the stream with notes removed
unfoldable pub office_of : List ℕ → ℕ → CheckVerdict → OfficeVerdict
office_of t room v =
    cond (is_accepted v && cannot_hold room t) refused_notes
    (record { check = verdict_sent t v; notes = cond (is_accepted v) (note_count t) 0 })

-- short is true where a work table is too short; s is the problem stream, t the certificate as sent, and room the
-- length of the buffer
unfoldable pub office_verdict : Bool → List ℕ → List ℕ → ℕ → OfficeVerdict
office_verdict short s t room = office_of t room (check_verdict short s (without_notes t))

-- "copies them in order to a lent buffer"; "A refusal leaves the buffer untouched; bytes past the notes are untouched
-- always"
unfoldable pub buffer_left : Bool → List ℕ → List ℕ → List ℕ → List ℕ
buffer_left short s t buffer =
    cond (is_accepted (office_verdict short s t (length buffer)).check)
    (note_texts t ++ drop (note_text * note_count t) buffer) buffer

-- ---- what the call promises; v is what it returns, lent is the buffer as it was lent, and left at exit
-- "A second reader .. passes over notes, copies them in order to a lent buffer and returns their number; its verdict is
-- the strict one on the stream with notes removed, except that places count the bytes as sent". Said from the sender's
-- side: the certificate is any stream u with notes put in between any of its commands
pub record StrictWithNotes (short : Bool) (s : List ℕ) {u t : List ℕ} (p : PutIn u t) (lent : List ℕ) (v : OfficeVerdict)
    (left : List ℕ) : Type 0 where
  pub finds : FindsNotes p
  pub refused : 0 < (check_verdict short s u).refusal.number
      → (v.check ≡ verdict_sent t (check_verdict short s u)) × ((v.notes ≡ 0) × (left ≡ lent))
  pub accepted : (check_verdict short s u).refusal.number ≡ 0 → note_text * note_number p.pieces ≤ length lent
      → (v.check ≡ check_verdict short s u)
      × ((v.notes ≡ note_number p.pieces)
      × (left ≡ texts p.pieces ++ drop (note_text * note_number p.pieces) lent))
  pub thirteen : (check_verdict short s u).refusal.number ≡ 0 → length lent < note_text * note_number p.pieces
      → (v ≡ refused_notes) × (left ≡ lent)

abbrev pub NotesPassed : Bool → List ℕ → List ℕ → List ℕ → OfficeVerdict → List ℕ → Type 0
NotesPassed short s t lent v left = (u : List ℕ) (p : PutIn u t) → StrictWithNotes short s p lent v left

-- "places count the bytes as sent": of a refusal g of the stream with notes removed, the place that is told is that of
-- the same byte, or where the commands end
pub record PlaceAsSent (t : List ℕ) (g f : Refusal) : Type 0 where
  pub number : f.number ≡ g.number
  pub stream : f.stream ≡ g.stream
  pub key : f.key ≡ g.key
  pub other : (g.stream ≡ 1 → ⊥) → f.place ≡ g.place
  pub byte : g.stream ≡ 1 → g.place < length (without_notes t) → get_or t f.place 0 ≡ get_or (without_notes t) g.place 0
  pub end : g.stream ≡ 1 → g.place ≡ length (without_notes t) → f.place ≡ body_end t

abbrev pub PlacesSent : Bool → List ℕ → List ℕ → Refusal → Type 0
PlacesSent short s t f =
    let g = (check_verdict short s (without_notes t)).refusal in
    0 < g.number → PlaceAsSent t g f

-- "copies them in order to a lent buffer and returns their number": note i stands in the buffer from byte 8i on
pub record NotesCopied (t : List ℕ) (v : OfficeVerdict) (left : List ℕ) : Type 0 where
  pub number : v.check.refusal.number ≡ 0 → v.notes ≡ note_count t
  pub bytes : v.check.refusal.number ≡ 0 → (i k : ℕ) → i < v.notes → k < note_text
      → get_or left (note_text * i + k) 0 ≡ get_or t (get_or (note_offsets t) i 0 + (1 + k)) 0

-- it accepts only what the check accepts of the stream with notes removed, and that always where the buffer holds them
pub record OfficeExactly (short : Bool) (s t : List ℕ) (room : ℕ) (v : OfficeVerdict) : Type 0 where
  pub only : v.check.refusal.number ≡ 0 → CheckStated s (without_notes t) v.check
  pub always : (p : Problem) (c : Certificate) → Within short s p → read_certificate p (without_notes t) ≡ given c
      → KeepsBlocks p c.rows → Identity p c → note_text * note_count t ≤ room → v.check.refusal.number ≡ 0

-- refusal 8 is given exactly where a row does not keep to its block, and its place is that of the entry as sent
pub record SplitsSent (p : Problem) (t : List ℕ) (place : ℕ) : Type 0 where
  pub before : ℕ
  pub splits : SplitsAt p (without_notes t) before
  pub sent : place ≡ place_sent (note_offsets t) before

pub record OfficeSplits (short : Bool) (s t : List ℕ) (f : Refusal) : Type 0 where
  pub only : f.number ≡ 8 → (f.stream ≡ 1) × Reads s (λ p. SplitsSent p t f.place)
  pub always : (p : Problem) (c : Certificate) → Within short s p → read_certificate p (without_notes t) ≡ given c
      → (KeepsBlocks p c.rows → ⊥) → f.number ≡ 8

-- under rule 1, or at a larger order (Rules.antt has the relations R): with the same side, bound and number of notes
abbrev pub SameOffice : OfficeVerdict → OfficeVerdict → Type 0
SameOffice w v = SameBound w.check v.check × (w.notes ≡ v.notes)

abbrev pub OfficeKept : (List ℕ → List ℕ → Type 0) → Bool → List ℕ → List ℕ → ℕ → OfficeVerdict → Type 0
OfficeKept R short s t room v =
    Kept (λ w. w.check.refusal) SameOffice (λ u. office_verdict short u t room) R s v

-- the refusals of the check, 1 to 9, or 13
abbrev pub OfficeNumbered : ℕ → Type 0
OfficeNumbered number = (number ≤ 9) ⊎ (number ≡ 13)

-- on a stream without notes the verdict is the check's, and no note is told. "The strict check refuses it as before,
-- with 3": of a stream whose first note stands at a it refuses that note, or what the office refuses too, before it
pub record StrictBeside (short : Bool) (s t : List ℕ) (v : OfficeVerdict) : Type 0 where
  pub without : NoNotes t → (v.check ≡ check_verdict short s t) × (v.notes ≡ 0)
  pub noted : (a : ℕ) (l : List ℕ) → note_offsets t ≡ a ∷ l
      → (check_verdict short s t ≡ refused_check (certificate_refusal 1 3 a 0)) ⊎ (check_verdict short s t ≡ v.check)

-- "Different notes at the same positions give the same verdict"
abbrev pub SameForOthers : Bool → List ℕ → List ℕ → ℕ → OfficeVerdict → Type 0
SameForOthers short s t room v = (u : List ℕ) → OtherNotes t u → office_verdict short s u room ≡ v

-- a refusal of a command of the certificate that stands before an offset
pub record RefusedBefore (e : ℕ) (f : Refusal) : Type 0 where
  pub stream : f.stream ≡ 1
  pub least : 1 ≤ f.number
  pub most : f.number ≤ 6
  pub before : f.place < e

-- "A note cut short is refusal 2 at its start", for a problem within its limits and full-length work tables, unless a
-- command before it is refused
abbrev pub CutNote : Bool → List ℕ → List ℕ → Refusal → Type 0
CutNote short s t f =
    (p : Problem) → Within short s p → body_end t < length t
    → (f ≡ certificate_refusal 1 2 (body_end t) 0) ⊎ RefusedBefore (body_end t) f

-- refusal 13 is given exactly where the stream with notes removed is accepted and the buffer can't hold all notes
pub record ThirteenExactly (short : Bool) (s t : List ℕ) (room : ℕ) (f : Refusal) : Type 0 where
  pub only : f.number ≡ 13
      → (f ≡ certificate_refusal 1 13 0 0)
      × (((check_verdict short s (without_notes t)).refusal.number ≡ 0) × (room < note_text * note_count t))
  pub always : (check_verdict short s (without_notes t)).refusal.number ≡ 0 → room < note_text * note_count t
      → f.number ≡ 13

-- "A refusal leaves the buffer untouched; bytes past the notes are untouched always"
pub record Untouched (v : OfficeVerdict) (lent left : List ℕ) : Type 0 where
  pub refused : 0 < v.check.refusal.number → left ≡ lent
  pub past : drop (note_text * v.notes) left ≡ drop (note_text * v.notes) lent
