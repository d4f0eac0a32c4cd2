-- What the functions behind the office's call find and leave.
use Rattle.std.specs.Prelude.{◌≡◌, Bool, true, false, cond, ◌&&◌, List, ◌++◌, ℕ, ◌+◌, ◌-◌, ◌*◌, ◌≤◌, leb, length, get_or, take, drop}
use Rattle.format.specs.Notes.{note_text, note_length, is_note, note_offsets, place_sent, note_texts}
use Rattle.format.proofs.Walk.{NoteMet, WalkEnded}
use Rattle.calls.specs.declared.CheckVerdict.{CheckVerdict}
use Rattle.calls.specs.Superseding.{is_accepted}
use Rattle.calls.specs.Office.{note_count}

-- whether a whole note stands at an offset
abbrev pub note_here : List ℕ → ℕ → Bool
note_here s at = leb (at + note_length) (length s) && is_note (get_or s at 0)

-- the walk, with notes l ahead and its end at e, has come to r: to the first of the notes, or, if there are none, to
-- its end
pub record Reached (s l : List ℕ) (e r : ℕ) : Type 0 where
  pub note : note_here s r ≡ true → NoteMet s r l e
  pub none : note_here s r ≡ false → WalkEnded r l e

-- a part put behind the first `len` elements of a list, as far as that has room; it then has r of them
pub record Filled (before : List ℕ) (len : ℕ) (part after : List ℕ) (r : ℕ) : Type 0 where
  pub long : length after ≡ length before
  pub within : r ≤ length before
  pub room : length before - r ≡ length before - len - length part
  pub bytes : take r after ≡ take len before ++ take (length before - len) part
  pub past : drop r after ≡ drop r before

-- the place of a verdict on the stream with notes removed is one of the stream as sent
pub record Sendable (t : List ℕ) (v : CheckVerdict) : Type 0 where
  pub within : v.refusal.stream ≡ 1 → place_sent (note_offsets t) v.refusal.place ≤ length t

-- the buffer, by the verdict that is told
abbrev pub buffer_told : List ℕ → CheckVerdict → List ℕ → List ℕ
buffer_told t v buffer = cond (is_accepted v) (note_texts t ++ drop (note_text * note_count t) buffer) buffer
