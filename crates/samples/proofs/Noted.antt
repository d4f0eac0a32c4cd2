-- Certificates with notes, started from their byte streams: each row's outcome is what the definitions compute.
use mathlib.Core.Path.{◌≡◌, refl}
use mathlib.Core.List.{[], ◌∷◌, ◌++◌}
use mathlib.Core.Bool.{true, false}
use Prim.Native.Nat.{ℕ}
use lib.IntN.{pos}
use lib.ListN.{take, replicate}
use Rattle.format.specs.CertificateLayout.{certificate_command}
use Rattle.format.specs.Notes.{walk_start, step_at, notes_from, end_from, note_offsets, walk_end, body_end, outside, without_notes, place_sent, texts_at, note_texts}
use Rattle.calls.specs.Check.{check_verdict}
use Rattle.calls.specs.Office.{refusal_sent, verdict_sent, office_of, office_verdict, buffer_left}
use Rattle.calls.specs.declared.OfficeVerdict.{OfficeVerdict}
use Rattle.samples.proofs.Computing.{checking}
use Rattle.samples.specs.Streams.{problem_a, certificate_a}
use Rattle.samples.specs.Noted.{note, header_a, noted_a, again_a}
use Rattle.samples.specs.Verdicts.{over, check_accepted, check_refused, office_refused}

-- what the walk over notes computes through
walking : Unit {0}
unfolding walk_start step_at notes_from end_from note_offsets walk_end body_end outside without_notes place_sent certificate_command
walking = tt

-- ---- the walk: the notes stand at 10, 27 and 40, and without them the certificate is A's. What stands behind them
-- is so much further: the row at 10, the second entry at 18, and 13 at 22
pub walked :
    note_offsets noted_a
    ∷ without_notes noted_a
    ∷ note_texts noted_a
    ∷ (place_sent (note_offsets noted_a) 0
    ∷ place_sent (note_offsets noted_a) 10
    ∷ place_sent (note_offsets noted_a) 18
    ∷ place_sent (note_offsets noted_a) 22
    ∷ [])
    ∷ []
    ≡ (10 ∷ 27 ∷ 40 ∷ [])
    ∷ certificate_a
    ∷ (replicate 8 1 ++ replicate 8 19 ++ replicate 8 64)
    ∷ (0 ∷ 19 ∷ 36 ∷ 49 ∷ [])
    ∷ []
unfolding walking texts_at note_texts
walked = refl

-- ---- verdicts
abbrev told : ℕ → OfficeVerdict
told notes = record { check = check_accepted 0 (over (pos 2) 1) 2 1; notes = notes }

-- no notes; three, and a buffer for them; one byte less: 13; a note before 10: 3; one that is cut: 2 at its start; no
-- end behind a note: 2 at the length as sent; an index again behind a note: 5 where it stands, and before 13; an
-- empty problem; a table that is too short
pub notes :
    office_verdict false problem_a certificate_a 0
    ∷ office_verdict false problem_a noted_a 24
    ∷ office_verdict false problem_a noted_a 23
    ∷ office_verdict false problem_a (note 1 ++ certificate_a) 8
    ∷ office_verdict false problem_a (take 18 noted_a) 8
    ∷ office_verdict false problem_a (header_a ++ note 19) 8
    ∷ office_verdict false problem_a again_a 8
    ∷ office_verdict false problem_a again_a 7
    ∷ office_verdict false [] noted_a 24
    ∷ office_verdict true problem_a noted_a 24
    ∷ []
    ≡ told 0
    ∷ told 3
    ∷ office_refused 13 1 0
    ∷ office_refused 3 1 0
    ∷ office_refused 2 1 10
    ∷ office_refused 2 1 19
    ∷ office_refused 5 1 27
    ∷ office_refused 5 1 27
    ∷ office_refused 2 0 0
    ∷ office_refused 1 0 0
    ∷ []
unfolding checking walking refusal_sent verdict_sent office_of office_verdict
notes = refl

-- the strict check refuses the first note with 3
pub strict : check_verdict false problem_a noted_a ≡ check_refused 3 1 10 0
unfolding checking
strict = refl

-- the buffer: the texts of the notes, in order, and the byte past them as it was; untouched by a refusal, of 13 too
pub buffers :
    buffer_left false problem_a noted_a (replicate 25 7)
    ∷ buffer_left false problem_a noted_a (replicate 23 7)
    ∷ buffer_left false problem_a again_a (replicate 9 7)
    ∷ []
    ≡ (replicate 8 1 ++ replicate 8 19 ++ replicate 8 64 ++ (7 ∷ [])) ∷ replicate 23 7 ∷ replicate 9 7 ∷ []
unfolding checking walking texts_at note_texts refusal_sent verdict_sent office_of office_verdict buffer_left
buffers = refl
