-- What the office is told, by the check's verdict with its place as sent, and the clauses of the call.
use mathlib.Core.Path.{◌≡◌, refl, sym, ap, ◌∙◌}
use mathlib.Core.Bool.{Bool}
use mathlib.Core.List.{List, [], ◌∷◌, ◌++◌}
use Prim.Native.Nat.{ℕ, ◌*◌, ◌≤◌, ◌<◌}
use native.Mathlib.Omega.{arith}
use lib.ListN.{length, take, drop}
use borrow.Author.Tests.{eq-eqb, ne_eqb}
use Rattle.format.specs.Notes.{note_text, note_offsets, body_end, outside, without_notes, note_texts}
use Rattle.format.proofs.Notes.{end_inside, removes_notes}
use Rattle.calls.specs.declared.CheckVerdict.{CheckVerdict}
use Rattle.calls.specs.declared.OfficeVerdict.{OfficeVerdict}
use Rattle.calls.specs.Check.{check_verdict}
use Rattle.calls.specs.Promises.{HoldsBySide, CheckDiffers, SevenExactly, RoundsTaken, FewRounds, RuleUsed}
use Rattle.calls.specs.Zeros.{OfficeZeros}
use Rattle.calls.specs.Rules.{UnderOne, AtLarger}
use Rattle.calls.specs.Superseding.{is_accepted}
use Rattle.calls.specs.Office.{verdict_sent, note_count, refused_notes, office_of, office_verdict, buffer_left}
use Rattle.calls.specs.Office.{OfficeNumbered, StrictBeside, SameForOthers, CutNote, ThirteenExactly, Untouched}
use Rattle.calls.specs.Office.{NotesPassed, PlacesSent, NotesCopied, OfficeExactly, OfficeSplits, OfficeKept}
use Rattle.calls.specs.RowOrder.{OfficeAnyOrder}
use Rattle.calls.proofs.OfficeClauses.{office_further}
use Rattle.calls.proofs.Office.{sent_within, sent_number, office_refused_lem, office_short, office_accepted, office_none, office_clauses, buffer_none, untouched}
use Rattle.office_check.specs.Steps.{Sendable, buffer_told}

-- the notes have fewer bytes than the stream
pub texts_short : (t : List ℕ) → note_text * note_count t ≤ length t
texts_short t = let r = removes_notes t in omega (arith, r.count, end_inside t)

module _ (t : List ℕ) (v check : CheckVerdict) (is : check ≡ verdict_sent t v) where
  number_is : check.refusal.number ≡ v.refusal.number
  unfolding verdict_sent
  number_is = ap (λ (x : CheckVerdict). x.refusal.number) is ∙ sent_number t v.refusal

  module _ (room : ℕ) where
    pub told_refused : 0 < check.refusal.number
        → ◌≡◌ {A = OfficeVerdict} (record { check = check; notes = 0 }) (office_of t room v)
    told_refused h = sym (office_refused_lem t room v (λ z. omega (arith, number_is)) ∙ rw (← is))

    pub told_short : check.refusal.number ≤ 0 → room < note_text * note_count t → refused_notes ≡ office_of t room v
    told_short h b = sym (office_short t room v (omega (arith, number_is)) b)

    pub told_accepted : (notes : ℕ) → notes ≡ note_count t → check.refusal.number ≤ 0 → note_text * note_count t ≤ room
        → ◌≡◌ {A = OfficeVerdict} (record { check = check; notes = notes }) (office_of t room v)
    told_accepted notes e h b = sym (office_accepted t room v (omega (arith, number_is)) b ∙ rw (← is, ← e))

-- ---- the buffer
pub buffer_refused : (t : List ℕ) (check : CheckVerdict) (buffer : List ℕ) → 0 < check.refusal.number
    → buffer ≡ buffer_told t check buffer
buffer_refused t check buffer h = rw (ne_eqb check.refusal.number 0 (λ z. omega arith))

pub buffer_short : (t : List ℕ) (r : OfficeVerdict) (buffer : List ℕ) → r ≡ refused_notes
    → buffer ≡ buffer_told t r.check buffer
buffer_short t r buffer e = rw e

pub buffer_accepted : (t : List ℕ) (check : CheckVerdict) (buffer left : List ℕ) → check.refusal.number ≤ 0
    → left ≡ note_texts t ++ drop (note_text * note_count t) buffer → left ≡ buffer_told t check buffer
buffer_accepted t check buffer left h e = rw (eq-eqb check.refusal.number 0 (omega arith)) e

-- ---- the whole call
none_empty : (l : List ℕ) → length l ≡ 0 → l ≡ []
none_empty [] e = refl
none_empty (x ∷ l) e = absurd (omega arith)

module _ (short : Bool) (s t buffer : List ℕ) where
  abbrev verdict : OfficeVerdict
  verdict = office_verdict short s t (length buffer)

  -- without notes the stream itself is checked, up to a note that is cut
  pub without_notes_lem : (end : ℕ) (v : CheckVerdict) → note_count t ≡ 0 → end ≡ body_end t
      → v ≡ check_verdict short s (take end t) → ◌≡◌ {A = OfficeVerdict} (record { check = v; notes = 0 }) verdict
  unfolding office_verdict without_notes outside
  without_notes_lem end v n e h =
      let none = none_empty (note_offsets t) n in
      let w : check_verdict short s (without_notes t) ≡ v = rw (none, ← e) (sym h) in
      sym (ap (office_of t (length buffer)) w ∙ office_none t (length buffer) v none)

  pub buffer_left_lem : note_count t ≡ 0 → buffer ≡ buffer_left short s t buffer
  unfolding buffer_left
  buffer_left_lem n = sym (buffer_none t buffer (is_accepted verdict.check) (none_empty (note_offsets t) n))

  -- with them, by what is told
  module _ (v : CheckVerdict) (is : v ≡ check_verdict short s (without_notes t)) where
    pub sendable : Sendable t v
    sendable = record { within = λ h. rw is (sent_within short s t (rw is at h)) }

    pub with_notes : (r : OfficeVerdict) → r ≡ office_of t (length buffer) v → r ≡ verdict
    unfolding office_verdict
    with_notes r e = e ∙ ap (office_of t (length buffer)) is

    pub buffer_with : (r : OfficeVerdict) (left : List ℕ) → r ≡ verdict → left ≡ buffer_told t r.check buffer
        → left ≡ buffer_left short s t buffer
    unfolding buffer_left
    buffer_with r left e h = h ∙ rw e

  -- the clauses from the equations
  pub clauses : (r : OfficeVerdict) (left : List ℕ) → r ≡ verdict → left ≡ buffer_left short s t buffer
      → Untouched r buffer left
      × (OfficeNumbered r.check.refusal.number
      × (StrictBeside short s t r
      × (SameForOthers short s t (length buffer) r
      × (HoldsBySide s r.check
      × (CutNote short s t r.check.refusal
      × (ThirteenExactly short s t (length buffer) r.check.refusal
      × (NotesPassed short s t buffer r left
      × (PlacesSent short s t r.check.refusal
      × (NotesCopied t r left
      × (OfficeExactly short s t (length buffer) r
      × (OfficeSplits short s t r.check.refusal
      × (CheckDiffers short s (without_notes t) r.check.refusal
      × (SevenExactly short s r.check.refusal
      × (RoundsTaken s r.check.refusal.number r.check.rounds
      × (FewRounds s r.check.refusal.number r.check.rounds
      × (RuleUsed s r.check.refusal.number r.check.rule
      × (OfficeZeros r
      × (OfficeKept UnderOne short s t (length buffer) r
      × (OfficeKept AtLarger short s t (length buffer) r × OfficeAnyOrder short s t (length buffer) r)))))))))))))))))))
  clauses r left e h =
      let c = office_clauses short s t (length buffer) r e in
      let f = office_further short s t buffer r left e h in (
        rw (e, h) (untouched short s t buffer),
        (c.0, (c.1.0, (c.1.1.0, (c.1.1.1.0, (c.1.1.1.1.0, (c.1.1.1.1.1, f)))))),
      )
