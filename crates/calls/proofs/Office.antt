-- The clauses of the office's call, from its equations; and what its code uses of the check.
use mathlib.Core.Path.{◌≡◌, refl, sym, ap, ◌∙◌}
use mathlib.Core.Bool.{Bool, true, false, cond, ◌&&◌}
use mathlib.Core.List.{List, [], ◌∷◌, ◌++◌}
use mathlib.Core.Logic.{◌⊎◌, inl, inr, ⊎_elim}
use mathlib.Core.Option.{Option, none, some}
use Prim.Native.Nat.{ℕ, ◌+◌, ◌*◌, ◌≤◌, ◌<◌}
use native.Mathlib.Omega.{arith}
use lib.Dec.{eqb}
use lib.ListN.{length, take, drop}
use lib.Seq.{drop_at}
use borrow.Author.Tests.{eqb-true, eq-eqb, ne_eqb, lt-ltb, le-ltb}
use Rattle.counting.proofs.Cases.{clash, lt_or_le}
use Rattle.counting.proofs.Listed.{same_or_not}
use Rattle.format.specs.All.{All}
use Rattle.format.specs.Commands as Stream
use Rattle.format.specs.ProblemRules.{Problem}
use Rattle.format.proofs.ProblemLimits.{read_limits}
use Rattle.format.specs.CertificateRules.{Entry, Row, Certificate, read_certificate}
use Rattle.format.proofs.Longest.{enough_bytes, read_beginning}
use Rattle.format.proofs.Places.{refused_within, EntriesWithin, entries_within}
use Rattle.format.specs.Notes.{note_text, note_offsets, body_end, without_notes, place_sent, texts_at, note_texts, NoNotes}
use Rattle.format.proofs.Notes.{Spaced, spaced, place_low, place_inside, removes_notes, without_none, same_offsets, same_removed, notes_in_order}
use Rattle.format.proofs.NotesRead.{Strict, noted, earlier, strict_reading}
use Rattle.format.proofs.CutNotes.{read_whole}
use Rattle.accepting.specs.Judgement.{Judgement, judge, judge_read, judge_outcome, first_outside, row_split, or_else, split_by, split_place, by_blocks, by_identity, difference_key}
use Rattle.accepting.specs.Judgement as J
use Rattle.calls.specs.declared.Refusal.{Refusal}
use Rattle.calls.specs.declared.CheckVerdict.{CheckVerdict}
use Rattle.calls.specs.declared.OfficeVerdict.{OfficeVerdict}
use Rattle.calls.specs.Refusals.{certificate_refusal}
use Rattle.calls.specs.Outcome.{Outcome, refused, given, ◌then◌, told}
use Rattle.calls.specs.Checks.{problem_of}
use Rattle.calls.specs.Check.{refused_check, check_for, check_verdict}
use Rattle.calls.specs.Promises.{Within, HoldsBySide}
use Rattle.calls.specs.Superseding.{is_accepted}
use Rattle.calls.specs.Office.{refusal_sent, verdict_sent, note_count, refused_notes, office_of, office_verdict, buffer_left}
use Rattle.calls.specs.Office.{OfficeNumbered, StrictBeside, SameForOthers, RefusedBefore, CutNote, ThirteenExactly, Untouched}
use Rattle.calls.proofs.Refusing.{Between, certificate_number, problem_by, problem_refuses}
use Rattle.calls.proofs.Endings.{check_by, check_unless, check_judged, check_decided}
use Rattle.calls.proofs.Checking.{check_found, check_clauses}

-- ---- the check of a certificate by its first bytes
pub check_beginning : (short : Bool) (s t : List ℕ) → check_verdict short s (take enough_bytes t) ≡ check_verdict short s t
unfolding check_verdict judge
check_beginning short s t =
    problem_by short s
    (λ o. told refused_check (o then λ p. check_for p (take enough_bytes t)) ≡ told refused_check (o then λ p. check_for p t)) (λ r b. refl) (λ p w.
    ap (λ (o : Stream.Outcome Certificate). check_by p (judge_outcome p o)) (read_beginning p t (read_limits s p w.read)))

-- ---- places: a refusal of the certificate stands within its stream, or at its end
module _ (t : List ℕ) (b : ℕ → ℕ) where
  outside_within : (l : ℕ) (es : List Entry) (x : ℕ) → All (λ (e : Entry). e.place < length t) es
      → first_outside b l es ≡ some x → x < length t
  unfolding first_outside All
  outside_within l [] x h e = clash (cc)
  outside_within l (f ∷ es) x h e = go (eqb (b f.index) l) (outside_within l es x h.1) e
    where
      go : (same : Bool) → (first_outside b l es ≡ some x → x < length t)
          → cond same (first_outside b l es) (some f.place) ≡ some x → x < length t
      go true k e = k e
      go false k e = let z : f.place ≡ x = cc in omega (arith, h.0)

  row_within : (es : List Entry) (x : ℕ) → All (λ (e : Entry). e.place < length t) es → row_split b es ≡ some x
      → x < length t
  unfolding row_split All
  row_within [] x h e = clash (cc)
  row_within (f ∷ es) x h e = outside_within (b f.index) es x h.1 e

split_within : (t : List ℕ) (b : ℕ → ℕ → ℕ) (rs : List Row) (x : ℕ) → EntriesWithin t rs → split_by b rs ≡ some x
    → x < length t
unfolding split_by All
split_within t b [] x h e = clash (cc)
split_within t b (r ∷ rs) x h e =
    go (row_split (b r.basis) r.entries) (row_within t (b r.basis) r.entries x h.0) (split_within t b rs x h.1) e
  where
    go : (o : Option ℕ) → (o ≡ some x → x < length t) → (split_by b rs ≡ some x → x < length t)
        → or_else o (split_by b rs) ≡ some x → x < length t
    go (some y) k m e = k e
    go none k m e = m e

judge_within : (p : Problem) (t : List ℕ) (n place key : ℕ) → judge p t ≡ J.refused n place key → place ≤ length t
unfolding judge
judge_within p t n place key h = go (read_certificate p t) refl h
  where
    by_rows : (c : Certificate) → EntriesWithin t c.rows → (x y : Option ℕ) → split_place p c.rows ≡ x
        → by_blocks x (by_identity c y) ≡ J.refused n place key → place ≤ length t
    by_rows c k (some at) y e h =
        let z : at ≡ place = cc in omega (arith, split_within t _ c.rows at k e)
    by_rows c k none (some key) e h = let z : place ≡ 0 = cc in omega arith
    by_rows c k none none e h = clash (cc)

    go : (o : Stream.Outcome Certificate) → read_certificate p t ≡ o → judge_outcome p o ≡ J.refused n place key → place ≤ length t
    go (Stream.refused m at) e h =
        let z : at ≡ place = cc in
        ⊎_elim (λ k. omega arith) (λ k. omega (arith, k.1)) (refused_within p t m at e)
    go (Stream.given c) e h =
        unfold judge_read in
        by_rows c (entries_within p t c e) (split_place p c.rows) (difference_key p c) refl h

pub check_within : (short : Bool) (s t : List ℕ) → (check_verdict short s t).refusal.stream ≡ 1
    → (check_verdict short s t).refusal.place ≤ length t
unfolding check_verdict
check_within short s t =
    problem_by short s
    (λ o. let v = told refused_check (o then λ p. check_for p t) in v.refusal.stream ≡ 1 → v.refusal.place ≤ length t)
    (λ r b h. absurd (omega (arith, b.stream))) (λ p w. judged p (judge p t) refl)
  where
    judged : (p : Problem) (j : Judgement) → judge p t ≡ j → (check_by p j).refusal.stream ≡ 1
        → (check_by p j).refusal.place ≤ length t
    judged p (J.refused n place key) e h = judge_within p t n place key e
    judged p (J.accepted c) e h = omega arith

-- as sent, too
pub sent_within : (short : Bool) (s t : List ℕ) → (check_verdict short s (without_notes t)).refusal.stream ≡ 1
    → place_sent (note_offsets t) (check_verdict short s (without_notes t)).refusal.place ≤ length t
sent_within short s t h = place_inside t _ (check_within short s (without_notes t) h)

-- ---- verdicts with places as sent
pub sent_number : (t : List ℕ) (r : Refusal) → (refusal_sent t r).number ≡ r.number
unfolding refusal_sent
sent_number t r = go (eqb r.stream 1)
  where
    go : (b : Bool)
        → (cond b (record { number = r.number; stream = r.stream; place = place_sent (note_offsets t) r.place; key = r.key }) r).number
        ≡ r.number
    go true = refl
    go false = refl

-- where no certificate is refused they are the same
pub sent_other : (t : List ℕ) (v : CheckVerdict) → (v.refusal.stream ≡ 1 → ⊥) → verdict_sent t v ≡ v
unfolding verdict_sent refusal_sent
sent_other t v h = rw (ne_eqb v.refusal.stream 1 h)

-- and where the place is the same
sent_same : (t : List ℕ) (v : CheckVerdict) → place_sent (note_offsets t) v.refusal.place ≡ v.refusal.place
    → verdict_sent t v ≡ v
unfolding verdict_sent refusal_sent
sent_same t v h = go (eqb v.refusal.stream 1)
  where
    go : (b : Bool) → ◌≡◌ {A = CheckVerdict} (record {
      refusal = cond b (record { number = v.refusal.number; stream = v.refusal.stream; place = place_sent (note_offsets t) v.refusal.place; key = v.refusal.key }) v.refusal;
      side = v.side;
      bound = v.bound;
      rounds = v.rounds;
      rule = v.rule;
    }) v
    go true = rw h
    go false = refl

-- of a refusal of the certificate
pub sent_first : (t : List ℕ) (v : CheckVerdict) (place : ℕ) → v.refusal.stream ≡ 1
    → place ≡ place_sent (note_offsets t) v.refusal.place
    → ◌≡◌ {A = CheckVerdict} (record {
      refusal =
          record { number = v.refusal.number; stream = v.refusal.stream; place = place; key = v.refusal.key };
      side = v.side;
      bound = v.bound;
      rounds = v.rounds;
      rule = v.rule;
    }) (verdict_sent t v)
unfolding verdict_sent refusal_sent
sent_first t v place h e = rw (eq-eqb v.refusal.stream 1 h, e)

-- ---- how the call ends, by what the check says of the stream with notes removed
module _ (t : List ℕ) (room : ℕ) (w : CheckVerdict) where
  pub office_refused_lem : (w.refusal.number ≡ 0 → ⊥)
      → office_of t room w ≡ record { check = verdict_sent t w; notes = 0 }
  unfolding office_of
  office_refused_lem h = rw (ne_eqb w.refusal.number 0 h)

  pub office_short : w.refusal.number ≡ 0 → room < note_text * note_count t → office_of t room w ≡ refused_notes
  unfolding office_of
  office_short h b = rw (eq-eqb w.refusal.number 0 h, lt-ltb room (note_text * note_count t) b)

  pub office_accepted : w.refusal.number ≡ 0 → note_text * note_count t ≤ room
      → office_of t room w ≡ record { check = verdict_sent t w; notes = note_count t }
  unfolding office_of
  office_accepted h b = rw (eq-eqb w.refusal.number 0 h, le-ltb room (note_text * note_count t) b)

  -- without notes
  pub office_none : note_offsets t ≡ [] → office_of t room w ≡ record { check = w; notes = 0 }
  unfolding office_of place_sent
  office_none e =
      rw (e, le-ltb room 0 (omega arith), sent_same t w (rw e)) (go (is_accepted w))
    where
      go : (b : Bool) → ◌≡◌ {A = OfficeVerdict} (cond (b && false) refused_notes (record { check = w; notes = cond b 0 0 })) (record { check = w; notes = 0 })
      go true = refl
      go false = refl

pub data OfficeTold (t : List ℕ) (room : ℕ) (w : CheckVerdict) (v : OfficeVerdict) : Type 0 where
  refusing : (w.refusal.number ≡ 0 → ⊥) → v ≡ record { check = verdict_sent t w; notes = 0 } → OfficeTold t room w v
  short_of : w.refusal.number ≡ 0 → room < note_text * note_count t → v ≡ refused_notes → OfficeTold t room w v
  accepting : w.refusal.number ≡ 0 → note_text * note_count t ≤ room
      → v ≡ record { check = verdict_sent t w; notes = note_count t } → OfficeTold t room w v

pub office_told : (t : List ℕ) (room : ℕ) (w : CheckVerdict) → OfficeTold t room w (office_of t room w)
office_told t room w = ⊎_elim passed (λ h. refusing h (office_refused_lem t room w h)) (same_or_not w.refusal.number 0)
  where
    passed : w.refusal.number ≡ 0 → OfficeTold t room w (office_of t room w)
    passed h =
        ⊎_elim
        (λ b. short_of h b (office_short t room w h b))
        (λ b. accepting h b (office_accepted t room w h b))
        (lt_or_le room (note_text * note_count t))

module _ (short : Bool) (s t : List ℕ) (room : ℕ) (v : OfficeVerdict) (is : v ≡ office_verdict short s t room) where
  -- what the check says of the stream with notes removed
  abbrev w : CheckVerdict
  w = check_verdict short s (without_notes t)

  pub ended : OfficeTold t room w v
  unfolding office_verdict
  ended = rw is (office_told t room w)

  check_is : (u : OfficeVerdict) → v ≡ u → v.check ≡ u.check
  check_is u e = ap (λ (x : OfficeVerdict). x.check) e

  number_is : (u : OfficeVerdict) → v ≡ u → v.check.refusal.number ≡ u.check.refusal.number
  number_is u e = ap (λ (x : OfficeVerdict). x.check.refusal.number) e

  check_most : w.refusal.number ≤ 9
  check_most = (check_clauses short s (without_notes t) w refl).0

  -- the number is the check's, or 13
  numbered : OfficeNumbered v.check.refusal.number
  unfolding verdict_sent
  numbered = go ended
    where
      go : OfficeTold t room w v → OfficeNumbered v.check.refusal.number
      go (refusing h e) = inl (omega (arith, number_is _ e, sent_number t w.refusal, check_most))
      go (short_of h k e) = inr (number_is _ e)
      go (accepting h k e) = inl (omega (arith, number_is _ e, sent_number t w.refusal, check_most))

  -- ---- where it is accepted, the verdict is the check's
  pub accepted_same : w.refusal.number ≡ 0 → verdict_sent t w ≡ w
  accepted_same h =
      let r = check_found short s (without_notes t) w refl h in
      let e = ap (λ (x : CheckVerdict). x.refusal.stream) r.holds.verdict in
      sent_other t w (λ z. omega arith)

  holds : HoldsBySide s v.check
  holds = go ended
    where
      strict : HoldsBySide s w
      strict = (check_clauses short s (without_notes t) w refl).1.1.1.0

      -- of a refusal nothing is promised but its side
      silent : (c : CheckVerdict) → c.side ≤ 1 → (c.refusal.number ≡ 0 → ⊥) → HoldsBySide s c
      silent c b n = record { sides = b; lower = λ z p read h. absurd (n h); upper = λ z p read h. absurd (n h) }

      go : OfficeTold t room w v → HoldsBySide s v.check
      go (refusing h e) =
          rw (check_is _ e)
          (unfold verdict_sent in silent _ strict.sides (λ z. h (sym (sent_number t w.refusal) ∙ z)))
      go (short_of h k e) = rw (check_is _ e) (silent _ (omega arith) (λ z. omega arith))
      go (accepting h k e) = rw (check_is _ e, accepted_same h) strict

  -- where the check refuses, its refusal is told
  pub refusing_is : (w.refusal.number ≡ 0 → ⊥) → v.check ≡ verdict_sent t w
  refusing_is n = go ended
    where
      go : OfficeTold t room w v → v.check ≡ verdict_sent t w
      go (refusing h e) = check_is _ e
      go (short_of h k e) = absurd (n h)
      go (accepting h k e) = check_is _ e

  -- ---- beside the strict check
  without : NoNotes t → (v.check ≡ check_verdict short s t) × (v.notes ≡ 0)
  unfolding office_verdict
  without q =
      let e = is ∙ office_none t room w q.none in
      (check_is _ e ∙ rw (without_none t q), ap (λ (x : OfficeVerdict). x.notes) e)

  module _ (a : ℕ) (l : List ℕ) (first : note_offsets t ≡ a ∷ l) where
    abbrev Beside : Type 0
    Beside =
        (check_verdict short s t ≡ refused_check (certificate_refusal 1 3 a 0)) ⊎ (check_verdict short s t ≡ v.check)

    -- a place before the first note is the same as sent
    low : (x : ℕ) → x < a → place_sent (note_offsets t) x ≡ x
    unfolding Spaced
    low x h = rw first (place_low a (a ∷ l) (body_end t) x (omega arith, (rw first at (spaced t)).1) h)

    beside : Beside
    unfolding judge
    beside = go (problem_of short s) refl
      where
        judged : (p : Problem) → problem_of short s ≡ given p → Strict p t a l first → Beside
        judged p f (noted e) =
            inl (check_judged short s t f ∙ ap (λ (o : Stream.Outcome Certificate). check_by p (judge_outcome p o)) e)
        judged p f (earlier n place b e g) =
            let j = ap (judge_outcome p) g in
            let k : check_verdict short s t ≡ w =
            check_judged short s t f ∙ ap (check_by p) (ap (judge_outcome p) e ∙ sym j) ∙ sym (check_judged short s (without_notes t) f) in
            let m : w ≡ refused_check (certificate_refusal 1 n place 0) = check_judged short s (without_notes t) f ∙ ap (check_by p) j in
            let least = (certificate_number p (without_notes t) n place g).least in
            let z = refusing_is (λ q. omega (arith, ap (λ (x : CheckVerdict). x.refusal.number) m)) in
            let i = ap (λ (x : CheckVerdict). x.refusal.place) m in
            inr (k ∙ sym (z ∙ sent_same t w (rw i (low place b))))

        go : (o : Outcome Problem) → problem_of short s ≡ o → Beside
        go (refused r) e =
            let b = (problem_refuses short s).by r e in
            let m = check_unless short s (without_notes t) e in
            let z = refusing_is (λ q. omega (arith, ap (λ (x : CheckVerdict). x.refusal.number) m, b.least)) in
            let i = ap (λ (x : CheckVerdict). x.refusal.stream) m in
            inr (check_unless short s t e ∙ sym m ∙ sym (z ∙ sent_other t w (λ q. omega (arith, b.stream))))
        go (given p) e = judged p e (strict_reading p t a l first)

  strict_beside : StrictBeside short s t v
  strict_beside = record { without = without; noted = beside }

  -- ---- streams that differ in their notes alone
  same_for_others : SameForOthers short s t room v
  unfolding office_verdict office_of verdict_sent refusal_sent
  same_for_others u o = rw (same_offsets t u o, same_removed t u o) (sym is)

  -- ---- refusal 13
  thirteen : ThirteenExactly short s t room v.check.refusal
  thirteen = record { only = λ h. only h ended; always = λ h b. always h b ended }
    where
      only : v.check.refusal.number ≡ 13 → OfficeTold t room w v
          → (v.check.refusal ≡ certificate_refusal 1 13 0 0) × ((w.refusal.number ≡ 0) × (room < note_text * note_count t))
      only n (refusing h e) =
          absurd (unfold verdict_sent in (omega (arith, number_is _ e, sent_number t w.refusal, check_most)))
      only n (short_of h k e) = (ap (λ (x : OfficeVerdict). x.check.refusal) e, (h, k))
      only n (accepting h k e) =
          absurd (unfold verdict_sent in (omega (arith, number_is _ e, sent_number t w.refusal, check_most)))

      always : w.refusal.number ≡ 0 → room < note_text * note_count t → OfficeTold t room w v → v.check.refusal.number ≡ 13
      always n b (refusing h e) = absurd (h n)
      always n b (short_of h k e) = number_is _ e
      always n b (accepting h k e) = absurd (omega arith)

  -- ---- a note that is cut
  module _ (p : Problem) (within : Within short s p) where
    -- what the reader refuses is told, with its place as sent
    refused_sent : (n place : ℕ) → read_certificate p (without_notes t) ≡ Stream.refused n place
        → (v.check.refusal ≡ certificate_refusal 1 n (place_sent (note_offsets t) place) 0) × Between n 1 6
    unfolding judge verdict_sent refusal_sent
    refused_sent n place e =
        let m : w ≡ refused_check (certificate_refusal 1 n place 0) =
        check_decided short s (without_notes t) p within ∙ ap (λ (o : Stream.Outcome Certificate). check_by p (judge_outcome p o)) e in
        let b = certificate_number p (without_notes t) n place e in
        let least = b.least in
        let z = refusing_is (λ q. omega (arith, ap (λ (x : CheckVerdict). x.refusal.number) m)) in
        (ap (λ (x : CheckVerdict). x.refusal) (z ∙ ap (verdict_sent t) m), b)

    cut_within : body_end t < length t
        → (v.check.refusal ≡ certificate_refusal 1 2 (body_end t) 0) ⊎ RefusedBefore (body_end t) v.check.refusal
    cut_within cut = go (read_certificate p (without_notes t)) refl
      where
        go : (o : Stream.Outcome Certificate) → read_certificate p (without_notes t) ≡ o
            → (v.check.refusal ≡ certificate_refusal 1 2 (body_end t) 0) ⊎ RefusedBefore (body_end t) v.check.refusal
        go (Stream.refused n place) e =
            let k = refused_sent n place e in
            let r = removes_notes t in
            let b = k.1 in
            ⊎_elim
            (λ h.
            inr (rw k.0 (record {
              stream = refl;
              least = b.least;
              most = b.most;
              before = omega (arith, r.rising place (length (without_notes t)) h, r.ends);
            })))
            (λ h. inl (k.0 ∙ rw (h.0, h.1, r.ends)))
            (refused_within p (without_notes t) n place e)
        go (Stream.given c) e = absurd (omega (arith, read_whole p t c e))

  -- all of them
  pub office_clauses : OfficeNumbered v.check.refusal.number
      × (StrictBeside short s t v
      × (SameForOthers short s t room v
      × (HoldsBySide s v.check
      × (CutNote short s t v.check.refusal × ThirteenExactly short s t room v.check.refusal))))
  office_clauses = (numbered, (strict_beside, (same_for_others, (holds, (cut_within, thirteen)))))

-- ---- the buffer
-- without notes it stays
pub buffer_none : (t buffer : List ℕ) (b : Bool) → note_offsets t ≡ []
    → cond b (note_texts t ++ drop (note_text * note_count t) buffer) buffer ≡ buffer
unfolding note_texts texts_at
buffer_none t buffer true e = rw e
buffer_none t buffer false e = refl

module _ (short : Bool) (s t lent : List ℕ) where
  abbrev verdict : OfficeVerdict
  verdict = office_verdict short s t (length lent)

  -- where it is not refused, all notes are told
  pub notes_told : verdict.check.refusal.number ≡ 0 → verdict.notes ≡ note_count t
  unfolding office_verdict verdict_sent
  notes_told z = go (office_told t (length lent) (check_verdict short s (without_notes t)))
    where
      go : OfficeTold t (length lent) (check_verdict short s (without_notes t)) verdict → verdict.notes ≡ note_count t
      go (refusing h e) =
          let n = ap (λ (x : OfficeVerdict). x.check.refusal.number) e in
          absurd (h (sym (sent_number t (check_verdict short s (without_notes t)).refusal) ∙ sym n ∙ z))
      go (short_of h k e) = absurd (omega (arith, ap (λ (x : OfficeVerdict). x.check.refusal.number) e))
      go (accepting h k e) = ap (λ (x : OfficeVerdict). x.notes) e

  pub untouched : Untouched verdict lent (buffer_left short s t lent)
  unfolding buffer_left
  untouched = go (is_accepted verdict.check) refl
    where
      go : (b : Bool) → is_accepted verdict.check ≡ b
          → Untouched verdict lent (cond b (note_texts t ++ drop (note_text * note_count t) lent) lent)
      go true e =
          let z = eqb-true verdict.check.refusal.number 0 e in
          record {
            refused = λ h. absurd (omega arith);
            past = rw (notes_told z) (drop_at (note_texts t) _ _ (notes_in_order t).count);
          }
      go false e = record { refused = λ h. refl; past = refl }
