-- Further clauses of the office's call, from its equations: what the check promises of the stream with notes removed, and
-- what the sender of notes is promised.
use mathlib.Core.Path.{◌≡◌, refl, sym, ap, ◌∙◌}
use mathlib.Core.Bool.{Bool, true, false, cond, ◌&&◌}
use mathlib.Core.List.{List, [], ◌∷◌, ◌++◌}
use mathlib.Core.Logic.{◌⊎◌, inl, inr, ⊎_elim}
use Prim.Native.Nat.{ℕ, ◌+◌, ◌*◌, ◌≤◌, ◌<◌}
use native.Mathlib.Omega.{arith}
use lib.Dec.{eqb}
use lib.ListN.{length, get_or, drop, get_or-append}
use borrow.Author.Tests.{eq-eqb, ne_eqb}
use Rattle.counting.proofs.Listed.{same_or_not}
use Rattle.ordered_rings.specs.Rings.{OrderedRing}
use Rattle.format.specs.Commands.{given}
use Rattle.format.specs.ProblemRules.{Problem, read_problem}
use Rattle.format.specs.CertificateRules.{Certificate}
use Rattle.format.specs.Notes.{note_text, note_offsets, body_end, without_notes, place_sent, note_texts}
use Rattle.format.specs.PutIn.{texts, note_number, PutIn, FindsNotes}
use Rattle.format.proofs.Notes.{removes_notes, notes_in_order}
use Rattle.format.proofs.PutIn.{put_in}
use Rattle.calls.specs.declared.Fraction.{Fraction}
use Rattle.calls.specs.declared.Refusal.{Refusal}
use Rattle.calls.specs.declared.CheckVerdict.{CheckVerdict}
use Rattle.calls.specs.declared.OfficeVerdict.{OfficeVerdict}
use Rattle.calls.specs.Refusals.{no_refusal, problem_refusal, certificate_refusal}
use Rattle.calls.specs.Zeros.{OfficeZeros}
use Rattle.calls.specs.Check.{refused_check, check_verdict}
use Rattle.calls.specs.Promises.{Reads, Within, CheckStated, SplitsAt, AcceptedExactly, CheckSplits, CheckDiffers, SevenExactly, RoundsTaken, FewRounds, RuleUsed}
use Rattle.calls.specs.RingPromises.{SideHoldsIn}
use Rattle.calls.specs.Rules.{UnderOne, AtLarger, SameBound}
use Rattle.calls.specs.Superseding.{is_accepted}
use Rattle.calls.specs.Office.{refusal_sent, verdict_sent, note_count, refused_notes, office_of, office_verdict, buffer_left}
use Rattle.calls.specs.Office.{StrictWithNotes, NotesPassed, PlaceAsSent, PlacesSent, NotesCopied, OfficeExactly, SplitsSent, OfficeSplits, SameOffice, OfficeKept}
use Rattle.calls.specs.RowOrder.{OfficeAnyOrder}
use Rattle.calls.proofs.OfficeZeros.{office_zeros}
use Rattle.calls.proofs.Checking.{check_exactly, check_splits, check_differs, check_rounds, check_few, check_rule, check_seven, check_opens}
use Rattle.calls.proofs.Rules.{AllLead, under_leads, larger_leads}
use Rattle.calls.proofs.Stays.{AllSeven, AllStay, Decides, decides_kept}
use Rattle.calls.proofs.RingChecks.{checked_in}
use Rattle.calls.proofs.Office.{sent_number, sent_other, office_refused_lem, office_short, office_accepted, OfficeTold, refusing, short_of, accepting, ended, accepted_same, refusing_is, notes_told}
use Rattle.calls.proofs.AnyOrder.{office_any_order}

-- ---- a refusal with its place as sent keeps what is not a place
sent_key : (t : List ℕ) (r : Refusal) → (refusal_sent t r).key ≡ r.key
unfolding refusal_sent
sent_key t r = go (eqb r.stream 1)
  where
    go : (b : Bool)
        → (cond b (record { number = r.number; stream = r.stream; place = place_sent (note_offsets t) r.place; key = r.key }) r).key
        ≡ r.key
    go true = refl
    go false = refl

sent_stream : (t : List ℕ) (r : Refusal) → (refusal_sent t r).stream ≡ r.stream
unfolding refusal_sent
sent_stream t r = go (eqb r.stream 1)
  where
    go : (b : Bool)
        → (cond b (record { number = r.number; stream = r.stream; place = place_sent (note_offsets t) r.place; key = r.key }) r).stream
        ≡ r.stream
    go true = refl
    go false = refl

sent_place : (t : List ℕ) (r : Refusal) → r.stream ≡ 1 → (refusal_sent t r).place ≡ place_sent (note_offsets t) r.place
unfolding refusal_sent
sent_place t r e = rw (eq-eqb r.stream 1 e)

sent_none : (t : List ℕ) (r : Refusal) → (r.stream ≡ 1 → ⊥) → refusal_sent t r ≡ r
unfolding refusal_sent
sent_none t r n = rw (ne_eqb r.stream 1 n)

place_as_sent : (t : List ℕ) (g : Refusal) → PlaceAsSent t g (refusal_sent t g)
place_as_sent t g =
    let r = removes_notes t in
    record {
      number = sent_number t g;
      stream = sent_stream t g;
      key = sent_key t g;
      other = λ n. ap (λ (x : Refusal). x.place) (sent_none t g n);
      byte = λ e h. rw (sent_place t g e) (sym (r.bytes g.place h));
      end = λ e h. sent_place t g e ∙ rw h r.ends;
    }

module _ (short : Bool) (s t : List ℕ) (room : ℕ) (v : OfficeVerdict) (is : v ≡ office_verdict short s t room) where
  abbrev w : CheckVerdict
  w = check_verdict short s (without_notes t)

  told : OfficeTold t room w v
  told = ended short s t room v is

  number_is : (u : OfficeVerdict) → v ≡ u → v.check.refusal.number ≡ u.check.refusal.number
  number_is u e = ap (λ (x : OfficeVerdict). x.check.refusal.number) e

  -- ---- where it accepts, so does the check, and its verdict is told
  passed : v.check.refusal.number ≡ 0 → w.refusal.number ≡ 0
  unfolding verdict_sent
  passed h = go told
    where
      go : OfficeTold t room w v → w.refusal.number ≡ 0
      go (refusing n e) = sym (sent_number t w.refusal) ∙ sym (number_is _ e) ∙ h
      go (short_of n k e) = absurd (omega (arith, number_is _ e))
      go (accepting n k e) = n

  accepted_is : v.check.refusal.number ≡ 0 → v.check ≡ w
  accepted_is h = go told
    where
      go : OfficeTold t room w v → v.check ≡ w
      go (refusing n e) = absurd (n (passed h))
      go (short_of n k e) = absurd (omega (arith, number_is _ e))
      go (accepting n k e) = ap (λ (x : OfficeVerdict). x.check) e ∙ accepted_same short s t room v is n

  -- where the check refuses, its refusal is told, with its place as sent
  refusal_is : 0 < w.refusal.number → v.check.refusal ≡ refusal_sent t w.refusal
  unfolding verdict_sent
  refusal_is h = ap (λ (x : CheckVerdict). x.refusal) (refusing_is short s t room v is (λ z. omega arith))

  -- a number of the check's, which 13 is not, is the check's number
  number_back : (n : ℕ) → 0 < n → n < 13 → v.check.refusal.number ≡ n → w.refusal.number ≡ n
  unfolding verdict_sent
  number_back n b k h = go told
    where
      go : OfficeTold t room w v → w.refusal.number ≡ n
      go (refusing m e) = sym (sent_number t w.refusal) ∙ sym (number_is _ e) ∙ h
      go (short_of m l e) = absurd (omega (arith, number_is _ e))
      go (accepting m l e) = absurd (omega (arith, number_is _ e, sent_number t w.refusal))

  places_sent : PlacesSent short s t v.check.refusal
  places_sent h = rw (refusal_is h) (place_as_sent t w.refusal)

  -- ---- the check's promises, of the stream with notes removed
  -- where the check refuses, or where it accepts and the buffer holds the notes, its number is told
  number_told : (n : ℕ) → 0 < n → w.refusal.number ≡ n → v.check.refusal.number ≡ n
  number_told n b h =
      ap (λ (x : Refusal). x.number) (refusal_is (omega arith)) ∙ sent_number t w.refusal ∙ h

  exactly : OfficeExactly short s t room v
  unfolding office_verdict verdict_sent
  exactly = record {
    only = λ h. rw (accepted_is h) ((check_exactly short s (without_notes t) w refl).only (passed h));
    always = λ p c within read blocks identity k.
        let z = (check_exactly short s (without_notes t) w refl).always p c within read blocks identity in
        number_is _ (is ∙ office_accepted t room w z k) ∙ sent_number t w.refusal ∙ z;
  }

  splits : OfficeSplits short s t v.check.refusal
  splits = record {
    only = λ h.
        let z = number_back 8 (omega arith) (omega arith) h in
        let k = (check_splits short s (without_notes t) w refl).only z in
        let e = refusal_is (omega arith) in
        let r = k.1 in (
          rw e (sent_stream t w.refusal ∙ k.0),
          record {
            problem = r.problem;
            read = r.read;
            holds = record { before = w.refusal.place; splits = r.holds; sent = rw e (sent_place t w.refusal k.0) };
          },
        );
    always = λ p c within read split. number_told 8 (omega arith) ((check_splits short s (without_notes t) w refl).always p c within read split);
  }

  differs : CheckDiffers short s (without_notes t) v.check.refusal
  differs = record {
    only = λ h.
        let z = number_back 9 (omega arith) (omega arith) h in
        let k = (check_differs short s (without_notes t) w refl).only z in
        let e = refusal_is (omega arith) in
        rw e (rw (sent_stream t w.refusal, sent_key t w.refusal) k);
    always = λ p c within false. number_told 9 (omega arith) ((check_differs short s (without_notes t) w refl).always p c within false);
  }

  seven : SevenExactly short s v.check.refusal
  seven = record {
    only = λ h.
        let z = number_back 7 (omega arith) (omega arith) h in
        let k = (check_seven short s (without_notes t) w refl).only z in
        let e = refusal_is (omega arith) in
        rw (e, sent_none t w.refusal (λ y. omega (arith, k.0))) k;
    always = λ p long read above. number_told 7 (omega arith) ((check_seven short s (without_notes t) w refl).always p long read above);
  }

  rounds : RoundsTaken s v.check.refusal.number v.check.rounds
  rounds p read h = rw (accepted_is h) (check_rounds short s (without_notes t) w refl p read (passed h))

  few_rounds : FewRounds s v.check.refusal.number v.check.rounds
  few_rounds p read h = rw (accepted_is h) (check_few short s (without_notes t) w refl p read (passed h))

  zeros : OfficeZeros v
  zeros = rw is (office_zeros short s t room)

  rule : RuleUsed s v.check.refusal.number v.check.rule
  rule = record {
    named = λ h. rw (accepted_is h) ((check_rule short s (without_notes t) w refl).named (passed h));
    refused = zeros.check.rule;
  }

  -- ---- the bound, over every ordered ring
  pub office_in : {A : Type 0} (R : OrderedRing A) (p : Problem) → read_problem s ≡ given p → v.check.refusal.number
      ≡ 0
      → SideHoldsIn R p v.check.side v.check.bound
  office_in R p read h = rw (accepted_is h) (checked_in R s p read short (without_notes t) (passed h))

  -- the buffer holds the notes of what is accepted
  holds_notes : v.check.refusal.number ≡ 0 → note_text * note_count t ≤ room
  holds_notes h = go told
    where
      go : OfficeTold t room w v → note_text * note_count t ≤ room
      go (refusing n e) = absurd (n (passed h))
      go (short_of n k e) = absurd (omega (arith, number_is _ e))
      go (accepting n k e) = k

-- ---- what is told, from what the check says of the stream with notes removed
module _ (short : Bool) (s t : List ℕ) (room : ℕ) where
  verdict_accepted : (check_verdict short s (without_notes t)).refusal.number ≡ 0 → note_text * note_count t ≤ room
      → office_verdict short s t room
      ≡ record { check = verdict_sent t (check_verdict short s (without_notes t)); notes = note_count t }
  unfolding office_verdict
  verdict_accepted h k = office_accepted t room (check_verdict short s (without_notes t)) h k

  verdict_short : (check_verdict short s (without_notes t)).refusal.number ≡ 0 → room < note_text * note_count t
      → office_verdict short s t room ≡ refused_notes
  unfolding office_verdict
  verdict_short h k = office_short t room (check_verdict short s (without_notes t)) h k

  verdict_refused : ((check_verdict short s (without_notes t)).refusal.number ≡ 0 → ⊥)
      → office_verdict short s t room ≡ record { check = verdict_sent t (check_verdict short s (without_notes t)); notes = 0 }
  unfolding office_verdict
  verdict_refused h = office_refused_lem t room (check_verdict short s (without_notes t)) h

-- ---- under rule 1, or at a larger order
pub office_decides : (short : Bool) (s t : List ℕ) (room : ℕ)
    → Decides (problem_refusal 7 0) (λ w. w.check.refusal) SameOffice (λ u. office_verdict short u t room) short s
unfolding verdict_sent
office_decides short s t room = record { opens = opens; refuses = refuses; accepts = accepts }
  where
    of : List ℕ → OfficeVerdict
    of u = office_verdict short u t room

    opens : (of s).check.refusal.number ≡ 0 → Reads s (Within short s)
    opens h = check_opens short s (without_notes t) _ refl (passed short s t room _ refl h)

    refuses : (u : List ℕ) → AllSeven short u → (of s).check.refusal.number ≡ 0 → (of u).check.refusal
        ≡ problem_refusal 7 0
    refuses u a h =
        let e = ap (λ (x : CheckVerdict). x.refusal) (a.check (without_notes t)) in
        refusal_is short u t room _ refl (rw e (omega arith))
        ∙ ap (refusal_sent t) e
        ∙ sent_none t (problem_refusal 7 0) (λ z. omega arith)

    accepts : (u : List ℕ) → AllStay short s u → (of s).check.refusal.number ≡ 0
        → ((of u).check.refusal ≡ no_refusal) × SameOffice (of u) (of s)
    accepts u a h =
        let z = passed short s t room _ refl h in
        let room-left = holds_notes short s t room _ refl h in
        let k = a.check (without_notes t) z in
        let y = ap (λ (r : Refusal). r.number) k.0 in
        let e = verdict_accepted short u t room y room-left in
        let f = verdict_accepted short s t room z room-left in (
          rw e (rw k.0 (sent_none t no_refusal (λ z. omega arith))),
          rw (e, f) ((k.1.0, k.1.1), refl),
        )

-- ---- the buffer, and the notes that were put in
module _ (short : Bool) (s t lent : List ℕ) (v : OfficeVerdict) (left : List ℕ) (is : v ≡ office_verdict short s t (length lent))
    (buffer : left ≡ buffer_left short s t lent) where
  abbrev strict : CheckVerdict
  strict = check_verdict short s (without_notes t)

  left_accepted : v.check.refusal.number ≡ 0 → left ≡ note_texts t ++ drop (note_text * note_count t) lent
  unfolding buffer_left
  left_accepted h = buffer ∙ rw (← is, eq-eqb v.check.refusal.number 0 h)

  left_refused : (v.check.refusal.number ≡ 0 → ⊥) → left ≡ lent
  unfolding buffer_left
  left_refused h = buffer ∙ rw (← is, ne_eqb v.check.refusal.number 0 h)

  count_told : v.check.refusal.number ≡ 0 → v.notes ≡ note_count t
  count_told h = ap (λ (x : OfficeVerdict). x.notes) is ∙ notes_told short s t lent (rw is at h)

  copied : NotesCopied t v left
  copied = record {
    number = count_told;
    bytes = λ h i k b c.
        let n = notes_in_order t in
        let m = count_told h in
        rw (left_accepted h)
        (get_or-append (note_texts t) _ 0 (note_text * i + k) (omega (arith, n.count)) ∙ n.texts i k (omega arith) c);
  }

  module _ (u : List ℕ) (p : PutIn u t) where
    finds : FindsNotes p
    finds = put_in p

    refused : 0 < strict.refusal.number → (v.check ≡ verdict_sent t strict) × ((v.notes ≡ 0) × (left ≡ lent))
    unfolding verdict_sent
    refused h =
        let e = is ∙ verdict_refused short s t (length lent) (λ z. omega arith) in (
          ap (λ (x : OfficeVerdict). x.check) e,
          (
            ap (λ (x : OfficeVerdict). x.notes) e,
            left_refused (λ z. omega (arith, ap (λ (x : OfficeVerdict). x.check.refusal.number) e, sent_number t strict.refusal)),
          ),
        )

    accepted : strict.refusal.number ≡ 0 → note_text * note_number p.pieces ≤ length lent
        → (v.check ≡ strict)
        × ((v.notes ≡ note_number p.pieces) × (left ≡ texts p.pieces ++ drop (note_text * note_number p.pieces) lent))
    unfolding verdict_sent
    accepted h k =
        let f = finds in
        let n = f.number in
        let e = is ∙ verdict_accepted short s t (length lent) h (omega arith) in
        let z = ap (λ (x : OfficeVerdict). x.check.refusal.number) e ∙ sent_number t strict.refusal ∙ h in (
          accepted_is short s t (length lent) v is z,
          (count_told z ∙ n, rw (← n, ← f.told) (left_accepted z)),
        )

    thirteen : strict.refusal.number ≡ 0 → length lent < note_text * note_number p.pieces → (v ≡ refused_notes)
        × (left ≡ lent)
    thirteen h k =
        let n = finds.number in
        let e = is ∙ verdict_short short s t (length lent) h (omega arith) in
        (e, left_refused (λ z. omega (arith, ap (λ (x : OfficeVerdict). x.check.refusal.number) e)))

    strict_with_notes : StrictWithNotes short s p lent v left
    strict_with_notes =
        let e = finds.removed in
        record {
          finds = finds;
          refused = rw e at refused;
          accepted = rw e at accepted;
          thirteen = rw e at thirteen;
        }

  kept : (R : List ℕ → List ℕ → Type 0) → ((u : List ℕ) → R s u → AllLead s u) → OfficeKept R short s t (length lent) v
  kept R leads = rw is (decides_kept (office_decides short s t (length lent)) R leads)

  -- all of them
  pub office_further : NotesPassed short s t lent v left
      × (PlacesSent short s t v.check.refusal
      × (NotesCopied t v left
      × (OfficeExactly short s t (length lent) v
      × (OfficeSplits short s t v.check.refusal
      × (CheckDiffers short s (without_notes t) v.check.refusal
      × (SevenExactly short s v.check.refusal
      × (RoundsTaken s v.check.refusal.number v.check.rounds
      × (FewRounds s v.check.refusal.number v.check.rounds
      × (RuleUsed s v.check.refusal.number v.check.rule
      × (OfficeZeros v
      × (OfficeKept UnderOne short s t (length lent) v
      × (OfficeKept AtLarger short s t (length lent) v × OfficeAnyOrder short s t (length lent) v))))))))))))
  office_further =
      let room = length lent in (
        strict_with_notes,
        (
          places_sent short s t room v is,
          (
            copied,
            (
              exactly short s t room v is,
              (
                splits short s t room v is,
                (
                  differs short s t room v is,
                  (
                    seven short s t room v is,
                    (
                      rounds short s t room v is,
                      (
                        few_rounds short s t room v is,
                        (
                          rule short s t room v is,
                          (
                            zeros short s t room v is,
                            (
                              kept UnderOne (under_leads s),
                              (kept AtLarger (larger_leads s), office_any_order short s room t v is),
                            ),
                          ),
                        ),
                      ),
                    ),
                  ),
                ),
              ),
            ),
          ),
        ),
      )
