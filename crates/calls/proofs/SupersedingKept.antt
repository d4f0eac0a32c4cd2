-- The call on two certificates with a problem stream, and with the same under rule 1 or at a larger order; and all of its
-- clauses together.
use mathlib.Core.Path.{◌≡◌, refl, sym, ap, ◌∙◌}
use mathlib.Core.Bool.{Bool}
use mathlib.Core.List.{List}
use mathlib.Core.Logic.{◌⊎◌, inl, inr}
use Prim.Native.Nat.{ℕ}
use native.Mathlib.Omega.{arith}
use Rattle.calls.specs.declared.CheckVerdict.{CheckVerdict}
use Rattle.calls.specs.declared.Refusal.{Refusal}
use Rattle.calls.specs.declared.Chosen.{Chosen}
use Rattle.calls.specs.declared.SupersedingVerdict.{SupersedingVerdict}
use Rattle.calls.specs.Refusals.{no_refusal, problem_refusal, certificate_refusal}
use Rattle.calls.specs.Check.{check_verdict}
use Rattle.calls.specs.Rules.{UnderOne, AtLarger, SameBound}
use Rattle.calls.specs.Superseding.{tighter_of, superseding_of, superseding_verdict, part_of}
use Rattle.calls.specs.Superseding.{SupersedingNumbered, ZeroExactly, ChosenZeros, PartZeros, HoldsBack, AsTight}
use Rattle.calls.specs.Superseding.{TighterBack, AloneBack, FirstRefusal, ElevenExactly}
use Rattle.calls.specs.Superseding.{AsTightBack, BackKept, TighterKept}
use Rattle.calls.specs.RowOrder.{SupersedingAnyOrder}
use Rattle.calls.proofs.AnyOrder.{superseding_any_order}
use Rattle.calls.proofs.Rules.{AllLead, under_leads, larger_leads}
use Rattle.calls.proofs.Stays.{AllSeven, AllStay, Stays, seven, stay, check_all}
use Rattle.calls.proofs.Superseded.{Passed, unrefused, as_tight_itself, kept, outdoes}
use Rattle.calls.proofs.Superseded.{Decided, first_tighter, second_tighter, sides_differ, first_alone, second_alone, neither}
use Rattle.calls.proofs.Superseded.{ended, number_is, part_is, numbered, chosen_zeros, part_zeros, zero_exactly}
use Rattle.calls.proofs.Superseded.{holds_back, tighter_back, alone_back, first_refusal_lem, eleven}

-- ---- under rule 1, or at a larger order: s' is the other stream, and a' and b' are what the check says with it
module _ (short : Bool) (s s' first second : List ℕ) where
  abbrev a : CheckVerdict
  a = check_verdict short s first

  abbrev b : CheckVerdict
  b = check_verdict short s second

  abbrev a' : CheckVerdict
  a' = check_verdict short s' first

  abbrev b' : CheckVerdict
  b' = check_verdict short s' second

  abbrev x : SupersedingVerdict
  x = superseding_verdict short s' first second

  abbrev Back : List ℕ → Type 0
  Back part = BackKept short s s' first second part

  abbrev end : Decided a' b' x
  end = ended short s' first second x refl

  -- 7 of every certificate is the call's refusal
  seven_back : AllSeven short s' → x.refusal ≡ problem_refusal 7 0
  unfolding superseding_verdict superseding_of
  seven_back k = rw (k.check first, k.check second)

  module _ (k : AllStay short s s') where
    -- what comes back with s' is part', of which the check says c'; c is what it says with s of what came back there
    back_with : (part' : List ℕ) (c : CheckVerdict) → part_of x.chosen first second ≡ part'
        → x.refusal ≡ no_refusal → Passed (check_verdict short s' part')
        → (check_verdict short s' part').side ≡ c.side → AsTight c.side (check_verdict short s' part').bound c.bound
        → (x.refusal ≡ certificate_refusal 2 11 0 0) ⊎ ((x.refusal ≡ no_refusal) × AsTightBack short s' first second c)
    back_with part' c e f h side tight = inr (f, rw e (unrefused short s' part' h, (side, tight)))

    module _ (h : Passed a) where
      same_first : (a'.refusal ≡ no_refusal) × SameBound a' a
      same_first = k.check first h

      passed_first : Passed a'
      passed_first = ap (λ (r : Refusal). r.number) same_first.0

      itself_first : AsTight a.side a'.bound a.bound
      itself_first = rw same_first.1.1 (as_tight_itself a.side a.bound a.bound)

      -- the first came back
      first_back : Back first
      first_back = record { accepted = same_first.0; same = same_first.1; back = go end }
        where
          go : Decided a' b' x
              → (x.refusal ≡ certificate_refusal 2 11 0 0) ⊎ ((x.refusal ≡ no_refusal) × AsTightBack short s' first second a)
          go (first_tighter m n i f e) =
              back_with first a (part_is short s' first second x refl _ e) (rw e refl) m same_first.1.0 itself_first
          go (second_tighter m n i f e) =
              back_with second a (part_is short s' first second x refl _ e) (rw e refl) n (sym i ∙ same_first.1.0)
              (rw (same_first.1.0, same_first.1.1) at (outdoes a'.side a'.bound b'.bound f))
          go (sides_differ m n i e) = inl (rw e refl)
          go (first_alone m n e) =
              back_with first a (part_is short s' first second x refl _ e) (rw e refl) m same_first.1.0 itself_first
          go (second_alone m n e) = absurd (m passed_first)
          go (neither m n e) = absurd (m passed_first)

    module _ (h : Passed b) where
      same_second : (b'.refusal ≡ no_refusal) × SameBound b' b
      same_second = k.check second h

      passed_second : Passed b'
      passed_second = ap (λ (r : Refusal). r.number) same_second.0

      itself_second : AsTight b.side b'.bound b.bound
      itself_second = rw same_second.1.1 (as_tight_itself b.side b.bound b.bound)

      -- the second came back
      second_back : Back second
      second_back = record { accepted = same_second.0; same = same_second.1; back = go end }
        where
          go : Decided a' b' x
              → (x.refusal ≡ certificate_refusal 2 11 0 0) ⊎ ((x.refusal ≡ no_refusal) × AsTightBack short s' first second b)
          go (first_tighter m n i f e) =
              back_with first b (part_is short s' first second x refl _ e) (rw e refl) m (i ∙ same_second.1.0)
              (rw (i ∙ same_second.1.0, same_second.1.1) at (kept a'.side a'.bound b'.bound f))
          go (second_tighter m n i f e) =
              back_with second b (part_is short s' first second x refl _ e) (rw e refl) n same_second.1.0 itself_second
          go (sides_differ m n i e) = inl (rw e refl)
          go (first_alone m n e) = absurd (n passed_second)
          go (second_alone m n e) =
              back_with second b (part_is short s' first second x refl _ e) (rw e refl) n same_second.1.0 itself_second
          go (neither m n e) = absurd (n passed_second)

    -- where both were accepted the decision is the same: it looks at sides and bounds
    same_decision : Passed a → Passed b → x ≡ superseding_verdict short s first second
    unfolding superseding_verdict superseding_of tighter_of
    same_decision h m =
        let k = same_first h in
        let l = same_second m in
        let e : a'.refusal.number ≡ 0 = ap (λ (r : Refusal). r.number) k.0 in
        let f : b'.refusal.number ≡ 0 = ap (λ (r : Refusal). r.number) l.0 in
        rw (h, m, e, f, k.1.0, k.1.1, l.1.0, l.1.1)

module _ (short : Bool) (s first second : List ℕ) (v : SupersedingVerdict)
    (is : v ≡ superseding_verdict short s first second) (R : List ℕ → List ℕ → Type 0)
    (leads : (t : List ℕ) → R s t → AllLead s t) where
  abbrev part : List ℕ
  part = part_of v.chosen first second

  tighter_kept : TighterKept R short s first second part v.refusal
  tighter_kept t u = record { one = λ z. one z (ended short s first second v is); both = both }
    where
      with_first : Passed (check_verdict short s first) → part ≡ first
          → ((superseding_verdict short t first second).refusal ≡ problem_refusal 7 0) ⊎ BackKept short s t first second part
      with_first h e = go (check_all short s t (leads t u) first h)
        where
          go : Stays short s t
              → ((superseding_verdict short t first second).refusal ≡ problem_refusal 7 0) ⊎ BackKept short s t first second part
          go (seven k) = inl (seven_back short s t first second k)
          go (stay k) = inr (rw e (first_back short s t first second k h))

      with_second : Passed (check_verdict short s second) → part ≡ second
          → ((superseding_verdict short t first second).refusal ≡ problem_refusal 7 0) ⊎ BackKept short s t first second part
      with_second h e = go (check_all short s t (leads t u) second h)
        where
          go : Stays short s t
              → ((superseding_verdict short t first second).refusal ≡ problem_refusal 7 0) ⊎ BackKept short s t first second part
          go (seven k) = inl (seven_back short s t first second k)
          go (stay k) = inr (rw e (second_back short s t first second k h))

      one : v.refusal.number ≡ 0 → Decided (check_verdict short s first) (check_verdict short s second) v
          → ((superseding_verdict short t first second).refusal ≡ problem_refusal 7 0) ⊎ BackKept short s t first second part
      one z (first_tighter h k i f e) = with_first h (part_is short s first second v is _ e)
      one z (second_tighter h k i f e) = with_second k (part_is short s first second v is _ e)
      one z (sides_differ h k i e) = absurd (omega (arith, number_is short s first second v is _ e))
      one z (first_alone h k e) = with_first h (part_is short s first second v is _ e)
      one z (second_alone h k e) = with_second k (part_is short s first second v is _ e)
      one z (neither h k e) = absurd (h (sym (number_is short s first second v is _ e) ∙ z))

      both : Passed (check_verdict short s first) → Passed (check_verdict short s second)
          → ((superseding_verdict short t first second).refusal ≡ problem_refusal 7 0)
          ⊎ (((superseding_verdict short t first second).refusal ≡ v.refusal)
          × (part_of (superseding_verdict short t first second).chosen first second ≡ part))
      both h k = go (check_all short s t (leads t u) first h)
        where
          go : Stays short s t
              → ((superseding_verdict short t first second).refusal ≡ problem_refusal 7 0)
              ⊎ (((superseding_verdict short t first second).refusal ≡ v.refusal)
              × (part_of (superseding_verdict short t first second).chosen first second ≡ part))
          go (seven l) = inl (seven_back short s t first second l)
          go (stay l) =
              let e = same_decision short s t first second l h k ∙ sym is in
              inr (
                ap (λ (w : SupersedingVerdict). w.refusal) e,
                ap (λ (w : SupersedingVerdict). part_of w.chosen first second) e,
              )

-- ---- all of them, of what comes back and what the four numbers hold, where these are the definition's
module _ (short : Bool) (s first second part : List ℕ) (f : Refusal) where
  abbrev verdict : SupersedingVerdict
  verdict = superseding_verdict short s first second

  abbrev pub SupersedingClauses : Type 0
  SupersedingClauses =
      SupersedingNumbered f.number
      × (ZeroExactly part f
      × (HoldsBack s part
      × (TighterBack short s first second part
      × (AloneBack short s first second part
      × (FirstRefusal short s first f
      × (ElevenExactly short s first second f
      × (PartZeros f part
      × (TighterKept UnderOne short s first second part f
      × (TighterKept AtLarger short s first second part f × SupersedingAnyOrder short s first second part f)))))))))

  pub left_clauses : part ≡ part_of verdict.chosen first second → f ≡ verdict.refusal → SupersedingClauses
  left_clauses e g =
      rw (e, g) (
        numbered short s first second verdict refl,
        (
          zero_exactly short s first second verdict refl,
          (
            holds_back short s first second verdict refl,
            (
              tighter_back short s first second verdict refl,
              (
                alone_back short s first second verdict refl,
                (
                  first_refusal_lem short s first second verdict refl,
                  (
                    eleven short s first second verdict refl,
                    (
                      part_zeros short s first second verdict refl,
                      (
                        tighter_kept short s first second verdict refl UnderOne (under_leads s),
                        (
                          tighter_kept short s first second verdict refl AtLarger (larger_leads s),
                          superseding_any_order short s first second (part_of verdict.chosen first second) verdict.refusal refl refl,
                        ),
                      ),
                    ),
                  ),
                ),
              ),
            ),
          ),
        ),
      )

-- what is chosen, and what the four numbers hold
pub choice_zeros : (short : Bool) (s first second : List ℕ) (chosen : Chosen) (f : Refusal)
    → chosen ≡ (superseding_verdict short s first second).chosen → f ≡ (superseding_verdict short s first second).refusal
    → ChosenZeros f chosen
choice_zeros short s first second chosen f e g = rw (e, g) (chosen_zeros short s first second _ refl)
