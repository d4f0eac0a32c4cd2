-- The clauses of the call on changes, from its equation.
use mathlib.Core.Path.{◌≡◌, refl, sym, ap, ◌∙◌, subst}
use mathlib.Core.Bool.{Bool, true, false, cond}
use mathlib.Core.List.{List}
use mathlib.Core.Logic.{inl, inr, ⊎_elim}
use Prim.Native.Nat.{ℕ, ◌≤◌, ◌<◌}
use native.Mathlib.Omega.{arith}
use lib.Dec.{eqb}
use borrow.Author.Tests.{eqb-true, eqb-false, eq-eqb, ne_eqb}
use Rattle.counting.proofs.Cases.{clash}
use Rattle.counting.proofs.Listed.{same_or_not}
use Rattle.format.specs.Commands.{given}
use Rattle.format.specs.ProblemRules.{Problem, read_problem}
use Rattle.format.specs.CertificateRules.{Certificate}
use Rattle.format.proofs.ProblemLimits.{read_limits}
use Rattle.accepting.specs.Judgement as J
use Rattle.accepting.proofs.Accepted.{accepted_below}
use Rattle.calls.specs.declared.CheckVerdict.{CheckVerdict}
use Rattle.calls.specs.declared.Refusal.{Refusal}
use Rattle.calls.specs.declared.AdjustedVerdict.{AdjustedVerdict}
use Rattle.calls.specs.Refusals.{no_refusal, problem_refusal}
use Rattle.calls.specs.Check.{bound_of, check_verdict}
use Rattle.calls.specs.Superseding.{is_accepted}
use Rattle.calls.specs.Promises.{Reads, Within}
use Rattle.calls.specs.Adjusted.{changes_of, change_refusal, changes_refusal, boxed_to, moved_bound, refused_adjusted, found_bound}
use Rattle.calls.specs.Adjusted.{adjusted_by, adjusted_of, adjusted_read, adjusted_checked, adjusted_verdict}
use Rattle.calls.specs.Adjusted.{AdjustedNumber, HoldsChanged, ChangesFit, Box, EveryBox, Adjusts, Moved}
use Rattle.calls.specs.Adjusted.{AdjustedExactly, InOrder, AdjustedKept}
use Rattle.calls.specs.Rules.{UnderOne, AtLarger}
use Rattle.calls.specs.Zeros.{RefusalZeros, AdjustedZeros}
use Rattle.calls.specs.RowOrder.{AdjustedAnyOrder}
use Rattle.calls.proofs.AnyOrder.{adjusted_any_order}
use Rattle.calls.proofs.Zeros.{none_zeros, problem_zeros, zero_fraction}
use Rattle.calls.proofs.Rules.{AllLead, under_leads, larger_leads}
use Rattle.calls.proofs.Stays.{AllSeven, AllStay, Decides, decides_kept}
use Rattle.calls.proofs.Refusing.{reads_at}
use Rattle.calls.proofs.Checking.{Checked, check_found, check_clauses, check_opens, check_zeros}
use Rattle.calls.proofs.Superseded.{accepted_states}
use Rattle.calls.proofs.Boxes.{boxes_found, found_boxes}
use Rattle.calls.proofs.Changes.{unrefused_fit, fit_unrefused, changes_number, cut_refused, many_refused, unfit_refused, changes_zeros}
use Rattle.calls.proofs.AdjustedBounds.{changed_below}

-- ---- how an accepted certificate ends, by the check's verdict w on it
module _ (p : Problem) (w : CheckVerdict) (changes : List ℕ) where
  abbrev told : Refusal
  told = changes_refusal p.variables changes

  data Decided (v : AdjustedVerdict) : Type 0 where
    unfit : (told.number ≡ 0 → ⊥) → v ≡ refused_adjusted told → Decided v
    unboxed : ChangesFit p.variables changes → boxed_to p.variables p.conditions ≡ false
        → v ≡ refused_adjusted (problem_refusal 16 0) → Decided v
    upper : ChangesFit p.variables changes → EveryBox p → (w.side ≡ 0 → ⊥)
        → v ≡ refused_adjusted (problem_refusal 17 0) → Decided v
    moved : ChangesFit p.variables changes → EveryBox p → w.side ≡ 0
        → v ≡ found_bound (moved_bound w.bound (changes_of changes)) → Decided v

  decided : Decided (adjusted_of p w changes)
  unfolding adjusted_of adjusted_by
  decided = go (eqb told.number 0) (boxed_to p.variables p.conditions) (eqb w.side 0) refl refl refl
    where
      go : (a b c : Bool) → eqb told.number 0 ≡ a → boxed_to p.variables p.conditions ≡ b → eqb w.side 0 ≡ c
          → Decided (cond a
          (cond b (cond c (found_bound (moved_bound w.bound (changes_of changes))) (refused_adjusted (problem_refusal 17 0)))
          (refused_adjusted (problem_refusal 16 0)))
          (refused_adjusted told))
      go false b c e f g = unfit (eqb-false _ _ e) refl
      go true false c e f g = unboxed (unrefused_fit p.variables changes (eqb-true _ _ e)) f refl
      go true true false e f g =
          upper (unrefused_fit p.variables changes (eqb-true _ _ e)) (boxes_found p.variables p.conditions f)
          (eqb-false _ _ g) refl
      go true true true e f g =
          moved (unrefused_fit p.variables changes (eqb-true _ _ e)) (boxes_found p.variables p.conditions f)
          (eqb-true _ _ g) refl

module _ (short : Bool) (s t changes : List ℕ) (v : AdjustedVerdict) (is : v ≡ adjusted_verdict short s t changes) where
  abbrev said : CheckVerdict
  said = check_verdict short s t

  -- ---- the check comes first
  by_check : (said.refusal.number ≡ 0 → ⊥) → v ≡ refused_adjusted said.refusal
  unfolding adjusted_verdict adjusted_checked
  by_check h = is ∙ rw (ne_eqb said.refusal.number 0 h)

  by_problem : said.refusal.number ≡ 0 → (p : Problem) → read_problem s ≡ given p → v ≡ adjusted_of p said changes
  unfolding adjusted_verdict adjusted_checked
  by_problem h p read = is ∙ rw (eq-eqb said.refusal.number 0 h, read)

  number_is : (w : AdjustedVerdict) → v ≡ w → v.refusal.number ≡ w.refusal.number
  number_is w e = ap (λ (x : AdjustedVerdict). x.refusal.number) e

  refusal_is : (w : AdjustedVerdict) → v ≡ w → v.refusal ≡ w.refusal
  refusal_is w e = ap (λ (x : AdjustedVerdict). x.refusal) e

  -- ---- where nothing is refused
  passed : v.refusal.number ≡ 0 → said.refusal.number ≡ 0
  passed h =
      ⊎_elim (λ e. e) (λ n. absurd (n (sym (number_is _ (by_check n)) ∙ h))) (same_or_not said.refusal.number 0)

  found : v.refusal.number ≡ 0 → Reads s (λ p. Moved p t changes v.bound)
  found h =
      let r = check_found short s t said refl (passed h) in
      let p = r.problem in
      record { problem = p; read = r.read; holds = at p r.holds (by_problem (passed h) p r.read) }
    where
      at : (p : Problem) → Checked p t said → v ≡ adjusted_of p said changes → Moved p t changes v.bound
      at p k e = go (subst (Decided p said changes) (sym e) (decided p said changes))
        where
          go : Decided p said changes v → Moved p t changes v.bound
          go (unfit n e) = absurd (n (sym (number_is _ e) ∙ h))
          go (unboxed f b e) = absurd (omega (arith, number_is _ e))
          go (upper f b u e) = absurd (omega (arith, number_is _ e))
          go (moved f b l e) = record {
            certificate = k.certificate;
            adjusts = record {
              accepted = k.accepted;
              fit = f;
              boxes = b;
              lower = sym (ap (λ (x : CheckVerdict). x.side) k.verdict) ∙ l;
            };
            bound =
                ap (λ (x : AdjustedVerdict). x.bound) e
                ∙ ap (λ (x : CheckVerdict). moved_bound x.bound (changes_of changes)) k.verdict;
          }

  holds : HoldsChanged s changes v.refusal.number v.bound
  holds p read h =
      let k = reads_at s (λ q. Moved q t changes v.bound) (found h) p read in
      let a = k.adjusts in
      let limits = read_limits s p read in
      rw k.bound (unfold moved_bound in changed_below p limits a.boxes changes a.fit _ _
      (accepted_below p limits t k.certificate a.accepted a.lower))

  -- ---- the numbers
  numbered : AdjustedNumber v.refusal.number
  numbered = ⊎_elim accepted refused (same_or_not said.refusal.number 0)
    where
      refused : (said.refusal.number ≡ 0 → ⊥) → AdjustedNumber v.refusal.number
      refused n = inl (omega (arith, number_is _ (by_check n), (check_clauses short s t said refl).0))

      at : (p : Problem) → Decided p said changes v → AdjustedNumber v.refusal.number
      at p (unfit n e) = inl (omega (arith, number_is _ e, changes_number p.variables changes))
      at p (unboxed f b e) = inr (inl (number_is _ e))
      at p (upper f b u e) = inr (inr (number_is _ e))
      at p (moved f b l e) = inl (omega (arith, number_is _ e))

      accepted : said.refusal.number ≡ 0 → AdjustedNumber v.refusal.number
      accepted h =
          let r = check_found short s t said refl h in
          let p = r.problem in
          at p (subst (Decided p said changes) (sym (by_problem h p r.read)) (decided p said changes))

  -- ---- a certificate that the check accepts
  module _ (p : Problem) (c : Certificate) (w : Within short s p) (a : J.Accepted p t c) where
    of_problem : v ≡ adjusted_of p said changes
    of_problem = by_problem (accepted_states short s t p w c a).number p w.read

    by_changes : ((told p said changes).number ≡ 0 → ⊥) → v.refusal ≡ told p said changes
    unfolding adjusted_of
    by_changes h =
        refusal_is (refused_adjusted (told p said changes)) (of_problem ∙ rw (ne_eqb (told p said changes).number 0 h))

    module _ (fit : ChangesFit p.variables changes) where
      by_boxes : v ≡ adjusted_by p said (changes_of changes)
      unfolding adjusted_of
      by_boxes = of_problem ∙ rw (fit_unrefused p.variables changes fit)

      unboxed_refused : (i : ℕ) → 1 ≤ i → i ≤ p.variables → (Box i p.conditions → ⊥)
          → v.refusal ≡ problem_refusal 16 0
      unfolding adjusted_by
      unboxed_refused i l u n = go (boxed_to p.variables p.conditions) refl
        where
          go : (b : Bool) → boxed_to p.variables p.conditions ≡ b → v.refusal ≡ problem_refusal 16 0
          go true e = absurd (n (boxes_found p.variables p.conditions e i l u))
          go false e = refusal_is (refused_adjusted (problem_refusal 16 0)) (by_boxes ∙ rw e)

      module _ (boxes : EveryBox p) where
        by_side : (b : Bool) → eqb said.side 0 ≡ b
            → v ≡ cond b (found_bound (moved_bound said.bound (changes_of changes)))
            (refused_adjusted (problem_refusal 17 0))
        unfolding adjusted_by
        by_side b e = by_boxes ∙ rw (found_boxes p.variables p.conditions boxes, e)

        upper_refused : c.header.side ≡ 1 → v.refusal ≡ problem_refusal 17 0
        upper_refused u =
            let d = (accepted_states short s t p w c a).side in
            refusal_is _ (by_side false (ne_eqb said.side 0 (λ z. omega arith)))

        lower_accepted : c.header.side ≡ 0 → v.refusal.number ≡ 0
        lower_accepted l =
            let d = (accepted_states short s t p w c a).side in
            number_is _ (by_side true (eq-eqb _ 0 (d ∙ l)))

  exactly : AdjustedExactly short s t changes v
  exactly = record {
    only = found;
    always = λ p c w a. lower_accepted p c w a.accepted a.fit a.boxes a.lower;
  }

  not_zero : (f : Refusal) (number index : ℕ) → f ≡ change_refusal number index → 0 < number → f.number ≡ 0 → ⊥
  not_zero f number index e h z = omega (arith, ap (λ (g : Refusal). g.number) e)

  in_order : InOrder short s t changes v.refusal
  in_order = record {
    check = λ h. refusal_is _ (by_check h);
    cut = λ p c w a h.
        let e = cut_refused p.variables changes h in
        by_changes p c w a (not_zero _ _ _ e (omega arith)) ∙ e;
    many = λ p c w a k h.
        let e = many_refused p.variables changes k h in
        by_changes p c w a (not_zero _ _ _ e (omega arith)) ∙ e;
    unfit = λ p c w a k l i h.
        let e = unfit_refused p.variables changes k l i h in
        by_changes p c w a (not_zero _ _ _ e (omega arith)) ∙ e;
    unboxed = unboxed_refused;
    upper = upper_refused;
  }

  -- ---- the zeros
  unrefused : v.refusal.number ≡ 0 → v.refusal ≡ no_refusal
  unrefused h =
      let r = check_found short s t said refl (passed h) in
      let p = r.problem in
      go p (subst (Decided p said changes) (sym (by_problem (passed h) p r.read)) (decided p said changes))
    where
      go : (p : Problem) → Decided p said changes v → v.refusal ≡ no_refusal
      go p (unfit n e) = absurd (n (sym (number_is _ e) ∙ h))
      go p (unboxed f b e) = absurd (omega (arith, number_is _ e))
      go p (upper f b u e) = absurd (omega (arith, number_is _ e))
      go p (moved f b l e) = refusal_is _ e

  zeros : AdjustedZeros v
  zeros = ⊎_elim accepted refused (same_or_not said.refusal.number 0)
    where
      with_refusal_lem : (r : Refusal) → RefusalZeros r → AdjustedZeros (refused_adjusted r)
      with_refusal_lem r z = record { refusal = z; bound = λ _. zero_fraction }

      refused : (said.refusal.number ≡ 0 → ⊥) → AdjustedZeros v
      refused n = rw (by_check n) (with_refusal_lem _ (check_zeros short s t said refl).refusal)

      at : (p : Problem) → Decided p said changes v → AdjustedZeros v
      at p (unfit n e) = rw e (with_refusal_lem _ (changes_zeros p.variables changes))
      at p (unboxed f b e) = rw e (with_refusal_lem _ (problem_zeros 16 0 (omega arith)))
      at p (upper f b u e) = rw e (with_refusal_lem _ (problem_zeros 17 0 (omega arith)))
      at p (moved f b l e) = rw e (record { refusal = none_zeros; bound = λ h. absurd (omega arith) })

      accepted : said.refusal.number ≡ 0 → AdjustedZeros v
      accepted h =
          let r = check_found short s t said refl h in
          let p = r.problem in
          at p (subst (Decided p said changes) (sym (by_problem h p r.read)) (decided p said changes))

-- ---- under rule 1, or at a larger order
-- the call looks at the variables and conditions of the problem, and at the side and the bound of the check
same_adjusted : (p q : Problem) (v w : CheckVerdict) (changes : List ℕ) → q.variables ≡ p.variables
    → q.conditions ≡ p.conditions → w.side ≡ v.side → w.bound ≡ v.bound
    → adjusted_of q w changes ≡ adjusted_of p v changes
unfolding adjusted_of adjusted_by
same_adjusted p q v w changes n c side bound = rw (n, c, side, bound)

pub adjusted_decides : (short : Bool) (s t changes : List ℕ)
    → Decides (problem_refusal 7 0) (λ w. w.refusal) (λ w u. w.bound ≡ u.bound) (λ u. adjusted_verdict short u t changes) short s
adjusted_decides short s t changes = record { opens = opens; refuses = refuses; accepts = accepts }
  where
    of : List ℕ → AdjustedVerdict
    of u = adjusted_verdict short u t changes

    opens : (of s).refusal.number ≡ 0 → Reads s (Within short s)
    opens h = check_opens short s t _ refl (passed short s t changes _ refl h)

    refuses : (u : List ℕ) → AllSeven short u → (of s).refusal.number ≡ 0 → (of u).refusal ≡ problem_refusal 7 0
    refuses u a h =
        let e = ap (λ (x : CheckVerdict). x.refusal) (a.check t) in
        ap (λ (x : AdjustedVerdict). x.refusal)
        (by_check short u t changes _ refl (λ z. omega (arith, ap (λ (r : Refusal). r.number) e)))
        ∙ e

    accepts : (u : List ℕ) → AllStay short s u → (of s).refusal.number ≡ 0
        → ((of u).refusal ≡ no_refusal) × ((of u).bound ≡ (of s).bound)
    accepts u a h =
        let z = passed short s t changes _ refl h in
        let k = a.check t z in
        let e : of u ≡ of s =
        by_problem short u t changes _ refl (ap (λ (r : Refusal). r.number) k.0) a.other a.other_read
        ∙ same_adjusted a.problem a.other _ _ changes a.variables a.conditions k.1.0 k.1.1
        ∙ sym (by_problem short s t changes _ refl z a.problem a.read) in (
          ap (λ (x : AdjustedVerdict). x.refusal) e ∙ unrefused short s t changes _ refl h,
          ap (λ (x : AdjustedVerdict). x.bound) e,
        )

-- all of them
module _ (short : Bool) (s t changes : List ℕ) (v : AdjustedVerdict) (is : v ≡ adjusted_verdict short s t changes) where
  kept : (R : List ℕ → List ℕ → Type 0) → ((u : List ℕ) → R s u → AllLead s u) → AdjustedKept R short s t changes v
  kept R leads = rw is (decides_kept (adjusted_decides short s t changes) R leads)

  pub adjusted_clauses : AdjustedNumber v.refusal.number
      × (AdjustedExactly short s t changes v
      × (HoldsChanged s changes v.refusal.number v.bound
      × (InOrder short s t changes v.refusal
      × (AdjustedZeros v
      × (AdjustedKept UnderOne short s t changes v
      × (AdjustedKept AtLarger short s t changes v × AdjustedAnyOrder short s t changes v))))))
  adjusted_clauses = (
    numbered short s t changes v is,
    (
      exactly short s t changes v is,
      (
        holds short s t changes v is,
        (
          in_order short s t changes v is,
          (
            zeros short s t changes v is,
            (
              kept UnderOne (under_leads s),
              (kept AtLarger (larger_leads s), adjusted_any_order short s t changes v is),
            ),
          ),
        ),
      ),
    ),
  )
