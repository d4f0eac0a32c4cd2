-- The clauses of the check, from its equation.
use mathlib.Core.Path.{◌≡◌, refl, sym, ap, ◌∙◌}
use mathlib.Core.Bool.{Bool, true, false}
use mathlib.Core.List.{List}
use mathlib.Core.Logic.{inl, inr}
use Prim.Native.Nat.{ℕ, ◌≤◌}
use native.Mathlib.Omega.{arith}
use Rattle.format.specs.Commands as Stream
use Rattle.format.specs.ProblemRules.{Problem, read_problem}
use Rattle.format.proofs.ProblemRule.{read_rule}
use Rattle.format.proofs.ProblemLimits.{read_limits}
use Rattle.format.specs.CertificateRules.{Certificate, read_certificate}
use Rattle.format.proofs.CertificateLimits.{read_sound}
use Rattle.joining_rule.specs.Joining.{closing, too_large}
use Rattle.accepting.specs.Judgement.{Judgement, judge}
use Rattle.accepting.specs.Judgement as J
use Rattle.accepting.specs.Bounds.{BoundedBelow, BoundedAbove}
use Rattle.accepting.proofs.Accepted.{judge_accepted, accepted_judge, judge_splits, judge_differs, accepted_below, accepted_above}
use Rattle.accepting.proofs.Rules.{accepted_other}
use Rattle.calls.specs.declared.CheckVerdict.{CheckVerdict}
use Rattle.calls.specs.declared.Refusal.{Refusal}
use Rattle.calls.specs.Refusals.{no_refusal}
use Rattle.calls.specs.Check.{refused_check, accepted_check, check_for, check_verdict}
use Rattle.calls.specs.Promises.{NumberedTo, RoundsTaken, FewRounds, RuleUsed, Reads, DiffersAt, IdentityFalse, Within, AcceptedExactly, SevenExactly, SplitsAt, CheckSplits, CheckDiffers, HoldsBelow, HoldsAbove, HoldsBySide}
use Rattle.calls.specs.declared.TwoChecks.{TwoChecks}
use Rattle.calls.specs.Zeros.{CheckZeros, TwoZeros}
use Rattle.calls.specs.Rules.{UnderOne, AtLarger, UnlessSeven, SameBound, CheckKept, CheckUnderOne, CheckAtLarger}
use Rattle.calls.proofs.Promised.{promise_rounds, promise_few}
use Rattle.calls.specs.RowOrder.{CheckAnyOrder}
use Rattle.calls.proofs.RowOrder.{check_alike}
use Rattle.calls.proofs.Refusing.{reads_at, Seven, seven_exactly}
use Rattle.calls.proofs.Endings.{check_by, CheckRefused, check_by_lem, check_large, check_decided, check_accepted_by}
use Rattle.calls.proofs.Zeros.{refused_zeros, check_refused_lem, check_accepted_lem}
use Rattle.calls.proofs.Rules.{AllLead, under_leads, larger_leads, BothWithin, Under, large, both, under}

-- two certificates that a stream gives are one
pub given_once : (h : Problem) (s : List ℕ) (c d : Certificate) → read_certificate h s ≡ Stream.given c → read_certificate h s ≡ Stream.given d → c ≡ d
given_once h s c d e f = cc

-- a certificate that is accepted, and the verdict that says so
pub record Checked (p : Problem) (t : List ℕ) (v : CheckVerdict) : Type 0 where
  pub certificate : Certificate
  pub accepted : J.Accepted p t certificate
  pub verdict : v ≡ accepted_check certificate.header (closing p).rounds p.rule

module _ (short : Bool) (s t : List ℕ) (v : CheckVerdict) (is : v ≡ check_verdict short s t) where
  by_end : (P : CheckVerdict → Type 0) → ((r : Refusal) → CheckRefused short s t r → P (refused_check r))
      → ((p : Problem) → Within short s p → (c : Certificate) → J.Accepted p t c
      → P (accepted_check c.header (closing p).rounds p.rule))
      → P v
  by_end P x y = rw is (check_by_lem short s t P x y)

  is_judged : (p : Problem) → Within short s p → (j : Judgement) → judge p t ≡ j → v ≡ check_by p j
  is_judged p w j e = is ∙ check_decided short s t p w ∙ rw e

  number_is : (w : CheckVerdict) → v ≡ w → v.refusal.number ≡ w.refusal.number
  number_is w e = ap (λ (x : CheckVerdict). x.refusal.number) e

  check_numbered : NumberedTo 9 v.refusal.number
  check_numbered = by_end (λ v. v.refusal.number ≤ 9) (λ r b. b.most) (λ p w c a. omega arith)

  -- ---- where nothing is refused
  pub check_found : v.refusal.number ≡ 0 → Reads s (λ p. Checked p t v)
  check_found =
      by_end (λ v. v.refusal.number ≡ 0 → Reads s (λ p. Checked p t v)) (λ r b h. absurd (omega (arith, b.least)))
      (λ p w c a _. record { problem = p; read = w.read; holds = record { certificate = c; accepted = a; verdict = refl } })

  found_at : (p : Problem) → read_problem s ≡ Stream.given p → v.refusal.number ≡ 0 → Checked p t v
  found_at p r h = reads_at s (λ p. Checked p t v) (check_found h) p r

  pub check_exactly : AcceptedExactly short s t v
  check_exactly = record {
    only = λ h.
        let r = check_found h in
        let k = r.holds in
        record {
          problem = r.problem;
          read = r.read;
          certificate = k.certificate;
          accepted = k.accepted;
          side = ap (λ (x : CheckVerdict). x.side) k.verdict;
          p = ap (λ (x : CheckVerdict). x.bound.num) k.verdict;
          q = ap (λ (x : CheckVerdict). x.bound.den) k.verdict;
        };
    always = λ p c w read blocks identity.
        let a : J.Accepted p t c = record { read = read; blocks = blocks; identity = identity } in
        number_is _ (is_judged p w _ (accepted_judge p t c a));
  }

  pub check_rounds : RoundsTaken s v.refusal.number v.rounds
  check_rounds p read h = rw (found_at p read h).verdict (promise_rounds s p read)

  pub check_few : FewRounds s v.refusal.number v.rounds
  check_few p read h = rw (found_at p read h).verdict (promise_few s p read)

  -- ---- refusal 7
  pub check_seven : SevenExactly short s v.refusal
  unfolding check_verdict
  check_seven =
      rw is (seven_exactly short s refused_check (λ p. check_for p t) (λ w. w.refusal) (λ r. refl)
      (check_by_lem short s t (λ v. Seven s v.refusal) (λ r b. b.seven) (λ p w c a h. absurd (omega arith))))

  -- ---- refusal 8
  pub check_splits : CheckSplits short s t v.refusal
  check_splits = record {
    only =
        by_end (λ v. v.refusal.number ≡ 8 → (v.refusal.stream ≡ 1) × Reads s (λ p. SplitsAt p t v.refusal.place))
        (λ r b. b.eight) (λ p w c a h. absurd (omega arith));
    always = λ p c w read fails. number_is _ (is_judged p w _ (judge_splits p t c read fails).refusal);
  }

  -- ---- refusal 9
  pub check_differs : CheckDiffers short s t v.refusal
  check_differs = record {
    only =
        by_end (λ v. v.refusal.number ≡ 9 → (v.refusal.stream ≡ 1) × Reads s (λ p. DiffersAt p t v.refusal.key))
        (λ r b. b.nine) (λ p w c a h. absurd (omega arith));
    always = λ p c w i.
        let d = judge_differs p t c i.read (read_limits s p w.read) i.blocks i.differs in
        number_is _ (is_judged p w _ d.refusal);
  }

  -- ---- the bound
  check_holds : HoldsBySide s v
  check_holds = record { sides = sides; lower = lower; upper = upper }
    where
      side_is : (w : CheckVerdict) → v ≡ w → v.side ≡ w.side
      side_is w e = ap (λ (x : CheckVerdict). x.side) e

      sides : v.side ≤ 1
      sides = by_end (λ v. v.side ≤ 1) (λ r b. omega arith) (λ p w c a. (read_sound p t c a.read).side)

      lower : v.side ≡ 0 → HoldsBelow s v.refusal.number v.bound
      lower z p read h =
          let k = found_at p read h in
          let c = k.certificate in
          let a = k.accepted in
          rw k.verdict (accepted_below p (read_limits s p read) t c a (sym (side_is _ k.verdict) ∙ z))

      upper : v.side ≡ 1 → HoldsAbove s v.refusal.number v.bound
      upper z p read h =
          let k = found_at p read h in
          let c = k.certificate in
          let a = k.accepted in
          rw k.verdict (accepted_above p (read_limits s p read) t c a (sym (side_is _ k.verdict) ∙ z))

  -- ---- the rule
  pub check_rule : RuleUsed s v.refusal.number v.rule
  check_rule =
      by_end (λ v. RuleUsed s v.refusal.number v.rule)
      (λ r b. record { named = λ h. absurd (omega (arith, b.least)); refused = λ _. refl })
      (λ p w c a. record { named = λ _. read_rule s p w.read; refused = λ h. absurd (omega arith) })

  -- ---- the zeros
  pub check_zeros : CheckZeros v
  check_zeros =
      by_end CheckZeros (λ r b. check_refused_lem r (refused_zeros r b.least b.key))
      (λ p w c a. check_accepted_lem c.header (closing p).rounds p.rule)

  -- ---- the same stream under rule 1, or at a larger order: s', where no less is joined
  -- where nothing is refused the problem is within its limits
  pub check_opens : v.refusal.number ≡ 0 → Reads s (Within short s)
  check_opens =
      by_end (λ v. v.refusal.number ≡ 0 → Reads s (Within short s)) (λ r b h. absurd (omega (arith, b.least)))
      (λ p w c a _. record { problem = p; read = w.read; holds = w })

  -- where both problems are within their limits, what is accepted stays accepted
  pub check_stays : (s' : List ℕ) → BothWithin short s s' → v.refusal.number ≡ 0
      → ((check_verdict short s' t).refusal ≡ no_refusal) × SameBound (check_verdict short s' t) v
  check_stays s' b h =
      let p = b.problem in
      let q = b.other in
      let k = found_at p b.first.read h in
      let c = k.certificate in
      let a = accepted_other p q b.more (read_limits s p b.first.read) t c k.accepted in
      let e = check_accepted_by short s' t q c b.second a in (
        ap (λ (x : CheckVerdict). x.refusal) e,
        (ap (λ (x : CheckVerdict). x.side) e ∙ sym (ap (λ (x : CheckVerdict). x.side) k.verdict), ap (λ (x : CheckVerdict). x.bound) e ∙ sym (ap (λ (x : CheckVerdict). x.bound) k.verdict)),
      )

  -- so of every relation R of streams that lead to no less joined
  check_kept : (R : List ℕ → List ℕ → Type 0) → ((s' : List ℕ) → R s s' → AllLead s s') → CheckKept R short s t v
  check_kept R leads s' u h = go (under short s s' (leads s' u) (check_opens h))
    where
      go : Under short s s' → UnlessSeven (check_verdict short s' t).refusal (SameBound (check_verdict short s' t) v)
      go (large q f e l) = inl (ap (λ (x : CheckVerdict). x.refusal) (check_large short s' t q f e l))
      go (both b) = inr (check_stays s' b h)

  -- all of them
  pub check_clauses : NumberedTo 9 v.refusal.number × (AcceptedExactly short s t v × (CheckDiffers short s t v.refusal × (HoldsBySide s v × (RoundsTaken s v.refusal.number v.rounds × (FewRounds s v.refusal.number v.rounds × (RuleUsed s v.refusal.number v.rule × (CheckUnderOne short s t v × (CheckAtLarger short s t v × (CheckZeros v × (SevenExactly short s v.refusal × (CheckSplits short s t v.refusal × CheckAnyOrder short s t v)))))))))))
  check_clauses = (check_numbered, (check_exactly, (check_differs, (check_holds, (check_rounds, (check_few, (check_rule, (check_kept UnderOne (under_leads s), (check_kept AtLarger (larger_leads s), (check_zeros, (check_seven, (check_splits, λ u o. rw is (check_alike short s o)))))))))))))

-- of two certificates for one problem
pub two_zeros : (short : Bool) (s first second : List ℕ) (v : TwoChecks) → v.first ≡ check_verdict short s first
    → v.second ≡ check_verdict short s second → TwoZeros v
two_zeros short s first second v e f =
    record { first = check_zeros short s first v.first e; second = check_zeros short s second v.second f }
