-- The clauses of the pair, from its equation.
use mathlib.Core.Path.{◌≡◌, refl, sym, ap, ◌∙◌}
use mathlib.Core.Bool.{Bool, true, false}
use mathlib.Core.List.{List}
use mathlib.Core.Logic.{◌⊎◌, inl, inr}
use Prim.Native.Nat.{ℕ, ◌≤◌}
use native.Mathlib.Omega.{arith}
use lib.IntN.{ℤ, pos, negsuc}
use lib.Signed.{lt_z}
use borrow.Author.Tests.{eq-eqb, ne_eqb, ltb-true}
use Rattle.counting.proofs.Cases.{clash}
use Rattle.polynomial.specs.Point.{Point}
use Rattle.format.specs.Commands as Stream
use Rattle.format.specs.ProblemRules.{Problem, read_problem}
use Rattle.format.proofs.ProblemRule.{read_rule}
use Rattle.format.proofs.ProblemLimits.{read_limits}
use Rattle.format.specs.CertificateRules.{Certificate}
use Rattle.joining_rule.specs.Joining.{closing}
use Rattle.accepting.specs.Judgement as J
use Rattle.accepting.proofs.Accepted.{judge_splits, judge_differs, accepted_below, accepted_above}
use Rattle.accepting.proofs.Bounds.{bounds_gap}
use Rattle.accepting.proofs.Empty.{below_zero_empty}
use Rattle.accepting.specs.Bounds.{Allowed, WithinGap}
use Rattle.accepting.proofs.Rules.{accepted_other}
use Rattle.calls.specs.declared.PairVerdict.{PairVerdict}
use Rattle.calls.specs.Fractions.{gap_of}
use Rattle.calls.specs.Check.{bound_of}
use Rattle.calls.specs.declared.Refusal.{Refusal}
use Rattle.calls.specs.Refusals.{no_refusal, certificate_refusal}
use Rattle.calls.specs.Outcome.{Outcome, refused, given, ◌then◌, of_judgement, told}
use Rattle.calls.specs.Checks.{certificate_of}
use Rattle.calls.specs.Pair.{refused_pair, accepted_pair, pair_sides, pair_for, pair_verdict}
use Rattle.calls.specs.Promises.{NumberedTo, RoundsTaken, FewRounds, RuleUsed, Reads, DiffersAt, Within, BothHold, Stated, PairExactly, SevenExactly, SplitsAt, SecondSplits, PairSplits, WrongSides, TenExactly, SecondDiffers, PairDiffers, HoldsBelow, HoldsAbove, HoldsGap, NoPoints}
use Rattle.calls.specs.Zeros.{PairZeros}
use Rattle.calls.specs.Rules.{UnderOne, AtLarger, UnlessSeven, SameBounds, PairKept, PairUnderOne, PairAtLarger}
use Rattle.calls.proofs.Promised.{promise_rounds, promise_few}
use Rattle.calls.proofs.Refusing.{reads_at, Seven, seven_exactly}
use Rattle.calls.proofs.Endings.{accepted_given, PairRefused, pair_by_lem, pair_large, pair_decided, pair_accepted_by}
use Rattle.calls.proofs.Zeros.{refused_zeros, pair_refused_lem, pair_accepted_lem}
use Rattle.calls.proofs.Rules.{AllLead, under_leads, larger_leads, BothWithin, Under, large, both, under}

-- a gap below 0 is the distance of no two points
no_point : (p : Problem) (z : ℤ) (y : ℕ) → lt_z z (pos 0) ≡ true → WithinGap p z y → (a : Point) → Allowed p a → ⊥
no_point p (pos x) y e h a g = absurd (omega (arith, ltb-true x 0 e))
no_point p (negsuc n) y e h a g = below_zero_empty p n y h a g

-- two certificates that hold, and the verdict that says so
record Paired (p : Problem) (low high : List ℕ) (v : PairVerdict) : Type 0 where
  first : Certificate
  second : Certificate
  hold : BothHold p low high first second
  verdict : v ≡ accepted_pair first.header second.header (closing p).rounds p.rule

module _ (short : Bool) (s low high : List ℕ) (v : PairVerdict) (is : v ≡ pair_verdict short s low high) where
  by_end : (P : PairVerdict → Type 0) → ((r : Refusal) → PairRefused short s low high r → P (refused_pair r))
      → ((p : Problem) → Within short s p → (c d : Certificate) → BothHold p low high c d
      → P (accepted_pair c.header d.header (closing p).rounds p.rule))
      → P v
  by_end P x y = rw is (pair_by_lem short s low high P x y)

  -- by what became of each certificate
  is_judged : (p : Problem) → Within short s p → (o q : Outcome Certificate) → certificate_of 1 p low ≡ o → certificate_of 2 p high ≡ q
      → v ≡ told refused_pair (o then λ c. q then λ d. pair_sides c.header d.header (closing p).rounds p.rule)
  is_judged p w o q e f = is ∙ pair_decided short s low high p w ∙ rw (e, f)

  number_is : (w : PairVerdict) → v ≡ w → v.refusal.number ≡ w.refusal.number
  number_is w e = ap (λ (x : PairVerdict). x.refusal.number) e

  stream_is : (w : PairVerdict) → v ≡ w → v.refusal.stream ≡ w.refusal.stream
  stream_is w e = ap (λ (x : PairVerdict). x.refusal.stream) e

  empty_is : (w : PairVerdict) → v ≡ w → v.empty ≡ w.empty
  empty_is w e = ap (λ (x : PairVerdict). x.empty) e

  pair_numbered : NumberedTo 10 v.refusal.number
  pair_numbered = by_end (λ v. v.refusal.number ≤ 10) (λ r b. b.most) (λ p w c d b. omega arith)

  -- "stream (0 problem, 1 first certificate, 2 second)"
  pub pair_stream : v.refusal.stream ≤ 2
  pair_stream = by_end (λ v. v.refusal.stream ≤ 2) (λ r b. b.stream) (λ p w c d b. omega arith)

  -- ---- where nothing is refused
  pair_found : v.refusal.number ≡ 0 → Reads s (λ p. Paired p low high v)
  pair_found =
      by_end (λ v. v.refusal.number ≡ 0 → Reads s (λ p. Paired p low high v)) (λ r b h. absurd (omega (arith, b.least)))
      (λ p w c d b _. record { problem = p; read = w.read; holds = record { first = c; second = d; hold = b; verdict = refl } })

  found_at : (p : Problem) → read_problem s ≡ Stream.given p → v.refusal.number ≡ 0 → Paired p low high v
  found_at p r h = reads_at s (λ p. Paired p low high v) (pair_found h) p r

  pub pair_exactly : PairExactly short s low high v
  pair_exactly = record {
    only = λ h.
        let r = pair_found h in
        let k = r.holds in
        record {
          problem = r.problem;
          read = r.read;
          first = k.first;
          second = k.second;
          hold = k.hold;
          lower = ap (λ (x : PairVerdict). x.lower) k.verdict;
          upper = ap (λ (x : PairVerdict). x.upper) k.verdict;
          gap = ap (λ (x : PairVerdict). x.gap) k.verdict;
          empty = empty_is _ k.verdict;
        };
    always = λ p c d w b. number_is _ (is ∙ pair_accepted_by short s low high p c d w b);
  }

  below : HoldsBelow s v.refusal.number v.lower
  below p read h =
      let k = found_at p read h in
      rw k.verdict (accepted_below p (read_limits s p read) low k.first k.hold.first k.hold.lower)

  above : HoldsAbove s v.refusal.number v.upper
  above p read h =
      let k = found_at p read h in
      rw k.verdict (accepted_above p (read_limits s p read) high k.second k.hold.second k.hold.upper)

  -- document 01's gap, whether it is below 0 or not
  within_gap : (p : Problem) → read_problem s ≡ Stream.given p → v.refusal.number ≡ 0 → (k : Paired p low high v)
      → let g = gap_of (bound_of k.first.header) (bound_of k.second.header) in WithinGap p g.num g.den
  within_gap p read h k =
      bounds_gap p _ _ _ _ (rw k.verdict at (below p read h)) (rw k.verdict at (above p read h))

  gap : HoldsGap s v.refusal.number v.empty v.gap
  gap p read h e =
      let k = found_at p read h in
      let z = sym (empty_is _ k.verdict) ∙ e in
      rw (k.verdict, z) (within_gap p read h k)

  -- ---- where the gap is marked as empty
  empty_accepted : v.empty ≡ true → v.refusal.number ≡ 0
  empty_accepted = by_end (λ v. v.empty ≡ true → v.refusal.number ≡ 0) (λ r b t. clash (cc)) (λ p w c d b t. refl)

  empty : NoPoints s v
  empty = record {
    accepted = empty_accepted;
    points = λ t.
        let h = empty_accepted t in
        let r = pair_found h in
        let k = r.holds in
        record {
          problem = r.problem;
          read = r.read;
          holds = no_point r.problem _ _ (sym (empty_is _ k.verdict) ∙ t) (within_gap r.problem r.read h k);
        };
  }

  pair_rounds : RoundsTaken s v.refusal.number v.rounds
  pair_rounds p read h = rw (found_at p read h).verdict (promise_rounds s p read)

  pair_few : FewRounds s v.refusal.number v.rounds
  pair_few p read h = rw (found_at p read h).verdict (promise_few s p read)

  -- ---- refusal 7
  pair_seven : SevenExactly short s v.refusal
  unfolding pair_verdict
  pair_seven =
      rw is (seven_exactly short s refused_pair (λ p. pair_for p low high) (λ w. w.refusal) (λ r. refl)
      (pair_by_lem short s low high (λ v. Seven s v.refusal) (λ r b. b.seven) (λ p w c d b h. absurd (omega arith))))

  -- ---- refusals 8 and 9: of the first certificate, or of the second, after the first was accepted
  first_is : (p : Problem) → Within short s p → {f : Refusal} → certificate_of 1 p low ≡ refused f → v ≡ refused_pair f
  first_is p w e = is_judged p w _ _ e refl

  second_is : (p : Problem) → Within short s p → (c : Certificate) → J.Accepted p low c → {f : Refusal} → certificate_of 2 p high ≡ refused f
      → v ≡ refused_pair f
  second_is p w c a e = is_judged p w _ _ (accepted_given 1 p low c a) e

  told_at : (n i : ℕ) {place key : ℕ} → v ≡ refused_pair (certificate_refusal i n place key) → (v.refusal.number ≡ n) × (v.refusal.stream ≡ i)
  told_at n i e = (number_is _ e, stream_is _ e)

  pair_splits : PairSplits short s low high v.refusal
  pair_splits = record {
    only =
        by_end (λ v.
        v.refusal.number ≡ 8
        → ((v.refusal.stream ≡ 1) × Reads s (λ p. SplitsAt p low v.refusal.place))
        ⊎ ((v.refusal.stream ≡ 2) × Reads s (λ p. SecondSplits p low high v.refusal.place)))
        (λ r b. b.eight) (λ p w c d b h. absurd (omega arith));
    first = λ p c w read fails. told_at 8 1 (first_is p w (ap (of_judgement 1) (judge_splits p low c read fails).refusal));
    second = λ p c d w a read fails. told_at 8 2 (second_is p w c a (ap (of_judgement 2) (judge_splits p high d read fails).refusal));
  }

  pair_differs : PairDiffers short s low high v.refusal
  pair_differs = record {
    only =
        by_end (λ v.
        v.refusal.number ≡ 9
        → ((v.refusal.stream ≡ 1) × Reads s (λ p. DiffersAt p low v.refusal.key))
        ⊎ ((v.refusal.stream ≡ 2) × Reads s (λ p. SecondDiffers p low high v.refusal.key)))
        (λ r b. b.nine) (λ p w c d b h. absurd (omega arith));
    first = λ p c w i.
        let d = judge_differs p low c i.read (read_limits s p w.read) i.blocks i.differs in
        told_at 9 1 (first_is p w (ap (of_judgement 1) d.refusal));
    second = λ p c d w a i.
        let k = judge_differs p high d i.read (read_limits s p w.read) i.blocks i.differs in
        told_at 9 2 (second_is p w c a (ap (of_judgement 2) k.refusal));
  }

  -- ---- refusal 10
  wrong_ten : (p : Problem) (i : ℕ) → Within short s p → WrongSides p low high i → (v.refusal.number ≡ 10) × (v.refusal.stream ≡ i)
  unfolding pair_sides
  wrong_ten p i w b = go b.wrong
    where
      sides : v ≡ told refused_pair (pair_sides b.first.header b.second.header (closing p).rounds p.rule)
      sides =
          is_judged p w _ _ (accepted_given 1 p low b.first b.low_accepted) (accepted_given 2 p high b.second b.high_accepted)

      go : ((i ≡ 1) × (b.first.header.side ≡ 0 → ⊥)) ⊎ ((i ≡ 2) × ((b.first.header.side ≡ 0) × (b.second.header.side ≡ 1 → ⊥)))
          → (v.refusal.number ≡ 10) × (v.refusal.stream ≡ i)
      go (inl x) =
          let e : v ≡ refused_pair (certificate_refusal 1 10 0 0) = sides ∙ rw (pair_sides, ne_eqb b.first.header.side 0 x.1) in
          rw x.0 (told_at 10 1 e)
      go (inr x) =
          let e : v ≡ refused_pair (certificate_refusal 2 10 0 0) =
          sides ∙ rw (pair_sides, eq-eqb b.first.header.side 0 x.1.0, ne_eqb b.second.header.side 1 x.1.1) in
          rw x.0 (told_at 10 2 e)

  pair_ten : TenExactly short s low high v.refusal
  pair_ten = record {
    only =
        by_end (λ v. v.refusal.number ≡ 10 → (v.refusal.place ≡ 0) × Reads s (λ p. WrongSides p low high v.refusal.stream))
        (λ r b. b.ten) (λ p w c d b h. absurd (omega arith));
    always = wrong_ten;
  }

  -- ---- the rule
  pair_rule : RuleUsed s v.refusal.number v.rule
  pair_rule =
      by_end (λ v. RuleUsed s v.refusal.number v.rule)
      (λ r b. record { named = λ h. absurd (omega (arith, b.least)); refused = λ _. refl })
      (λ p w c d b. record { named = λ _. read_rule s p w.read; refused = λ h. absurd (omega arith) })

  -- ---- the zeros
  pub pair_zeros : PairZeros v
  pair_zeros =
      by_end PairZeros (λ r b. pair_refused_lem r (refused_zeros r b.least b.key))
      (λ p w c d b. pair_accepted_lem c.header d.header (closing p).rounds p.rule)

  -- ---- the same stream under rule 1, or at a larger order: s', where no less is joined
  -- where nothing is refused the problem is within its limits
  pub pair_opens : v.refusal.number ≡ 0 → Reads s (Within short s)
  pair_opens =
      by_end (λ v. v.refusal.number ≡ 0 → Reads s (Within short s)) (λ r b h. absurd (omega (arith, b.least)))
      (λ p w c d b _. record { problem = p; read = w.read; holds = w })

  -- a verdict of no refusal has none of its fields
  pub pair_unrefused : v.refusal.number ≡ 0 → v.refusal ≡ no_refusal
  pair_unrefused h = ap (λ (x : PairVerdict). x.refusal) (pair_found h).holds.verdict

  -- where both problems are within their limits, what is accepted stays accepted
  pub pair_stays : (s' : List ℕ) → BothWithin short s s' → v.refusal.number ≡ 0
      → ((pair_verdict short s' low high).refusal ≡ no_refusal) × SameBounds (pair_verdict short s' low high) v
  pair_stays s' b h =
      let p = b.problem in
      let q = b.other in
      let k = found_at p b.first.read h in
      let limits = read_limits s p b.first.read in
      let hold : BothHold q low high k.first k.second =
      record {
        first = accepted_other p q b.more limits low k.first k.hold.first;
        second = accepted_other p q b.more limits high k.second k.hold.second;
        lower = k.hold.lower;
        upper = k.hold.upper;
      } in
      let e = pair_accepted_by short s' low high q k.first k.second b.second hold in (
        ap (λ (x : PairVerdict). x.refusal) e,
        (
          ap (λ (x : PairVerdict). x.lower) e ∙ sym (ap (λ (x : PairVerdict). x.lower) k.verdict),
          (
            ap (λ (x : PairVerdict). x.upper) e ∙ sym (ap (λ (x : PairVerdict). x.upper) k.verdict),
            (ap (λ (x : PairVerdict). x.gap) e ∙ sym (ap (λ (x : PairVerdict). x.gap) k.verdict), ap (λ (x : PairVerdict). x.empty) e ∙ sym (ap (λ (x : PairVerdict). x.empty) k.verdict)),
          ),
        ),
      )

  -- so of every relation R of streams that lead to no less joined
  pair_kept : (R : List ℕ → List ℕ → Type 0) → ((s' : List ℕ) → R s s' → AllLead s s') → PairKept R short s low high v
  pair_kept R leads s' u h = go (under short s s' (leads s' u) (pair_opens h))
    where
      w : PairVerdict
      w = pair_verdict short s' low high

      go : Under short s s' → UnlessSeven w.refusal (SameBounds w v)
      go (large q f e l) = inl (ap (λ (x : PairVerdict). x.refusal) (pair_large short s' low high q f e l))
      go (both b) = inr (pair_stays s' b h)

  -- all of them, and what more is promised
  abbrev pub PairClauses : Type 0 → Type 0
  PairClauses P = NumberedTo 10 v.refusal.number × (PairExactly short s low high v × (PairDiffers short s low high v.refusal × (HoldsBelow s v.refusal.number v.lower × (HoldsAbove s v.refusal.number v.upper × (HoldsGap s v.refusal.number v.empty v.gap × (NoPoints s v × (RoundsTaken s v.refusal.number v.rounds × (FewRounds s v.refusal.number v.rounds × (RuleUsed s v.refusal.number v.rule × (PairUnderOne short s low high v × (PairAtLarger short s low high v × (PairZeros v × (SevenExactly short s v.refusal × (PairSplits short s low high v.refusal × (TenExactly short s low high v.refusal × P)))))))))))))))

  pub pair_clauses_and : {P : Type 0} → P → PairClauses P
  pair_clauses_and more = (pair_numbered, (pair_exactly, (pair_differs, (below, (above, (gap, (empty, (pair_rounds, (pair_few, (pair_rule, (pair_kept UnderOne (under_leads s), (pair_kept AtLarger (larger_leads s), (pair_zeros, (pair_seven, (pair_splits, (pair_ten, more))))))))))))))))

  pub pair_clauses : PairClauses (Unit {0})
  pair_clauses = pair_clauses_and tt
