-- What the report promises, from its equations: each clause of the contract.
use native.Mathlib.Omega.{arith}
use mathlib.Core.Path.{◌≡◌, refl, sym, ap, ◌∙◌}
use mathlib.Core.Bool.{Bool, true, false, cond, ◌||◌}
use mathlib.Core.List.{List, [], ◌∷◌, ◌++◌, append-nil, append_assoc, flat_map}
use mathlib.Core.Logic.{◌⊎◌, inl, inr, ⊎_elim}
use Prim.Native.Nat.{ℕ, zero, suc, ◌+◌, ◌*◌, ◌≤◌, ◌<◌}
use lib.Dec.{ltb, eqb}
use lib.ListN.{length, get_or, drop}
use lib.Seq.{drop_at}
use borrow.Author.Tests.{ltb-true, ltb-false, eqb-true, eqb-false}
use Rattle.counting.specs.Counting.{Bounded}
use Rattle.format.specs.All.{All}
use Rattle.format.proofs.All.{all_map}
use Rattle.format.proofs.ProblemLimits.{all_more}
use Rattle.accepting.proofs.Reach.{all_both}
use Rattle.format.specs.Commands.{Outcome, refused, given}
use Rattle.format.proofs.CertificateLimits.{read_sound}
use Rattle.calls.specs.Fractions.{is_less}
use Rattle.calls.specs.declared.Fraction.{Fraction}
use Rattle.calls.specs.declared.Refusal.{Refusal}
use Rattle.calls.specs.declared.PairVerdict.{PairVerdict}
use Rattle.calls.specs.declared.ReportVerdict.{ReportVerdict}
use Rattle.calls.specs.Refusals.{no_refusal, problem_refusal}
use Rattle.calls.specs.Pair.{pair_verdict}
use Rattle.calls.specs.Rules.{UnderOne, AtLarger}
use Rattle.calls.specs.Zeros.{ReportZeros}
use Rattle.calls.specs.Promises.{Stated, HoldsBelow, HoldsAbove}
use Rattle.calls.specs.Report.{Runs, records_of, pair_on}
use Rattle.calls.specs.Report.{fields_of, record_length, with_room, checked_records, entry, output_left, none_accepted}
use Rattle.calls.specs.Report.{with_accepted, with_verdict, result_of, report_verdict}
use Rattle.calls.specs.Report.{ReportNumbered, no_runs, EachRecord, EachTold, OutputKept}
use Rattle.calls.specs.Report.{WithinBounds, record_bytes, with_problem, EachZeros, EachKept}
use Rattle.calls.specs.Report.{OfAccepted, First, accepted_count, Summary, Summarised}
use Rattle.calls.proofs.FractionOrder.{one_way, not_itself, less_at_most, more_at_least}
use Rattle.calls.proofs.FractionOrder.{bounded_below, bounded_above}
use Rattle.calls.specs.RowOrder.{ReportAnyOrder}
use Rattle.calls.proofs.AnyOrder.{report_any_order}
use Rattle.calls.proofs.Zeros.{none_zeros, problem_zeros, zero_fraction}
use Rattle.calls.proofs.Rules.{AllLead, under_leads, larger_leads}
use Rattle.calls.proofs.Pairing.{pair_clauses, pair_unrefused}
use Rattle.calls.proofs.Stays.{Stays, seven, stay, pair_all}
use Rattle.calls.proofs.Pieces.{pieces_length, piece_at}
use Rattle.calls.proofs.Records.{records_twelve}
use Rattle.calls.proofs.Told.{each_told, each_zeros}

-- ---- an accepted pair: its bounds are stated by certificates, so their denominators are at least 1, and they hold
abbrev pub Accepted : Runs → Type 0
Accepted r = (pair_on r).refusal.number ≡ 0

module _ (r : Runs) where
  pub stated : Accepted r → Stated r.problem r.low r.high (pair_on r)
  unfolding pair_on
  stated a = (pair_clauses false r.problem r.low r.high (pair_on r) refl).1.0.only a

  pub lower_positive : Accepted r → 0 < (pair_on r).lower.den
  lower_positive a =
      let s = stated a in
      rw s.lower (omega (arith, (read_sound s.problem r.low s.first s.hold.first.read).q))

  pub upper_positive : Accepted r → 0 < (pair_on r).upper.den
  upper_positive a =
      let s = stated a in
      rw s.upper (omega (arith, (read_sound s.problem r.high s.second s.hold.second.read).q))

  holds_below : HoldsBelow r.problem (pair_on r).refusal.number (pair_on r).lower
  unfolding pair_on
  holds_below = (pair_clauses false r.problem r.low r.high (pair_on r) refl).1.1.1.0

  holds_above : HoldsAbove r.problem (pair_on r).refusal.number (pair_on r).upper
  unfolding pair_on
  holds_above = (pair_clauses false r.problem r.low r.high (pair_on r) refl).1.1.1.1.0

-- ---- the first of the best, with one record more
-- what the proof needs of an order: by `is_less` and by its reverse
record Order (before : Fraction → Fraction → Bool) : Type 0 where
  own : (x : Fraction) → before x x ≡ false
  once : (x y : Fraction) → before x y ≡ true → before y x ≡ false
  through : (x y z : Fraction) → 0 < z.den → before x y ≡ true → before z y ≡ false → before x z ≡ true

smaller : Order is_less
smaller = record { own = not_itself; once = one_way; through = less_at_most }

larger : Order (λ x y. is_less y x)
larger = record { own = not_itself; once = λ x y. one_way y x; through = more_at_least }

abbrev pub NoneAccepted : List Runs → Type 0
NoneAccepted l = OfAccepted (λ v. ⊥) l

module _ (bound : PairVerdict → Fraction) (before : Fraction → Fraction → Bool) (o : Order before)
    (positive : (r : Runs) → Accepted r → 0 < (bound (pair_on r)).den) (l : List Runs) (r : Runs) where
  abbrev next : Fraction
  next = bound (pair_on r)

  abbrev more : List Runs
  more = l ++ (r ∷ [])

  -- it is the first
  first_alone : NoneAccepted l → Accepted r → First bound before more next
  first_alone n a = record {
    earlier = l;
    runs = r;
    later = [];
    all = refl;
    accepted = a;
    is = refl;
    best = all_more _ l r (all_map _ _ (λ q h b. absurd (h b)) l n) (λ b. o.own next);
    first = all_map _ _ (λ q h b. absurd (h b)) l n;
  }

  module _ (x : Fraction) (f : First bound before l x) where
    -- it goes before the one that stands, so before all
    first_new : Accepted r → before next x ≡ true → First bound before more next
    first_new a e = record {
      earlier = l;
      runs = r;
      later = [];
      all = refl;
      accepted = a;
      is = refl;
      best = all_more _ l r (all_map _ _ (λ q h b. o.once next _ (ahead q h b)) l f.best) (λ b. o.own next);
      first = all_map _ _ ahead l f.best;
    }
      where
        ahead : (q : Runs) → (Accepted q → before (bound (pair_on q)) x ≡ false) → Accepted q
            → before next (bound (pair_on q)) ≡ true
        ahead q h b = o.through next x (bound (pair_on q)) (positive q b) e (h b)

    -- it does not
    first_stays : (Accepted r → before next x ≡ false) → First bound before more x
    first_stays e = record {
      earlier = f.earlier;
      runs = f.runs;
      later = f.later ++ (r ∷ []);
      all = ap (λ (k : List Runs). k ++ (r ∷ [])) f.all ∙ append_assoc f.earlier (f.runs ∷ f.later) (r ∷ []);
      accepted = f.accepted;
      is = f.is;
      best = all_more _ l r f.best e;
      first = f.first;
    }

  chosen : (n : ℕ) (x : Fraction) → (n ≡ 0 → NoneAccepted l) → (0 < n → First bound before l x) → Accepted r
      → First bound before more (cond (eqb n 0 || before next x) next x)
  chosen n x h f a = go (eqb n 0) refl (before next x) refl
    where
      go : (t : Bool) → eqb n 0 ≡ t → (d : Bool) → before next x ≡ d
          → First bound before more (cond (t || d) next x)
      go true e d k = first_alone (h (eqb-true n 0 e)) a
      go false e true k = let z = eqb-false n 0 e in first_new x (f (omega arith)) a k
      go false e false k = let z = eqb-false n 0 e in first_stays x (f (omega arith)) (λ b. k)

-- ---- the summary, with one record more
count_more : (l : List Runs) (r : Runs)
    → accepted_count (l ++ (r ∷ [])) ≡ accepted_count l + cond (ltb 0 (pair_on r).refusal.number) 0 1
count_more [] r = omega arith
count_more (q ∷ l) r = omega (arith, count_more l r)

not_counted : (q : Runs) (n : ℕ) → cond (ltb 0 (pair_on q).refusal.number) 0 1 + n ≡ 0 → (Accepted q → ⊥) × (n ≡ 0)
not_counted q n e = go (ltb 0 (pair_on q).refusal.number) refl e
  where
    go : (b : Bool) → ltb 0 (pair_on q).refusal.number ≡ b → cond b 0 1 + n ≡ 0 → (Accepted q → ⊥) × (n ≡ 0)
    go true t e = let h = ltb-true 0 (pair_on q).refusal.number t in (λ a. absurd (omega arith), omega arith)
    go false t e = absurd (omega arith)

pub none_counted : (l : List Runs) → accepted_count l ≡ 0 → NoneAccepted l
unfolding All
none_counted [] e = tt
none_counted (q ∷ l) e = let h = not_counted q (accepted_count l) e in (h.0, none_counted l h.1)

module _ (t : ReportVerdict) (l : List Runs) (r : Runs) (s : Summary t l) where
  nothing_before : t.accepted ≡ 0 → NoneAccepted l
  nothing_before e = none_counted l (sym s.accepted ∙ e)

  refused_more : ltb 0 (pair_on r).refusal.number ≡ true → Summary t (l ++ (r ∷ []))
  refused_more e =
      let h = ltb-true 0 (pair_on r).refusal.number e in
      record {
        accepted = s.accepted ∙ sym (count_more l r ∙ rw e (omega arith));
        nothing = s.nothing;
        lower = λ k. first_stays _ _ smaller lower_positive l r _ (s.lower k) (λ a. absurd (omega arith));
        upper = λ k. first_stays _ _ larger upper_positive l r _ (s.upper k) (λ a. absurd (omega arith));
      }

  accepted_more : ltb 0 (pair_on r).refusal.number ≡ false → Summary (with_accepted t (pair_on r)) (l ++ (r ∷ []))
  accepted_more e =
      let h = ltb-false 0 (pair_on r).refusal.number e in
      let a : Accepted r = omega arith in
      record {
        accepted = ap (λ (n : ℕ). n + 1) s.accepted ∙ sym (count_more l r ∙ rw e refl);
        nothing = λ k. absurd (omega arith);
        lower = λ k. chosen _ _ smaller lower_positive l r t.accepted t.lower nothing_before s.lower a;
        upper = λ k. chosen _ _ larger upper_positive l r t.accepted t.upper nothing_before s.upper a;
      }

  summary_more : Summary (with_verdict t (pair_on r)) (l ++ (r ∷ []))
  unfolding with_verdict
  summary_more = go (ltb 0 (pair_on r).refusal.number) refl
    where
      go : (b : Bool) → ltb 0 (pair_on r).refusal.number ≡ b
          → Summary (cond b t (with_accepted t (pair_on r))) (l ++ (r ∷ []))
      go true e = refused_more e
      go false e = accepted_more e

-- the records in l come after those in done
summary_of : (t : ReportVerdict) (done l : List Runs) → Summary t done → Summary (result_of t l) (done ++ l)
unfolding result_of
summary_of t done [] s = rw append-nil s
summary_of t done (r ∷ l) s =
    rw (append_assoc done (r ∷ []) l) at (summary_of (with_verdict t (pair_on r)) (done ++ (r ∷ [])) l (summary_more t done r s))

pub summary : (l : List Runs) → Summary (result_of none_accepted l) l
summary l =
    summary_of none_accepted [] l
    (record { accepted = refl; nothing = λ e. (refl, refl); lower = λ h. absurd (omega arith); upper = λ h. absurd (omega arith) })

verdict_refusal : (t : ReportVerdict) (v : PairVerdict) → t.refusal ≡ no_refusal → (with_verdict t v).refusal ≡ no_refusal
unfolding with_verdict
verdict_refusal t v e = go (ltb 0 v.refusal.number)
  where
    go : (b : Bool) → (cond b t (with_accepted t v)).refusal ≡ no_refusal
    go true = e
    go false = refl

pub result_refusal : (t : ReportVerdict) (l : List Runs) → t.refusal ≡ no_refusal → (result_of t l).refusal ≡ no_refusal
unfolding result_of
result_refusal t [] e = e
result_refusal t (r ∷ l) e = result_refusal (with_verdict t (pair_on r)) l (verdict_refusal t (pair_on r) e)

-- ---- every accepted objective is within the two bounds
module _ (l : List Runs) where
  abbrev result : ReportVerdict
  result = result_of none_accepted l

  within_below : (f : First (λ w. w.lower) is_less l result.lower)
      → All (λ r. HoldsBelow r.problem (pair_on r).refusal.number result.lower) l
  within_below f =
      all_map _ _ (λ r b p read a.
      bounded_below p (pair_on r).lower result.lower (lower_positive r a) (holds_below r p read a) (b a)) l f.best

  within_above : (f : First (λ w. w.upper) (λ x y. is_less y x) l result.upper)
      → All (λ r. HoldsAbove r.problem (pair_on r).refusal.number result.upper) l
  within_above f =
      all_map _ _ (λ r b p read a.
      bounded_above p (pair_on r).upper result.upper (upper_positive r a) (holds_above r p read a) (b a)) l f.best

  within : All (λ r.
      HoldsBelow r.problem (pair_on r).refusal.number result.lower
      × HoldsAbove r.problem (pair_on r).refusal.number result.upper) l
  within = go result.accepted refl
    where
      go : (n : ℕ) → result.accepted ≡ n → All (λ r.
          HoldsBelow r.problem (pair_on r).refusal.number result.lower
          × HoldsAbove r.problem (pair_on r).refusal.number result.upper) l
      go zero e =
          all_map _ _ (λ r h. (λ p read a. absurd (h a), λ p read a. absurd (h a))) l
          (none_counted l (sym (summary l).accepted ∙ e))
      go (suc n) e =
          all_both _ _ _ (λ r b a. (b, a)) l (within_below ((summary l).lower (omega arith)))
          (within_above ((summary l).upper (omega arith)))

-- ---- how the checks before any record's own end
data Checked (s out : List ℕ) : Outcome (List Runs) → Type 0 where
  stopped : (n place : ℕ) → (n ≡ 1) ⊎ (n ≡ 12) → Checked s out (refused n place)
  passed : (l : List Runs) → records_of s ≡ given l → record_length * length l ≤ length out → Checked s out (given l)

checked : (short : Bool) (s out : List ℕ) → Checked s out (checked_records short s out)
unfolding checked_records records_of
checked short s out = go short (records_of s) refl
  where
    by_room : (l : List Runs) → records_of s ≡ given l → (b : Bool) → ltb (length out) (record_length * length l) ≡ b
        → Checked s out (cond b (refused 1 0) (given l))
    by_room l e true r = stopped 1 0 (inl refl)
    by_room l e false r = passed l e (ltb-false (length out) (record_length * length l) r)

    go : (b : Bool) (o : Outcome (List Runs)) → records_of s ≡ o → Checked s out (cond b (refused 1 0) (with_room out o))
    go true o e = stopped 1 0 (inl refl)
    go false (refused n place) e = stopped n place (inr (records_twelve 64 s 0 n place e))
    go false (given l) e = by_room l e (ltb (length out) (record_length * length l)) refl

-- ---- a record under rule 1, or at a larger order
-- the bytes are told by the refusal and the bounds
same_bytes : (w v : PairVerdict) → w.refusal ≡ v.refusal → w.lower ≡ v.lower → w.upper ≡ v.upper
    → record_bytes w ≡ record_bytes v
unfolding fields_of
same_bytes w v e f g = rw (e, f, g)

pub record_kept : (r : Runs) (t : List ℕ) → AllLead r.problem t → Accepted r
    → ((pair_on (with_problem t r)).refusal ≡ problem_refusal 7 0)
    ⊎ (((pair_on (with_problem t r)).refusal ≡ no_refusal)
    × (record_bytes (pair_on (with_problem t r)) ≡ record_bytes (pair_on r)))
unfolding pair_on
record_kept r t leads a = go (pair_all false r.problem t leads r.low r.high a)
  where
    go : Stays false r.problem t
        → ((pair_verdict false t r.low r.high).refusal ≡ problem_refusal 7 0)
        ⊎ (((pair_verdict false t r.low r.high).refusal ≡ no_refusal)
        × (record_bytes (pair_verdict false t r.low r.high) ≡ record_bytes (pair_verdict false r.problem r.low r.high)))
    go (seven k) = inl (ap (λ (v : PairVerdict). v.refusal) (k.pair r.low r.high))
    go (stay k) =
        let e = k.pair r.low r.high a in
        let f = pair_unrefused false r.problem r.low r.high _ refl a in
        inr (e.0, same_bytes _ _ (e.0 ∙ sym f) e.1.0 e.1.1.0)

-- ---- the clauses
pub entry_length : (r : Runs) → length (entry r) ≡ record_length
unfolding fields_of flat_map
entry_length r = refl

module _ (s out : List ℕ) where
  numbered : (o : Outcome (List Runs)) → Checked s out o → ReportNumbered (report_verdict o).refusal.number
  unfolding report_verdict
  numbered o (stopped n place e) = inr e
  numbered o (passed l e h) = inl (ap (λ (r : Refusal). r.number) (result_refusal none_accepted l refl))

  -- where nothing is refused the records are those of the input
  reported : (o : Outcome (List Runs)) → Checked s out o → (l : List Runs) → records_of s ≡ given l
      → (report_verdict o).refusal.number ≡ 0 → o ≡ given l
  unfolding report_verdict
  reported o (stopped n place (inl e)) l r h = absurd (omega arith)
  reported o (stopped n place (inr e)) l r h = absurd (omega arith)
  reported o (passed k e h) l r z = sym e ∙ r

  kept : (o : Outcome (List Runs)) → Checked s out o → 0 < (report_verdict o).refusal.number → output_left o out ≡ out
  unfolding report_verdict output_left
  kept o (stopped n place e) h = refl
  kept o (passed l e r) h =
      absurd (let z = ap (λ (r : Refusal). r.number) (result_refusal none_accepted l refl) in omega arith)

module _ (short : Bool) (s out : List ℕ) where
  abbrev outcome : Outcome (List Runs)
  outcome = checked_records short s out

  abbrev number : ℕ
  number = (report_verdict outcome).refusal.number

  is : (l : List Runs) → records_of s ≡ given l → number ≡ 0 → outcome ≡ given l
  is = reported s out outcome (checked short s out)

  clause_each : EachRecord s number (output_left outcome out)
  unfolding output_left
  clause_each l r z i h =
      rw (is l r z) (piece_at entry record_length entry_length l i no_runs (drop (record_length * length l) out) h)

  clause_kept : OutputKept s number out (output_left outcome out)
  unfolding output_left
  clause_kept = record {
    refused = kept s out outcome (checked short s out);
    past = λ l r z.
        rw (is l r z)
        (drop_at (flat_map entry l) (drop (record_length * length l) out) (record_length * length l)
        (pieces_length entry record_length entry_length l));
  }

  clause_within : WithinBounds s (report_verdict outcome)
  unfolding report_verdict
  clause_within l r z = rw (is l r z) (within l)

  clause_summary : Summarised s (report_verdict outcome)
  unfolding report_verdict
  clause_summary l r z = rw (is l r z) (summary l)

  clause_zeros : ReportZeros (report_verdict outcome)
  unfolding report_verdict
  clause_zeros = go outcome (checked short s out)
    where
      go : (o : Outcome (List Runs)) → Checked s out o → ReportZeros (report_verdict o)
      go o (stopped n place e) = record {
        refusal = problem_zeros n place (⊎_elim (λ z. omega arith) (λ z. omega arith) e);
        accepted = λ _. refl;
        lower = λ _. zero_fraction;
        upper = λ _. zero_fraction;
      }
      go o (passed l e h) = without (result_of none_accepted l) (result_refusal none_accepted l refl)
        where
          without : (v : ReportVerdict) → v.refusal ≡ no_refusal → ReportZeros v
          without v z = record {
            refusal = rw z none_zeros;
            accepted = λ h. absurd (omega (arith, ap (λ (r : Refusal). r.number) z));
            lower = λ h. absurd (omega (arith, ap (λ (r : Refusal). r.number) z));
            upper = λ h. absurd (omega (arith, ap (λ (r : Refusal). r.number) z));
          }

  -- ---- under rule 1, or at a larger order
  clause_kept_under : (R : List ℕ → List ℕ → Type 0) → ((p t : List ℕ) → R p t → AllLead p t)
      → EachKept R s number (output_left outcome out)
  clause_kept_under R leads l r z i h t u a =
      ⊎_elim (λ e. inl e) (λ e. inr (e.1 ∙ sym (clause_each l r z i h)))
      (record_kept (get_or l i no_runs) t (leads _ t u) a)

  -- all of them, of a verdict and an output that are the definitions'
  abbrev pub ReportClauses : ReportVerdict → List ℕ → Type 0
  ReportClauses v left =
      ReportNumbered v.refusal.number
      × (EachRecord s v.refusal.number left
      × (EachTold s v.refusal.number left
      × (OutputKept s v.refusal.number out left
      × (WithinBounds s v
      × (Summarised s v
      × (ReportZeros v
      × (EachZeros s v.refusal.number left
      × (EachKept UnderOne s v.refusal.number left
      × (EachKept AtLarger s v.refusal.number left × ReportAnyOrder short s out v)))))))))

  pub report_clauses : (v : ReportVerdict) (left : List ℕ) → v ≡ report_verdict outcome → left ≡ output_left outcome out
      → Bounded 255 s → ReportClauses v left
  report_clauses v left e f bytes =
      rw (e, f) (
        numbered s out outcome (checked short s out),
        (
          clause_each,
          (
            each_told s bytes _ _ clause_each,
            (
              clause_kept,
              (
                clause_within,
                (
                  clause_summary,
                  (
                    clause_zeros,
                    (
                      each_zeros s _ _ (each_told s bytes _ _ clause_each),
                      (
                        clause_kept_under UnderOne under_leads,
                        (clause_kept_under AtLarger larger_leads, report_any_order short s out (report_verdict outcome) refl),
                      ),
                    ),
                  ),
                ),
              ),
            ),
          ),
        ),
      )
