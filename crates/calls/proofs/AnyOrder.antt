-- The clauses on the order of rows, call by call, from the law of the check and of the pair.
use mathlib.Core.Path.{◌≡◌, refl, sym, ap, ◌∙◌}
use mathlib.Core.Bool.{Bool, true, false, cond, ◌&&◌}
use mathlib.Core.List.{List, [], ◌∷◌}
use mathlib.Core.Logic.{◌⊎◌, inl, inr, ⊎_elim}
use Prim.Native.Nat.{ℕ, ◌*◌, ◌≤◌, ◌<◌}
use native.Mathlib.Omega.{arith}
use lib.Dec.{eqb, ltb}
use lib.ListN.{length}
use borrow.Author.Tests.{eq-eqb, ne_eqb, eqb-true, ltb-false, lt-ltb}
use Rattle.counting.proofs.Cases.{clash}
use Rattle.counting.proofs.Listed.{same_or_not}
use Rattle.format.specs.Commands.{Outcome, refused, given}
use Rattle.format.specs.ProblemRules.{Problem, read_problem}
use Rattle.format.specs.Notes.{note_text, without_notes}
use Rattle.calls.specs.Refusals.{no_refusal}
use Rattle.calls.specs.Check.{check_verdict}
use Rattle.calls.specs.Pair.{pair_verdict}
use Rattle.calls.specs.Superseding.{is_accepted, tighter_of, comes_back, none_back, superseding_of, part_of, superseding_verdict}
use Rattle.calls.specs.Report.{Runs, pair_on, record_length, with_room, records_of, checked_records, with_verdict, with_accepted, none_accepted, result_of, report_verdict}
use Rattle.calls.specs.AddedBounds.{Streams, sum_second, sum_pairs, sum_verdict, same_region_read}
use Rattle.calls.specs.Adjusted.{adjusted_checked, adjusted_verdict}
use Rattle.calls.specs.Office.{note_count, refused_notes, verdict_sent, office_of, office_verdict}
use Rattle.calls.specs.declared.Refusal.{Refusal}
use Rattle.calls.specs.declared.CheckVerdict.{CheckVerdict}
use Rattle.calls.specs.declared.Chosen.TheVariants as Chosen
use Rattle.calls.specs.declared.PairVerdict.{PairVerdict}
use Rattle.calls.specs.declared.SupersedingVerdict.{SupersedingVerdict}
use Rattle.calls.specs.declared.SumVerdict.{SumVerdict}
use Rattle.calls.specs.declared.AdjustedVerdict.{AdjustedVerdict}
use Rattle.calls.specs.declared.OfficeVerdict.{OfficeVerdict}
use Rattle.calls.specs.declared.ReportVerdict.{ReportVerdict}
use Rattle.calls.specs.RowOrder.{Rearranged, Alike, check_number, pair_number, superseding_number, office_number, sum_number, adjusted_number}
use Rattle.calls.specs.RowOrder.{CheckAnyOrder, PairAnyOrder, SameBack, SupersedingAnyOrder, RecordsRearranged, none, more, ReportAnyOrder, OfficeAnyOrder, StreamsRearranged, SumAnyOrder, AdjustedAnyOrder}
use Rattle.calls.proofs.RowOrder.{alike_same, alike_then, alike_told, alike_number, rearranged_back, check_alike, pair_alike}
use Rattle.calls.proofs.Checking.{check_found}
use Rattle.calls.proofs.Office.{sent_number, sent_other, office_refused_lem}

-- ---- the check and the pair
pub check_any_order : (short : Bool) (s t : List ℕ) (v : CheckVerdict) → v ≡ check_verdict short s t
    → CheckAnyOrder short s t v
check_any_order short s t v e u o = rw e (check_alike short s o)

pub pair_any_order : (short : Bool) (s low high : List ℕ) (v : PairVerdict) → v ≡ pair_verdict short s low high
    → PairAnyOrder short s low high v
pair_any_order short s low high v e low' high' o u = rw e (pair_alike short s o u)

-- ---- request 02
module _ {a a' b b' : CheckVerdict} (o : Alike check_number a a') (u : Alike check_number b b') where
  -- a refusal of one certificate stays one
  refused_other : {v w : CheckVerdict} → Alike check_number v w → (check_number v ≡ 0 → ⊥) → is_accepted w ≡ false
  refused_other q n = ne_eqb _ _ (λ h. n ((alike_number check_number q).1 h))

  superseding_of_lem : superseding_number (superseding_of a b) ≡ 0 → superseding_of a' b' ≡ superseding_of a b
  unfolding superseding_of
  superseding_of_lem h = ⊎_elim first_in first_out (same_or_not (check_number a) 0)
    where
      first_in : check_number a ≡ 0 → superseding_of a' b' ≡ superseding_of a b
      first_in z =
          let e = o.accepted z in
          ⊎_elim
          (λ y. ap (λ x. superseding_of x b') e ∙ ap (superseding_of a) (u.accepted y))
          (λ y. ap (λ x. superseding_of x b') e ∙ rw (eq-eqb (check_number a) 0 z, ne_eqb (check_number b) 0 y, refused_other u y))
          (same_or_not (check_number b) 0)

      first_out : (check_number a ≡ 0 → ⊥) → superseding_of a' b' ≡ superseding_of a b
      first_out n =
          ⊎_elim
          (λ y. ap (superseding_of a') (u.accepted y) ∙ rw (ne_eqb (check_number a) 0 n, refused_other o n, eq-eqb (check_number b) 0 y))
          (λ y. absurd (n (rw (ne_eqb (check_number a) 0 n, ne_eqb (check_number b) 0 y) at h)))
          (same_or_not (check_number b) 0)

alike_back : {A : Type 0} {number : A → ℕ} {v w : A} → Alike number v w → Alike number w v
alike_back a = record { accepted = a.back; back = a.accepted }

module _ (short : Bool) (s : List ℕ) where
  pub superseding_alike : {first first' second second' : List ℕ} → Rearranged first first' → Rearranged second second'
      → Alike superseding_number (superseding_verdict short s first second) (superseding_verdict short s first' second')
  unfolding superseding_verdict
  superseding_alike o u =
      let a = check_alike short s o in
      let b = check_alike short s u in
      record { accepted = superseding_of_lem a b; back = superseding_of_lem (alike_back a) (alike_back b) }

  -- f is the refusal that is returned, and part what comes back
  pub superseding_any_order : (first second part : List ℕ) (f : Refusal) → f
      ≡ (superseding_verdict short s first second).refusal
      → part ≡ part_of (superseding_verdict short s first second).chosen first second
      → SupersedingAnyOrder short s first second part f
  superseding_any_order first second part f e g first' second' o u =
      let a = superseding_alike o u in
      let n = ap (λ (x : Refusal). x.number) e in
      record {
        accepted = λ h.
            let z = sym n ∙ h in
            let q = a.accepted z in
            (ap superseding_number q ∙ z, g ∙ ap (λ (x : SupersedingVerdict). part_of x.chosen first second) (sym q));
        back = λ h. n ∙ (alike_number superseding_number a).1 h;
      }

  -- ---- request 13
  adjusted_only : (changes : List ℕ) (v : CheckVerdict) → adjusted_number (adjusted_checked s v changes) ≡ 0
      → check_number v ≡ 0
  unfolding adjusted_checked
  adjusted_only changes v h = ⊎_elim (λ z. z) (λ n. absurd (n (rw (ne_eqb (check_number v) 0 n) at h))) (same_or_not (check_number v) 0)

  pub adjusted_any_order : (t changes : List ℕ) (v : AdjustedVerdict) → v ≡ adjusted_verdict short s t changes
      → AdjustedAnyOrder short s t changes v
  unfolding adjusted_verdict
  adjusted_any_order t changes v e u o =
      rw e (alike_told check_number (λ w. adjusted_checked s w changes) adjusted_number (adjusted_only changes) (check_alike short s o))

-- ---- request 12
module _ (same : Bool) where
  sum_first : (w v : PairVerdict) → sum_number (sum_pairs same v w) ≡ 0 → pair_number v ≡ 0
  unfolding sum_pairs
  sum_first w v h = ⊎_elim (λ z. z) (λ n. absurd (n (rw (ne_eqb (pair_number v) 0 n) at h))) (same_or_not (pair_number v) 0)

  sum_second_lem : (v w : PairVerdict) → sum_number (sum_pairs same v w) ≡ 0 → pair_number w ≡ 0
  unfolding sum_pairs sum_second
  sum_second_lem v w h =
      let z = sum_first w v h in
      ⊎_elim (λ y. y) (λ n. absurd (n (rw (eq-eqb (pair_number v) 0 z, ne_eqb (pair_number w) 0 n) at h))) (same_or_not (pair_number w) 0)

pub sum_any_order : (short : Bool) (a b : Streams) (v : SumVerdict) → v ≡ sum_verdict short a b → SumAnyOrder short a b v
unfolding sum_verdict
sum_any_order short a b v e a' b' o u =
    let same = same_region_read (read_problem a.problem) (read_problem b.problem) in
    let first = pair_alike short a.problem o.low o.high in
    let second = pair_alike short b.problem u.low u.high in
    rw (e, o.problem, u.problem)
    (alike_then sum_number
    (alike_told pair_number (λ x. sum_pairs same x (pair_verdict short b.problem b.low b.high)) sum_number (sum_first same _) first)
    (alike_told pair_number (sum_pairs same (pair_verdict short a.problem a'.low a'.high)) sum_number (sum_second_lem same _) second))

-- ---- request 07
-- a record counts in both or in neither
counted_alike : (t : ReportVerdict) (v w : PairVerdict) → Alike pair_number v w → with_verdict t w ≡ with_verdict t v
unfolding with_verdict
counted_alike t v w a =
    ⊎_elim
    (λ z. ap (with_verdict t) (a.accepted z))
    (λ n.
    let m : pair_number w ≡ 0 → ⊥ = (λ h. n ((alike_number pair_number a).1 h)) in
    rw (lt-ltb 0 (pair_number v) (omega arith), lt-ltb 0 (pair_number w) (omega arith)))
    (same_or_not (pair_number v) 0)

records_length : {l l' : List Runs} → RecordsRearranged l l' → length l' ≡ length l
records_length none = refl
records_length (more e o u q) = rw (records_length q)

result_alike : {l l' : List Runs} → RecordsRearranged l l' → (t : ReportVerdict) → result_of t l' ≡ result_of t l
unfolding result_of pair_on
result_alike none t = refl
result_alike (more {r = r} {r' = r'} {l = l} e o u q) t =
    result_alike q (with_verdict t (pair_on r'))
    ∙ ap (λ x. result_of x l)
    (counted_alike t (pair_on r) (pair_on r') (rw e (pair_alike false r.problem o u)))

pub report_any_order : (short : Bool) (s out : List ℕ) (v : ReportVerdict) → v
    ≡ report_verdict (checked_records short s out)
    → ReportAnyOrder short s out v
unfolding checked_records report_verdict
report_any_order short s out v e s' l l' given-s given-s' q =
    sym (e ∙ rw (given-s, given-s', records_length q) (go short (ltb (length out) (record_length * length l))))
  where
    go : (b c : Bool) → report_verdict (cond b (refused 1 0) (cond c (refused 1 0) (given l)))
        ≡ report_verdict (cond b (refused 1 0) (cond c (refused 1 0) (given l')))
    go true c = refl
    go false true = refl
    go false false = sym (result_alike q none_accepted)

-- ---- request 10
office_only : (t : List ℕ) (room : ℕ) (v : CheckVerdict) → office_number (office_of t room v) ≡ 0 → check_number v ≡ 0
unfolding verdict_sent
office_only t room v h =
    ⊎_elim (λ z. z)
    (λ n. absurd (n (sym (sent_number t v.refusal) ∙ ap office_number (sym (office_refused_lem t room v n)) ∙ h)))
    (same_or_not (check_number v) 0)

module _ (short : Bool) (s : List ℕ) (room : ℕ) where
  -- what is told of an accepted certificate depends on the number of notes alone
  told_same : (t u c : List ℕ) → note_count u ≡ note_count t → check_number (check_verdict short s c) ≡ 0
      → office_of u room (check_verdict short s c) ≡ office_of t room (check_verdict short s c)
  unfolding office_of
  told_same t u c n h =
      let w = check_verdict short s c in
      let r = check_found short s c w refl h in
      let e = ap (λ (x : CheckVerdict). x.refusal.stream) r.holds.verdict in
      let m : w.refusal.stream ≡ 1 → ⊥ = (λ z. omega arith) in
      rw (sent_other t w m, sent_other u w m, n)

  office_order : (t u : List ℕ) → Rearranged (without_notes t) (without_notes u) → note_count u ≡ note_count t
      → office_number (office_verdict short s t room) ≡ 0 → office_verdict short s u room ≡ office_verdict short s t room
  unfolding office_verdict
  office_order t u o n h =
      let z = office_only t room (check_verdict short s (without_notes t)) h in
      ap (office_of u room) ((check_alike short s o).accepted z) ∙ told_same t u (without_notes t) n z

  pub office_any_order : (t : List ℕ) (v : OfficeVerdict) → v ≡ office_verdict short s t room
      → OfficeAnyOrder short s t room v
  office_any_order t v e u o n =
      rw e (record { accepted = office_order t u o n; back = office_order u t (rearranged_back o) (sym n) })
