-- The text for a week, from what the report returns and leaves.
use native.Mathlib.Omega.{arith}
use mathlib.Core.Path.{◌≡◌, refl, sym, ap, ap₂, ◌∙◌}
use mathlib.Core.Bool.{false}
use mathlib.Core.List.{List, [], ◌∷◌, ◌++◌, append-nil, append_assoc}
use Prim.Native.Nat.{ℕ, zero, suc, ◌+◌, ◌*◌, ◌≤◌, ◌<◌}
use lib.ListN.{length, get_or, take}
use lib.Seq.{take-suc, take-length, length-take-le}
use borrow.Author.Tests.{le-ltb}
use Rattle.format.specs.Commands.{Outcome, refused, given}
use Rattle.calls.specs.declared.Refusal.{Refusal}
use Rattle.calls.specs.declared.ReportVerdict.{ReportVerdict}
use Rattle.calls.specs.Report.{Runs, records_of, record_count, record_length, entry, with_room, checked_records}
use Rattle.calls.specs.Report.{none_accepted, report_verdict, no_runs, EachRecord}
use Rattle.calls.proofs.Records.{records_few, records_twelve}
use Rattle.calls.proofs.Reports.{result_refusal}
use Rattle.lines.specs.Lines.{refusal_line}
use Rattle.lines.specs.ReportLines.{record_line, record_lines, last_line, week_lines, week_answer}
use Rattle.week_file.specs.Lines.{bytes_at, lines_to}

-- ---- the lines of records
-- one record more at the end
lines_more : (n : ℕ) (l : List Runs) (r : Runs)
    → record_lines n (l ++ (r ∷ [])) ≡ record_lines n l ++ record_line (n + length l) (entry r)
lines_more n [] r =
    let e : n + 0 ≡ n = omega arith in
    append-nil (record_line n (entry r)) ∙ rw e refl
lines_more n (q ∷ l) r =
    let e : n + 1 + length l ≡ n + suc (length l) = omega arith in
    ap (λ (k : List ℕ). record_line n (entry q) ++ k) (lines_more (n + 1) l r)
    ∙ rw e (sym (append_assoc (record_line n (entry q)) (record_lines (n + 1) l) (record_line (n + suc (length l)) (entry r))))

module _ (l : List Runs) (out : List ℕ) (each : (i : ℕ) → i < length l → bytes_at out i ≡ entry (get_or l i no_runs)) where
  lines_to_lem : (n : ℕ) → n ≤ length l → lines_to n out ≡ record_lines 1 (take n l)
  lines_to_lem zero h = refl
  lines_to_lem (suc n) h =
      let e : 1 + length (take n l) ≡ n + 1 = omega (arith, length-take-le n l (omega arith)) in
      rw (take-suc l n no_runs (omega arith), lines_more 1 (take n l) (get_or l n no_runs), e, ← each n (omega arith), lines_to_lem n (omega arith))
      refl

  all_lines : lines_to (length l) out ≡ record_lines 1 l
  all_lines = rw (lines_to_lem (length l) (omega arith), take-length) refl

-- ---- the checks before any record's own come to 12 alone
module _ (s out : List ℕ) (room : 2048 ≤ length out) where
  checked_is : checked_records false s out ≡ records_of s
  unfolding checked_records records_of
  checked_is = go (records_of s) refl
    where
      go : (o : Outcome (List Runs)) → records_of s ≡ o → with_room out o ≡ o
      go (refused number place) e = refl
      go (given l) e =
          let f = records_few 64 s 0 l e in
          rw (le-ltb (length out) (record_length * length l) (omega arith)) refl

  module _ (v : ReportVerdict) (is : v ≡ report_verdict (checked_records false s out)) where
    verdict_is : v ≡ report_verdict (records_of s)
    verdict_is = is ∙ ap report_verdict checked_is

    pub week_refused : 0 < v.refusal.number → refusal_line v.refusal ≡ week_answer s
    unfolding report_verdict week_lines records_of
    week_refused h = go (records_of s) verdict_is
      where
        go : (o : Outcome (List Runs)) → v ≡ report_verdict o → refusal_line v.refusal ≡ week_lines o
        go (refused number place) e = ap (λ (w : ReportVerdict). refusal_line w.refusal) e
        go (given l) e =
            absurd (let z = ap (λ (w : ReportVerdict). w.refusal) e ∙ result_refusal none_accepted l refl in
            omega (arith, ap (λ (r : Refusal). r.number) z))

    pub week_lines_lem : (count : ℕ) (left : List ℕ) → count ≡ record_count (records_of s) → v.refusal.number ≡ 0
        → EachRecord s v.refusal.number left → lines_to count left ++ last_line v ≡ week_answer s
    unfolding report_verdict week_lines records_of
    week_lines_lem count left c z each = go (records_of s) refl
      where
        go : (o : Outcome (List Runs)) → records_of s ≡ o → lines_to count left ++ last_line v ≡ week_lines o
        go (refused number place) e =
            absurd (let n = records_twelve 64 s 0 number place e in
            let m = ap (λ (w : ReportVerdict). w.refusal.number) (verdict_is ∙ ap report_verdict e) in omega arith)
        go (given l) e =
            let k : count ≡ length l = c ∙ ap record_count e in
            ap₂ (λ (x y : List ℕ). x ++ y) (ap (λ (n : ℕ). lines_to n left) k ∙ all_lines l left (each l e z))
            (ap last_line (verdict_is ∙ ap report_verdict e))

pub count_few : (s : List ℕ) → record_count (records_of s) ≤ 64
unfolding records_of
count_few s = go (records_of s) refl
  where
    go : (o : Outcome (List Runs)) → records_of s ≡ o → record_count o ≤ 64
    go (refused number place) e = omega arith
    go (given l) e = records_few 64 s 0 l e
