-- What a report promises, by how it ends.
use native.Mathlib.Omega.{arith}
use mathlib.Core.Path.{◌≡◌, refl, sym, ap, ◌∙◌}
use mathlib.Core.Bool.{true, false}
use mathlib.Core.List.{List}
use Prim.Native.Nat.{ℕ, ◌+◌, ◌*◌, ◌/◌, ◌≤◌, ◌<◌}
use lib.ListN.{length}
use borrow.Author.Tests.{lt-ltb, le-ltb}
use Rattle.counting.specs.Counting.{Bounded}
use Rattle.counting.proofs.Cases.{clash}
use Rattle.format.specs.Commands.{Outcome, refused, given}
use Rattle.calls.specs.Tables.{Tables, tables_short, TablesLeft}
use Rattle.calls.specs.declared.ReportVerdict.{ReportVerdict}
use Rattle.calls.specs.Report.{Runs, records_of, record_length, checked_records, output_left, is_short, refused_report}
use Rattle.calls.specs.Report.{report_verdict}
use Rattle.calls.proofs.Reports.{ReportClauses, report_clauses}
use Rattle.work_tables.proofs.Tables.{tables_kept}
use Rattle.std.specs.Prelude.{Result, Ok, Err}
use Rattle.weekly_report.specs.Steps.{count_outcome, count_from, Roomy, Answered}

abbrev pub Promised : List ℕ → List ℕ → Tables → ReportVerdict → List ℕ → Tables → Type 0
Promised s out lent v outLeft left =
    let o = checked_records (tables_short lent) s out in
    (v ≡ report_verdict o)
    × ((outLeft ≡ output_left o out)
    × (TablesLeft (is_short o) lent left × ReportClauses (tables_short lent) s out v outLeft))

-- ---- what the count tells of the records
counted_whole : (o : Outcome (List Runs)) (count : ℕ) → given count ≡ count_from 0 o
    → record { list : List Runs; is : o ≡ given list; long : length list ≡ count }
counted_whole (refused number place) count e = clash (cc)
counted_whole (given l) count e = let f : count ≡ 0 + length l = cc in record { list = l; is = refl; long = omega arith }

counted_cut : (o : Outcome (List Runs)) (place : ℕ) → refused 12 place ≡ count_from 0 o → o ≡ refused 12 place
counted_cut (refused number at) place e = cc
counted_cut (given l) place e = clash (cc)

module _ (s out : List ℕ) (lent : Tables) (bytes : Bounded 255 s) where
  by_outcome : (o : Outcome (List Runs)) → checked_records (tables_short lent) s out ≡ o → (v : ReportVerdict) (outLeft : List ℕ) (left : Tables)
      → v ≡ report_verdict o → outLeft ≡ output_left o out → TablesLeft (is_short o) lent left → Promised s out lent v outLeft left
  by_outcome o e v outLeft left x y z =
      let x' : v ≡ report_verdict (checked_records (tables_short lent) s out) = x ∙ ap report_verdict (sym e) in
      let y' : outLeft ≡ output_left (checked_records (tables_short lent) s out) out =
      y ∙ ap (λ (p : Outcome (List Runs)). output_left p out) (sym e) in
      (x', (y', (rw e z, report_clauses (tables_short lent) s out v outLeft x' y' bytes)))

  -- "1 for a work table"
  pub tables_short_lem : tables_short lent ≡ true → (v : ReportVerdict) → v ≡ refused_report 1 0 → Promised s out lent v out lent
  unfolding checked_records report_verdict output_left
  tables_short_lem h v e = by_outcome (refused 1 0) (rw h refl) v out lent e refl (tables_kept lent)

  module _ (long : tables_short lent ≡ false) (counted : Result ℕ ℕ) (c : count_outcome counted ≡ count_from 0 (records_of s)) where
    -- "then 12"
    pub records_cut : (place : ℕ) → counted ≡ Err place → (v : ReportVerdict) (left : Tables)
        → v ≡ refused_report 12 place → TablesLeft false lent left → Promised s out lent v out left
    unfolding checked_records report_verdict output_left
    records_cut place k v left e t =
        let r = counted_cut (records_of s) place (sym (ap count_outcome k) ∙ c) in
        by_outcome (refused 12 place) (rw (long, r) refl) v out left e refl t

    module _ (count : ℕ) (k : counted ≡ Ok count) where
      -- "then 1 for an output below 32 bytes per record"
      pub output_short : length out / 32 < count → (v : ReportVerdict) → v ≡ refused_report 1 0 → Promised s out lent v out lent
      unfolding checked_records report_verdict output_left
      output_short h v e =
          let r = counted_whole (records_of s) count (sym (ap count_outcome k) ∙ c) in
          let f : length out < record_length * length r.list = omega (arith, r.long) in
          by_outcome (refused 1 0) (rw (long, r.is, lt-ltb (length out) (record_length * length r.list) f) refl) v out lent e refl (tables_kept lent)

      pub roomy : count ≤ length out / 32 → Roomy s out
      roomy h =
          let r = counted_whole (records_of s) count (sym (ap count_outcome k) ∙ c) in
          record { records = r.list; read = r.is; room = omega (arith, r.long) }

      pub all_answered : count ≤ length out / 32 → (v : ReportVerdict) (outLeft : List ℕ) (left : Tables) → Answered s out v outLeft
          → TablesLeft false lent left → Promised s out lent v outLeft left
      unfolding checked_records report_verdict
      all_answered h v outLeft left a t =
          let r = roomy h in
          let x = a r.records r.read in
          by_outcome (given r.records) (rw (long, r.read, le-ltb (length out) (record_length * length r.records) r.room) refl) v outLeft left x.0 x.1 t
