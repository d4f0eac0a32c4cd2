-- The steps of a report: the records counted, and then answered.
use Rattle.std.specs.Prelude.{◌≡◌, List, ℕ, ◌+◌, ◌*◌, ◌≤◌, length, Result, Ok, Err}
use Rattle.format.specs.Commands.{Outcome, refused, given}
use Rattle.calls.specs.Report.{Runs, records_of, record_length, output_left, none_accepted, result_of}
use Rattle.calls.specs.declared.ReportVerdict.{ReportVerdict}

-- what each case of the count says in the document's numbers: refusal 12, "for a record cut short or a byte after the
-- 64th, at that record's or byte's offset", or how many records there are
abbrev pub count_outcome : Result ℕ ℕ → Outcome ℕ
count_outcome (Ok count) = given count
count_outcome (Err place) = refused 12 place

-- how many records there are in all, where those that are left come after some
abbrev pub count_from : ℕ → Outcome (List Runs) → Outcome ℕ
count_from done (refused number place) = refused number place
count_from done (given l) = given (done + length l)

-- the input gives records, and the output has room for them
pub record Roomy (s out : List ℕ) : Type 0 where
  pub records : List Runs
  pub read : records_of s ≡ given records
  pub room : record_length * length records ≤ length out

-- the records of the input are answered
abbrev pub Answered : List ℕ → List ℕ → ReportVerdict → List ℕ → Type 0
Answered s out v left =
    (l : List Runs) → records_of s ≡ given l → (v ≡ result_of none_accepted l) × (left ≡ output_left (given l) out)
