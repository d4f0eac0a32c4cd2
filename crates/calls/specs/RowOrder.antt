-- Request 14 of document 02, "the order of a certificate's rows must be proved to have no effect on acceptance, because
-- the tool sorts them by weight": what this says of every call. Nothing is asked of the stream with another order but
-- that it has the same header and the same runs of rows.
use Rattle.std.specs.Prelude.{◌≡◌, Bool, List, [], ◌∷◌, ◌⊎◌, ℕ}
use Rattle.format.specs.Commands.{given}
use Rattle.format.specs.RowOrder.{OtherOrder}
use Rattle.format.specs.Notes.{without_notes}
use Rattle.calls.specs.Check.{check_verdict}
use Rattle.calls.specs.Pair.{pair_verdict}
use Rattle.calls.specs.Superseding.{part_of, superseding_verdict}
use Rattle.calls.specs.Report.{Runs, records_of, checked_records, report_verdict}
use Rattle.calls.specs.AddedBounds.{Streams, sum_verdict}
use Rattle.calls.specs.Adjusted.{adjusted_verdict}
use Rattle.calls.specs.Office.{note_count, office_verdict}
use Rattle.calls.specs.declared.Refusal.{Refusal}
use Rattle.calls.specs.declared.CheckVerdict.{CheckVerdict}
use Rattle.calls.specs.declared.PairVerdict.{PairVerdict}
use Rattle.calls.specs.declared.SupersedingVerdict.{SupersedingVerdict}
use Rattle.calls.specs.declared.SumVerdict.{SumVerdict}
use Rattle.calls.specs.declared.AdjustedVerdict.{AdjustedVerdict}
use Rattle.calls.specs.declared.OfficeVerdict.{OfficeVerdict}
use Rattle.calls.specs.declared.ReportVerdict.{ReportVerdict}

-- a certificate stream itself, or one with its runs of rows in another order
abbrev pub Rearranged : List ℕ → List ℕ → Type 0
Rearranged t u = (u ≡ t) ⊎ OtherOrder t u

-- of two verdicts one accepts exactly when the other does, and then they are the same in every field. Where both
-- refuse, a refusal may name another place: the first row that is in two blocks is another one
pub record Alike {A : Type 0} (number : A → ℕ) (v w : A) : Type 0 where
  pub accepted : number v ≡ 0 → w ≡ v
  pub back : number w ≡ 0 → v ≡ w

-- ---- the calls; v is what is returned, short is true where a work table is too short, s is the problem stream
abbrev pub check_number : CheckVerdict → ℕ
check_number v = v.refusal.number

abbrev pub CheckAnyOrder : Bool → List ℕ → List ℕ → CheckVerdict → Type 0
CheckAnyOrder short s t v = (u : List ℕ) → Rearranged t u → Alike check_number v (check_verdict short s u)

-- the rows of either certificate, or of both
abbrev pub pair_number : PairVerdict → ℕ
pair_number v = v.refusal.number

abbrev pub PairAnyOrder : Bool → List ℕ → List ℕ → List ℕ → PairVerdict → Type 0
PairAnyOrder short s low high v =
    (low' high' : List ℕ) → Rearranged low low' → Rearranged high high'
    → Alike pair_number v (pair_verdict short s low' high')

-- request 02: the one that comes back is the same, the first or the second. f is what the four numbers hold at exit
abbrev pub superseding_number : SupersedingVerdict → ℕ
superseding_number v = v.refusal.number

pub record SameBack (first second part : List ℕ) (f : Refusal) (w : SupersedingVerdict) : Type 0 where
  pub accepted : f.number ≡ 0 → (w.refusal.number ≡ 0) × (part ≡ part_of w.chosen first second)
  pub back : w.refusal.number ≡ 0 → f.number ≡ 0

abbrev pub SupersedingAnyOrder : Bool → List ℕ → List ℕ → List ℕ → List ℕ → Refusal → Type 0
SupersedingAnyOrder short s first second part f =
    (first' second' : List ℕ) → Rearranged first first' → Rearranged second second'
    → SameBack first second part f (superseding_verdict short s first' second')

-- request 07: two lists of records, with the rows of certificates in any order. The result is the same: how many were
-- accepted, and both bounds
pub data RecordsRearranged : List Runs → List Runs → Type 0 where
  none : RecordsRearranged [] []
  more : {r r' : Runs} {l l' : List Runs} → r'.problem ≡ r.problem → Rearranged r.low r'.low
      → Rearranged r.high r'.high → RecordsRearranged l l' → RecordsRearranged (r ∷ l) (r' ∷ l')

abbrev pub ReportAnyOrder : Bool → List ℕ → List ℕ → ReportVerdict → Type 0
ReportAnyOrder short s out v =
    (s' : List ℕ) (l l' : List Runs) → records_of s ≡ given l → records_of s' ≡ given l' → RecordsRearranged l l'
    → report_verdict (checked_records short s' out) ≡ v

-- request 10: the stream as sent with the same number of notes, wherever they stand
abbrev pub office_number : OfficeVerdict → ℕ
office_number v = v.check.refusal.number

abbrev pub OfficeAnyOrder : Bool → List ℕ → List ℕ → ℕ → OfficeVerdict → Type 0
OfficeAnyOrder short s t room v =
    (u : List ℕ) → Rearranged (without_notes t) (without_notes u) → note_count u ≡ note_count t
    → Alike office_number v (office_verdict short s u room)

-- request 12: the rows of any of the four certificates
abbrev pub sum_number : SumVerdict → ℕ
sum_number v = v.refusal.number

pub record StreamsRearranged (a b : Streams) : Type 0 where
  pub problem : b.problem ≡ a.problem
  pub low : Rearranged a.low b.low
  pub high : Rearranged a.high b.high

abbrev pub SumAnyOrder : Bool → Streams → Streams → SumVerdict → Type 0
SumAnyOrder short a b v =
    (a' b' : Streams) → StreamsRearranged a a' → StreamsRearranged b b' → Alike sum_number v (sum_verdict short a' b')

-- request 13
abbrev pub adjusted_number : AdjustedVerdict → ℕ
adjusted_number v = v.refusal.number

abbrev pub AdjustedAnyOrder : Bool → List ℕ → List ℕ → List ℕ → AdjustedVerdict → Type 0
AdjustedAnyOrder short s t changes v =
    (u : List ℕ) → Rearranged t u → Alike adjusted_number v (adjusted_verdict short s u changes)
