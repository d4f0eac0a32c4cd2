-- The numbers of each verdict, one after the other: "number, stream .., place and key", and then the call's own fields,
-- in the order of its struct in crates/calls. include/zamiachisel.h names the places; a test holds it to this file. A
-- signed field is the number of 64 bits that stands for it in two's complement.
use Rattle.std.specs.Prelude.{◌≡◌, Bool, cond, ◌||◌, List, [], ◌∷◌, ◌++◌, ℕ, ◌-◌, ◌<◌, eqb, ltb, length, get_or, take, drop, replicate}
use Rattle.calls.specs.Report.{unsigned}
use Rattle.calls.specs.Superseding.{stream_of}
use Rattle.calls.specs.declared.Fraction.{Fraction}
use Rattle.calls.specs.declared.Refusal.{Refusal}
use Rattle.calls.specs.declared.BlocksVerdict.{BlocksVerdict}
use Rattle.calls.specs.declared.CheckVerdict.{CheckVerdict}
use Rattle.calls.specs.declared.TwoChecks.{TwoChecks}
use Rattle.calls.specs.declared.PairVerdict.{PairVerdict}
use Rattle.calls.specs.declared.SupersedingVerdict.{SupersedingVerdict}
use Rattle.calls.specs.declared.SymmetriesVerdict.{SymmetriesVerdict}
use Rattle.calls.specs.declared.WindowVerdict.{WindowVerdict}
use Rattle.calls.specs.declared.ReportVerdict.{ReportVerdict}
use Rattle.calls.specs.declared.SumVerdict.{SumVerdict}
use Rattle.calls.specs.declared.AdjustedVerdict.{AdjustedVerdict}
use Rattle.calls.specs.declared.OfficeVerdict.{OfficeVerdict}

-- ---- what verdicts have in common
abbrev pub with_refusal : Refusal → List ℕ → List ℕ
with_refusal f others = f.number ∷ f.stream ∷ f.place ∷ f.key ∷ others

abbrev pub with_fraction : Fraction → List ℕ → List ℕ
with_fraction f others = unsigned 63 f.num ∷ f.den ∷ others

-- a mark: 1 where it stands
abbrev pub mark_number : Bool → ℕ
mark_number mark = cond mark 1 0

-- ---- the calls of document 01
unfoldable pub blocks_numbers : BlocksVerdict → List ℕ
blocks_numbers v = with_refusal v.refusal (v.blocks ∷ v.rounds ∷ v.rule ∷ [])

unfoldable pub check_numbers : CheckVerdict → List ℕ
check_numbers v = with_refusal v.refusal (v.side ∷ with_fraction v.bound (v.rounds ∷ v.rule ∷ []))

unfoldable pub pair_numbers : PairVerdict → List ℕ
pair_numbers v =
    with_refusal v.refusal
    (with_fraction v.lower
    (with_fraction v.upper
    (with_fraction v.gap (mark_number v.empty ∷ v.rounds ∷ v.rule ∷ []))))

-- what the check says of two certificates
abbrev pub two_checks : CheckVerdict → CheckVerdict → TwoChecks
two_checks a b = record { first = a; second = b }

-- the check's of the first certificate, and then of the second
unfoldable pub two_numbers : TwoChecks → List ℕ
two_numbers v = check_numbers v.first ++ check_numbers v.second

-- ---- the calls of document 02
-- request 01
unfoldable pub symmetries_numbers : SymmetriesVerdict → List ℕ
symmetries_numbers v = with_refusal v.refusal (v.masks ∷ [])

-- request 02: the stream that comes back, 0 for neither
unfoldable pub chosen_numbers : SupersedingVerdict → List ℕ
chosen_numbers v = with_refusal v.refusal (stream_of v.chosen ∷ [])

-- request 07
unfoldable pub report_numbers : ReportVerdict → List ℕ
report_numbers v = with_refusal v.refusal (v.accepted ∷ with_fraction v.lower (with_fraction v.upper []))

-- request 10: the check's, and then the number of notes
unfoldable pub office_numbers : OfficeVerdict → List ℕ
office_numbers v = check_numbers v.check ++ (v.notes ∷ [])

-- request 11
unfoldable pub push_numbers : WindowVerdict → List ℕ
push_numbers v = with_refusal v.refusal (with_fraction v.widest (v.age ∷ []))

-- request 12
unfoldable pub sum_numbers : SumVerdict → List ℕ
sum_numbers v =
    with_refusal v.refusal
    (with_fraction v.lower (with_fraction v.upper (v.rules.first ∷ v.rules.second ∷ [])))

-- request 13
unfoldable pub adjusted_numbers : AdjustedVerdict → List ℕ
adjusted_numbers v = with_refusal v.refusal (with_fraction v.bound [])

-- ---- a run that is lent for n numbers
-- refusal 1: it is too short, or something else that is lent
abbrev pub run_short : ℕ → List ℕ → Bool → Bool
run_short n run others = ltb (length run) n || others

-- the run at exit: "refusal 1 writes nothing"; otherwise the verdict, and what is past it stays
unfoldable pub numbers_left : List ℕ → List ℕ → List ℕ
numbers_left numbers run = cond (eqb (get_or numbers 0 0) 1) run (numbers ++ drop (length numbers) run)

-- ---- "all other fields are 0", in the run at exit of a verdict of n numbers: with a refusal, but not 1, all that are
-- past the first four; without one the first four
pub record RunZeros (n number : ℕ) (left : List ℕ) : Type 0 where
  pub refused : 0 < number → (number ≡ 1 → ⊥) → drop 4 (take n left) ≡ replicate (n - 4) 0
  pub accepted : number ≡ 0 → take 4 left ≡ replicate 4 0
