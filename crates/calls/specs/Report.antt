-- Request 07 of document 02, "A week's pairs in one report": what the call returns and leaves in the lent output, for
-- all inputs, and what it promises. s is the input, and out the output as it was lent.
use Rattle.std.specs.Prelude.{◌≡◌, Bool, true, false, cond, ◌||◌, ◌⊎◌, ℕ, zero, suc, ◌+◌, ◌-◌, ◌*◌, ◌/◌, ◌%◌, ◌^◌, ◌<◌, eqb, leb, ltb, ℤ, pos, nat_abs, length, get_or, take, drop}
use mathlib.Core.List.{List, [], ◌∷◌, ◌++◌, flat_map}
use Rattle.std.specs.Int.Signed.{lt_z}
use Rattle.format.specs.All.{All}
use Rattle.format.specs.Commands.{Outcome, refused, given}
use Rattle.format.specs.Operands.{number, signed}
use Rattle.calls.specs.Fractions.{none, is_less}
use Rattle.calls.specs.Pair.{pair_verdict}
use Rattle.calls.specs.Promises.{HoldsBelow, HoldsAbove}
use Rattle.calls.specs.Refusals.{no_refusal, problem_refusal}
use Rattle.calls.specs.declared.Fraction.{Fraction}
use Rattle.calls.specs.declared.PairVerdict.{PairVerdict}
use Rattle.calls.specs.declared.ReportVerdict.{ReportVerdict}

-- ---- "Input is records: three u16 lengths, then problem, low and high"
-- where the second and the third run of the record at an offset start, and where the record ends
abbrev pub low_start : List ℕ → ℕ → ℕ
low_start s at = at + 6 + number 2 s at

abbrev pub high_start : List ℕ → ℕ → ℕ
high_start s at = low_start s at + number 2 s (at + 2)

abbrev pub record_end : List ℕ → ℕ → ℕ
record_end s at = high_start s at + number 2 s (at + 4)

pub record Runs : Type 0 where
  pub problem : List ℕ
  pub low : List ℕ
  pub high : List ℕ

abbrev pub three_runs : List ℕ → List ℕ → List ℕ → Runs
three_runs problem low high = record { problem = problem; low = low; high = high }

unfoldable pub runs_at : List ℕ → ℕ → Runs
runs_at s at =
    three_runs (take (number 2 s at) (drop (at + 6) s)) (take (number 2 s (at + 2)) (drop (low_start s at) s))
    (take (number 2 s (at + 4)) (drop (high_start s at) s))

-- "a record cut short": the input ends before it does. Fewer than the 6 bytes of its lengths are too few whatever they
-- say
abbrev pub is_cut : List ℕ → ℕ → Bool
is_cut s at = ltb (length s) (record_end s at)

abbrev pub with_runs : Runs → Outcome (List Runs) → Outcome (List Runs)
with_runs r (refused number place) = refused number place
with_runs r (given l) = given (r ∷ l)

-- "12 for a record cut short or a byte after the 64th, at that record's or byte's offset": from the record at an offset
-- on, of which there may be `left`
unfoldable pub records_from : ℕ → List ℕ → ℕ → Outcome (List Runs)
records_from zero s at = cond (leb (length s) at) (given []) (refused 12 at)
records_from (suc left) s at =
    cond (leb (length s) at) (given [])
    (cond (is_cut s at) (refused 12 at) (with_runs (runs_at s at) (records_from left s (record_end s at))))

-- "up to 64 pairs"
unfoldable pub records_of : List ℕ → Outcome (List Runs)
records_of s = records_from 64 s 0

-- how many records an input gives: none where it is refused
abbrev pub record_count : Outcome (List Runs) → ℕ
record_count (refused number place) = 0
record_count (given l) = length l

-- the pair's verdict on the three runs of a record. The work tables are long enough
unfoldable pub pair_on : Runs → PairVerdict
pair_on r = pair_verdict false r.problem r.low r.high

-- ---- the record of 32 bytes: "Numbers are little-endian"
-- the lowest w bytes of a number, the lowest first
abbrev pub little_endian : ℕ → ℕ → List ℕ
little_endian zero x = []
little_endian (suc w) x = x % 256 ∷ little_endian w (x / 256)

-- the number of w + 1 bits that stands for a signed one, in two's complement
unfoldable pub unsigned : ℕ → ℤ → ℕ
unsigned w z = cond (lt_z z (pos 0)) (2 ^ (w + 1) - nat_abs z) (nat_abs z)

-- "refusal u32 (0 if accepted), p i32, q u32, P i32, Q u32, stream u32, place u32, key as its lowest 32 bits"; "on
-- refusal p, q, P and Q are 0, otherwise stream, place and key are": so they are in a verdict. p and P are held in 64
-- bits, and of each field the lowest 32 are written
unfoldable pub fields_of : PairVerdict → List ℕ
fields_of v =
    v.refusal.number
    ∷ unsigned 63 v.lower.num
    ∷ v.lower.den
    ∷ unsigned 63 v.upper.num
    ∷ v.upper.den
    ∷ v.refusal.stream
    ∷ v.refusal.place
    ∷ v.refusal.key
    ∷ []

abbrev pub record_bytes : PairVerdict → List ℕ
record_bytes v = flat_map (little_endian 4) (fields_of v)

-- "32 bytes per record"
abbrev pub record_length : ℕ
record_length = 32

-- ---- the order of the checks: "Checks, before any record's own: 1 for a work table, then 12 .., then 1 for an output
-- below 32 bytes per record"; short is true where a work table is too short
abbrev pub with_room : List ℕ → Outcome (List Runs) → Outcome (List Runs)
with_room out (refused number place) = refused number place
with_room out (given l) = cond (ltb (length out) (record_length * length l)) (refused 1 0) (given l)

unfoldable pub checked_records : Bool → List ℕ → List ℕ → Outcome (List Runs)
checked_records short s out = cond short (refused 1 0) (with_room out (records_of s))

-- ---- the output: "A lent output gets 32 bytes per record at its own position"; "Output past the last record is
-- untouched", and by a refusal of the call all of it
abbrev pub entry : Runs → List ℕ
entry r = record_bytes (pair_on r)

unfoldable pub output_left : Outcome (List Runs) → List ℕ → List ℕ
output_left (refused number place) out = out
output_left (given l) out = flat_map entry l ++ drop (record_length * length l) out

-- ---- the tables: refusal 1 "writes nothing"
abbrev pub is_short : Outcome (List Runs) → Bool
is_short (refused number place) = eqb number 1
is_short (given l) = false

-- ---- "how many were accepted, the smallest lower and largest upper bound, first record on ties, and none as 0 over 0"
abbrev pub none_accepted : ReportVerdict
none_accepted = record { refusal = no_refusal; accepted = 0; lower = none; upper = none }

-- one more accepted: its bound takes the place of the one that stands where none stands, or where it goes before it
abbrev pub with_accepted : ReportVerdict → PairVerdict → ReportVerdict
with_accepted t v = record {
  refusal = no_refusal;
  accepted = t.accepted + 1;
  lower = cond (eqb t.accepted 0 || is_less v.lower t.lower) v.lower t.lower;
  upper = cond (eqb t.accepted 0 || is_less t.upper v.upper) v.upper t.upper;
}

unfoldable pub with_verdict : ReportVerdict → PairVerdict → ReportVerdict
with_verdict t v = cond (ltb 0 v.refusal.number) t (with_accepted t v)

unfoldable pub result_of : ReportVerdict → List Runs → ReportVerdict
result_of t [] = t
result_of t (r ∷ l) = result_of (with_verdict t (pair_on r)) l

-- "All 0 with a refusal"; "stream 0"
abbrev pub refused_report : ℕ → ℕ → ReportVerdict
refused_report number place =
    record { refusal = problem_refusal number place; accepted = 0; lower = none; upper = none }

unfoldable pub report_verdict : Outcome (List Runs) → ReportVerdict
report_verdict (refused number place) = refused_report number place
report_verdict (given l) = result_of none_accepted l

-- ---- what the call promises
-- the number is 0, where nothing is refused, 1 or 12
abbrev pub ReportNumbered : ℕ → Type 0
ReportNumbered number = (number ≡ 0) ⊎ ((number ≡ 1) ⊎ (number ≡ 12))

-- P holds of the records that the input gives, where nothing is refused
abbrev pub WhereReported : List ℕ → ℕ → (List Runs → Type 0) → Type 0
WhereReported s number P = (l : List Runs) → records_of s ≡ given l → number ≡ 0 → P l

abbrev pub no_runs : Runs
no_runs = three_runs [] [] []

-- the 32 bytes at a record's own position are those of the pair's verdict on its three runs: nothing else of the input
-- has an effect on them
abbrev pub EachRecord : List ℕ → ℕ → List ℕ → Type 0
EachRecord s number left =
    WhereReported s number
    (λ l. (i : ℕ) → i < length l
    → take record_length (drop (record_length * i) left) ≡ record_bytes (pair_on (get_or l i no_runs)))

-- what the bytes of a record tell, read as a stream's operands are: the fields of the verdict, of the place and the key
-- the lowest 32 bits
pub record Told (s : List ℕ) (v : PairVerdict) : Type 0 where
  pub refusal : number 4 s 0 ≡ v.refusal.number
  pub p : signed 31 (number 4 s 4) ≡ v.lower.num
  pub q : number 4 s 8 ≡ v.lower.den
  pub P : signed 31 (number 4 s 12) ≡ v.upper.num
  pub Q : number 4 s 16 ≡ v.upper.den
  pub stream : number 4 s 20 ≡ v.refusal.stream
  pub place : number 4 s 24 ≡ v.refusal.place % 2 ^ 32
  pub key : number 4 s 28 ≡ v.refusal.key % 2 ^ 32

abbrev pub EachTold : List ℕ → ℕ → List ℕ → Type 0
EachTold s number left =
    WhereReported s number
    (λ l. (i : ℕ) → i < length l → Told (take record_length (drop (record_length * i) left)) (pair_on (get_or l i no_runs)))

-- "on refusal p, q, P and Q are 0, otherwise stream, place and key are"; and "The key is 0 except at 9". s begins with
-- the bytes of a record
pub record RecordZeros (s : List ℕ) : Type 0 where
  pub p : 0 < number 4 s 0 → signed 31 (number 4 s 4) ≡ pos 0
  pub q : 0 < number 4 s 0 → number 4 s 8 ≡ 0
  pub P : 0 < number 4 s 0 → signed 31 (number 4 s 12) ≡ pos 0
  pub Q : 0 < number 4 s 0 → number 4 s 16 ≡ 0
  pub stream : number 4 s 0 ≡ 0 → number 4 s 20 ≡ 0
  pub place : number 4 s 0 ≡ 0 → number 4 s 24 ≡ 0
  pub key : (number 4 s 0 ≡ 9 → ⊥) → number 4 s 28 ≡ 0

abbrev pub EachZeros : List ℕ → ℕ → List ℕ → Type 0
EachZeros s number left =
    WhereReported s number
    (λ l. (i : ℕ) → i < length l → RecordZeros (take record_length (drop (record_length * i) left)))

-- "no output byte is written on any" of the call's refusals; "Output past the last record is untouched"
pub record OutputKept (s : List ℕ) (number : ℕ) (lent left : List ℕ) : Type 0 where
  pub refused : 0 < number → left ≡ lent
  pub past : WhereReported s number (λ l. drop (record_length * length l) left ≡ drop (record_length * length l) lent)

-- "Any accepted objective at its own points is within those two"
abbrev pub WithinBounds : List ℕ → ReportVerdict → Type 0
WithinBounds s v =
    WhereReported s v.refusal.number
    (All (λ r.
    HoldsBelow r.problem (pair_on r).refusal.number v.lower
    × HoldsAbove r.problem (pair_on r).refusal.number v.upper))

-- of the records with an accepted pair, the first whose bound no other's goes before
abbrev pub OfAccepted : (PairVerdict → Type 0) → List Runs → Type 0
OfAccepted P l = All (λ r. (pair_on r).refusal.number ≡ 0 → P (pair_on r)) l

pub record First (bound : PairVerdict → Fraction) (before : Fraction → Fraction → Bool) (l : List Runs) (x : Fraction)
    : Type 0 where
  pub earlier : List Runs
  pub runs : Runs
  pub later : List Runs
  pub all : l ≡ earlier ++ (runs ∷ later)
  pub accepted : (pair_on runs).refusal.number ≡ 0
  pub is : bound (pair_on runs) ≡ x
  pub best : OfAccepted (λ v. before (bound v) x ≡ false) l
  pub first : OfAccepted (λ v. before x (bound v) ≡ true) earlier

abbrev pub accepted_count : List Runs → ℕ
accepted_count [] = 0
accepted_count (r ∷ l) = cond (ltb 0 (pair_on r).refusal.number) 0 1 + accepted_count l

-- "how many were accepted, the smallest lower and largest upper bound, first record on ties, and none as 0 over 0"
pub record Summary (v : ReportVerdict) (l : List Runs) : Type 0 where
  pub accepted : v.accepted ≡ accepted_count l
  pub nothing : v.accepted ≡ 0 → (v.lower ≡ none) × (v.upper ≡ none)
  pub lower : 0 < v.accepted → First (λ w. w.lower) is_less l v.lower
  pub upper : 0 < v.accepted → First (λ w. w.upper) (λ x y. is_less y x) l v.upper

abbrev pub Summarised : List ℕ → ReportVerdict → Type 0
Summarised s v = WhereReported s v.refusal.number (Summary v)

-- ---- between two problem streams that differ in the joining rule, or in the sparse order (Rules.antt has the
-- relations R), record by record
abbrev pub with_problem : List ℕ → Runs → Runs
with_problem t r = three_runs t r.low r.high

-- "what is accepted under 2 is accepted under 1 unless refusal 7 applies there": a record that says no refusal, with t
-- in the place of its problem, says refusal 7 of the problem, or has the same 32 bytes
abbrev pub EachKept : (List ℕ → List ℕ → Type 0) → List ℕ → ℕ → List ℕ → Type 0
EachKept R s number left =
    WhereReported s number
    (λ l. (i : ℕ) → i < length l → (t : List ℕ) → R (get_or l i no_runs).problem t
    → let bytes = take record_length (drop (record_length * i) left) in
    let other = with_problem t (get_or l i no_runs) in
    (pair_on (get_or l i no_runs)).refusal.number ≡ 0
    → ((pair_on other).refusal ≡ problem_refusal 7 0) ⊎ (record_bytes (pair_on other) ≡ bytes))
