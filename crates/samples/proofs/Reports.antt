-- Request 07's report and request 14's record, computed from bytes: the verdict, and the output at exit.
use mathlib.Core.Path.{◌≡◌, refl}
use mathlib.Core.List.{List, [], ◌∷◌, ◌++◌, flat_map}
use mathlib.Core.Bool.{Bool, true, false}
use Prim.Native.Nat.{ℕ, ◌*◌}
use lib.IntN.{pos, negsuc}
use lib.ListN.{replicate}
use Rattle.counting.specs.Counting.{listed}
use Rattle.calls.specs.Report.{three_runs, runs_at, records_from, records_of, pair_on, unsigned, fields_of, checked_records, output_left, with_verdict, result_of, report_verdict}
use Rattle.calls.specs.BidTool.{tool_number, tool_bytes}
use Rattle.calls.specs.declared.ReportVerdict.{ReportVerdict}
use Rattle.samples.proofs.Computing.{pairing}
use Rattle.samples.specs.Streams.{problem_a, certificate_b, problem_f, low_f, half_f, exchanged_f, loose_low_f, high_f, loose_high_f, problem_equal, low_equal, high_equal}
use Rattle.samples.specs.Verdicts.{over, zeroes, reported, report_refused}
use Rattle.samples.specs.Weeks.{pair, field, field_minus, refused_record, record_f, problem_key, low_key}

record Row : Type 0 where
  verdict : ReportVerdict
  output : List ℕ

-- the report on an input, with some bytes lent
abbrev outcome : Bool → List ℕ → List ℕ → Row
outcome short s out =
    let l = checked_records short s out in
    record { verdict = report_verdict l; output = output_left l out }

abbrev answer : ReportVerdict → List ℕ → Row
answer verdict output = record { verdict = verdict; output = output }

abbrev lent : ℕ → List ℕ
lent n = replicate n 7

abbrev week_f : List ℕ
week_f = pair problem_f low_f high_f

-- what the report computes through, after the pair
reporting : Unit {0}
unfolding flat_map runs_at records_from records_of pair_on unsigned fields_of checked_records output_left with_verdict result_of report_verdict
reporting = tt

-- no record; F with one byte past its record; F, one that is refused, and one with the bounds 1 and 1; the bounds
-- −1/1 and −2/2 in either order, "first record on ties", and likewise of upper bounds; looser bounds of either side;
-- a key of more than 32 bits
pub reports :
    outcome false [] (lent 1)
    ∷ outcome false week_f (lent 33)
    ∷ outcome false (week_f ++ pair problem_a certificate_b [] ++ pair problem_equal low_equal high_equal) (lent 96)
    ∷ outcome false (pair problem_f half_f high_f ++ week_f) (lent 64)
    ∷ outcome false (week_f ++ pair problem_f half_f high_f) (lent 64)
    ∷ outcome false (week_f ++ pair problem_f loose_low_f loose_high_f) (lent 64)
    ∷ outcome false (pair problem_f loose_low_f loose_high_f ++ week_f) (lent 64)
    ∷ outcome false (pair problem_key low_key []) (lent 32)
    ∷ []
    ≡ answer (reported 0 zeroes zeroes) (lent 1)
    ∷ answer (reported 1 (over (negsuc 0) 1) (over (pos 1) 1)) (record_f ++ lent 1)
    ∷ answer (reported 2 (over (negsuc 0) 1) (over (pos 1) 1))
    (record_f ++ refused_record 9 1 0 0 ++ (field 0 ++ field 1 ++ field 1 ++ field 1 ++ field 1 ++ replicate 12 0))
    ∷ answer (reported 2 (over (negsuc 1) 2) (over (pos 1) 1))
    ((field 0 ++ field_minus 254 ++ field 2 ++ field 1 ++ field 1 ++ replicate 12 0) ++ record_f)
    ∷ answer (reported 2 (over (negsuc 0) 1) (over (pos 1) 1))
    (record_f ++ (field 0 ++ field_minus 254 ++ field 2 ++ field 1 ++ field 1 ++ replicate 12 0))
    ∷ answer (reported 2 (over (negsuc 1) 1) (over (pos 2) 1))
    (record_f ++ (field 0 ++ field_minus 254 ++ field 1 ++ field 2 ++ field 1 ++ replicate 12 0))
    ∷ answer (reported 2 (over (negsuc 1) 1) (over (pos 2) 1))
    ((field 0 ++ field_minus 254 ++ field 1 ++ field 2 ++ field 1 ++ replicate 12 0) ++ record_f)
    ∷ answer (reported 0 zeroes zeroes) (refused_record 9 1 0 3)
    ∷ []
unfolding pairing reporting
reports = refl

-- ---- the checks before any record's own
-- so many records of three empty streams: 6 bytes of lengths each
abbrev empties : ℕ → List ℕ
empties n = replicate (6 * n) 0

-- 64 records, each refused with 2; one more, and a byte more: 12 at the byte after the 64th; a record cut in its
-- lengths, in its last stream, and behind a whole one: 12 at its offset; an output of 31 bytes: 1; a table before
-- all, then 12 before the output. None of them writes
pub checks :
    outcome false (empties 64) (lent 2049)
    ∷ outcome false (empties 65) (lent 2080)
    ∷ outcome false (empties 64 ++ (0 ∷ [])) (lent 2048)
    ∷ outcome false (0 ∷ 0 ∷ 0 ∷ 0 ∷ 0 ∷ []) (lent 32)
    ∷ outcome false (0 ∷ 0 ∷ 0 ∷ 0 ∷ 1 ∷ 0 ∷ []) (lent 32)
    ∷ outcome false (empties 2 ++ (1 ∷ 0 ∷ 0 ∷ 0 ∷ 0 ∷ 0 ∷ [])) (lent 96)
    ∷ outcome false (empties 1) (lent 31)
    ∷ outcome false (empties 2) (lent 63)
    ∷ outcome true (empties 65) (lent 31)
    ∷ outcome false (empties 65) (lent 31)
    ∷ []
    ≡ answer (reported 0 zeroes zeroes) (flat_map (λ (i : ℕ). refused_record 2 0 0 0) (listed 64 (λ i. i)) ++ lent 1)
    ∷ answer (report_refused 12 384) (lent 2080)
    ∷ answer (report_refused 12 384) (lent 2048)
    ∷ answer (report_refused 12 0) (lent 32)
    ∷ answer (report_refused 12 0) (lent 32)
    ∷ answer (report_refused 12 12) (lent 96)
    ∷ answer (report_refused 1 0) (lent 31)
    ∷ answer (report_refused 1 0) (lent 63)
    ∷ answer (report_refused 1 0) (lent 31)
    ∷ answer (report_refused 12 384) (lent 31)
    ∷ []
unfolding pairing reporting
checks = refl

-- ---- request 14
record Record : Type 0 where
  number : ℕ
  output : List ℕ

abbrev record_of : List ℕ → List ℕ → List ℕ → List ℕ → Record
record_of out problem low high =
    let r = three_runs problem low high in
    record { number = tool_number out r; output = tool_bytes out r }

abbrev returned : ℕ → List ℕ → Record
returned number output = record { number = number; output = output }

-- 32 bytes, 33, and 31; F with the rows of its lower certificate exchanged; case B; F without its upper certificate
pub records :
    record_of (lent 32) problem_f low_f high_f
    ∷ record_of (lent 33) problem_f low_f high_f
    ∷ record_of (lent 31) problem_f low_f high_f
    ∷ record_of (lent 32) problem_f exchanged_f high_f
    ∷ record_of (lent 32) problem_a certificate_b []
    ∷ record_of (lent 32) problem_f low_f []
    ∷ []
    ≡ returned 0 record_f
    ∷ returned 0 (record_f ++ lent 1)
    ∷ returned 1 (lent 31)
    ∷ returned 0 record_f
    ∷ returned 9 (refused_record 9 1 0 0)
    ∷ returned 2 (refused_record 2 2 0 0)
    ∷ []
unfolding pairing reporting tool_number tool_bytes
records = refl
