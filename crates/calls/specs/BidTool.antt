-- Request 14 of document 02, "A call for the bid tool in C": the number that is returned, the lent bytes at exit, and
-- what the call promises. r are the three byte runs, out the bytes as they were lent, left those bytes at exit, and n
-- the number.
use Rattle.std.specs.Prelude.{◌≡◌, cond, List, ◌++◌, ◌⊎◌, ℕ, ◌≤◌, ◌<◌, ltb, length, drop}
use Rattle.format.specs.Operands.{number}
use Rattle.calls.specs.Report.{Runs, three_runs, pair_on, record_bytes, record_length, Told, RecordZeros, with_problem}
use Rattle.calls.specs.RowOrder.{Rearranged}

-- "Fewer than 32 bytes give 1 as the returned number ..; otherwise the returned number is the refusal or 0"
unfoldable pub tool_number : List ℕ → Runs → ℕ
tool_number out r = cond (ltb (length out) record_length) 1 (pair_on r).refusal.number

-- "32 lent bytes, filled as one record of Req 07"; "Fewer than 32 bytes give .. nothing written; bytes past 32 are
-- untouched"
unfoldable pub tool_bytes : List ℕ → Runs → List ℕ
tool_bytes out r = cond (ltb (length out) record_length) out (record_bytes (pair_on r) ++ drop record_length out)

-- the record tells the number that is returned and the verdict, and bytes past it are untouched
pub record OneRecord (out : List ℕ) (r : Runs) (left : List ℕ) (n : ℕ) : Type 0 where
  pub numbered : n ≤ 10
  pub short : length out < record_length → (n ≡ 1) × (left ≡ out)
  pub returned : record_length ≤ length out → number 4 left 0 ≡ n
  pub told : record_length ≤ length out → Told left (pair_on r)
  pub past : drop record_length left ≡ drop record_length out

-- "on refusal p, q, P and Q are 0, otherwise stream, place and key are"
abbrev pub ToolZeros : List ℕ → List ℕ → Type 0
ToolZeros out left = record_length ≤ length out → RecordZeros left

-- ---- "the order of a certificate's rows must be proved to have no effect on acceptance, because the tool sorts them
-- by weight"
-- of two numbers of a refusal one is 0, for accepted, exactly when the other is
abbrev pub AcceptedAlike : ℕ → ℕ → Type 0
AcceptedAlike n m = (n ≡ 0 → m ≡ 0) × (m ≡ 0 → n ≡ 0)

-- with the rows of either certificate in another order
abbrev pub AnyOrder : List ℕ → Runs → ℕ → Type 0
AnyOrder out r n =
    (low high : List ℕ) → Rearranged r.low low → Rearranged r.high high
    → AcceptedAlike n (tool_number out (three_runs r.problem low high))

-- ---- between two problem streams that differ in the joining rule, or in the sparse order (Rules.antt has the
-- relations R): where nothing is refused, with t in the place of the problem the number is 7, or 0 with the same bytes
abbrev pub ToolKept : (List ℕ → List ℕ → Type 0) → List ℕ → Runs → List ℕ → ℕ → Type 0
ToolKept R out r left n =
    (t : List ℕ) → R r.problem t → n ≡ 0
    → let other = with_problem t r in
    (tool_number out other ≡ 7) ⊎ ((tool_number out other ≡ 0) × (tool_bytes out other ≡ left))
