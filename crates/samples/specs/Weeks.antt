-- Weeks of records, for requests 07 and 14, and the 32 bytes that a record of the report has.
use Rattle.std.specs.Prelude.{List, [], ◌∷◌, ◌++◌, ℕ, ◌/◌, ◌%◌, length, replicate}
use Rattle.samples.specs.Streams.{variables, objective_term, end, header, finish}

-- "three u16 lengths, then problem, low and high"
abbrev pub u16 : ℕ → List ℕ
u16 n = n % 256 ∷ n / 256 ∷ []

abbrev pub pair : List ℕ → List ℕ → List ℕ → List ℕ
pair problem low high = u16 (length problem) ++ u16 (length low) ++ u16 (length high) ++ problem ++ low ++ high

-- a field of 4 bytes: one below 256, and one of −256 to −1
abbrev pub field : ℕ → List ℕ
field n = n ∷ 0 ∷ 0 ∷ 0 ∷ []

abbrev pub field_minus : ℕ → List ℕ
field_minus n = n ∷ 255 ∷ 255 ∷ 255 ∷ []

-- a refusal in the report: "refusal u32 .., p i32, q u32, P i32, Q u32, stream u32, place u32, key as its lowest 32
-- bits"; "on refusal p, q, P and Q are 0"
abbrev pub refused_record : ℕ → ℕ → ℕ → ℕ → List ℕ
refused_record number stream place key = field number ++ replicate 16 0 ++ field stream ++ field place ++ field key

-- case F's
abbrev pub record_f : List ℕ
record_f = field 0 ++ field_minus 255 ++ field 1 ++ field 1 ++ field 1 ++ replicate 12 0

-- five variables, the objective x1³x5, whose key is 2^32 + 3, and the bound 0 without rows
abbrev pub problem_key : List ℕ
problem_key = variables 5 ++ objective_term (3 ∷ 0 ∷ 0 ∷ 0 ∷ 1 ∷ 0 ∷ 0 ∷ 0 ∷ []) 1 ++ end

abbrev pub low_key : List ℕ
low_key = header 0 1 0 1 ++ finish

-- one variable and no objective: the bounds p/q and 0
abbrev pub problem_none : List ℕ
problem_none = variables 1 ++ end
