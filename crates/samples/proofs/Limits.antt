-- The limits of document 01's commands, from bytes, each at the limit and one past it; the order of the checks of one
-- command; and the limit of 2,048 keys.
use mathlib.Core.Path.{◌≡◌, refl}
use mathlib.Core.List.{List, [], ◌∷◌, ◌++◌, map, flat_map}
use mathlib.Core.Bool.{false}
use Prim.Native.Nat.{ℕ, ◌+◌, ◌-◌, ◌/◌, ◌%◌}
use lib.ListN.{replicate}
use Rattle.counting.specs.Counting.{listed}
use Rattle.calls.specs.Blocks.{blocks_verdict}
use Rattle.calls.specs.Check.{check_verdict}
use Rattle.samples.proofs.Computing.{blocking, checking}
use Rattle.samples.specs.Streams.{exponents, variables, rule, order, objective_term, objective_minus, inequality, condition_term, member_command, end, problem_a, problem_equal, header, row, equality_row, entry, finish, with_row, with_entries}
use Rattle.samples.specs.Verdicts.{blocks_found, blocks_refused, check_refused}

-- so many, each by its number from 0
abbrev each : ℕ → (ℕ → List ℕ) → List ℕ
each n f = flat_map f (listed n (λ i. i))

-- ---- problems
-- the one exponent e of variable i, from 0
abbrev single : ℕ → ℕ → List ℕ
single i e = replicate i 0 ++ (e ∷ replicate (7 - i) 0)

-- n: 8, 0 and 9 variables; exponents of variables above n; a coefficient 0; j: of a constraint that was begun, and not
pub operands :
    map (blocks_verdict false)
    ((variables 8 ++ end)
    ∷ (variables 0 ++ end)
    ∷ (variables 9 ++ end)
    ∷ (variables 7 ++ objective_term (single 6 1) 1 ++ end)
    ∷ (variables 7 ++ objective_term (single 7 1) 1 ++ end)
    ∷ (variables 1 ++ objective_term (exponents 0 0) 0 ++ end)
    ∷ (variables 1 ++ inequality ++ condition_term (exponents 0 0) 0 ++ end)
    ∷ (variables 1 ++ inequality ++ member_command 1 (exponents 0 0) ++ end)
    ∷ (variables 1 ++ inequality ++ member_command 2 (exponents 0 0) ++ end)
    ∷ (variables 1 ++ inequality ++ condition_term (exponents 0 1) 1 ++ end)
    ∷ (variables 1 ++ member_command 0 (exponents 0 1) ++ end)
    ∷ [])
    ≡ blocks_found 0 1 1
    ∷ blocks_refused 4 0
    ∷ blocks_refused 4 0
    ∷ blocks_found 0 1 1
    ∷ blocks_refused 4 2
    ∷ blocks_refused 4 2
    ∷ blocks_refused 4 3
    ∷ blocks_found 1 1 1
    ∷ blocks_refused 4 3
    ∷ blocks_refused 4 3
    ∷ blocks_refused 4 2
    ∷ []
unfolding blocking
operands = refl

-- "total degree at most 32", "degree at most 16" and "degree at most 8", over both variables
pub degrees :
    map (blocks_verdict false)
    ((variables 2 ++ objective_term (exponents 31 1) 1 ++ end)
    ∷ (variables 2 ++ objective_term (exponents 31 2) 1 ++ end)
    ∷ (variables 2 ++ inequality ++ condition_term (exponents 15 1) 1 ++ end)
    ∷ (variables 2 ++ inequality ++ condition_term (exponents 15 2) 1 ++ end)
    ∷ (variables 2 ++ member_command 0 (exponents 7 1) ++ end)
    ∷ (variables 2 ++ member_command 0 (exponents 7 2) ++ end)
    ∷ [])
    ≡ blocks_found 0 1 1
    ∷ blocks_refused 4 2
    ∷ blocks_found 0 1 1
    ∷ blocks_refused 4 3
    ∷ blocks_found 1 1 1
    ∷ blocks_refused 4 2
    ∷ []
unfolding blocking
degrees = refl

-- "First, and only first"; "A 04 before any 03"; unknown bytes; a monomial twice in an objective, a constraint and a
-- basis, and once in each of two; a command that is cut, no end, and a byte after it; the order "3, 2, 4, 5, 6":
-- misplaced and cut, cut with a degree too large, and a coefficient 0 with the monomial repeated
pub streams :
    map (blocks_verdict false)
    ((0 ∷ [])
    ∷ (7 ∷ [])
    ∷ end
    ∷ (variables 1 ++ variables 1 ++ end)
    ∷ (variables 1 ++ condition_term (exponents 0 0) 1 ++ end)
    ∷ (variables 1 ++ (10 ∷ []))
    ∷ (variables 1 ++ objective_term (exponents 1 0) 1 ++ objective_minus (exponents 1 0) 255 ++ end)
    ∷ (variables 1 ++ inequality ++ condition_term (exponents 1 0) 1 ++ condition_term (exponents 1 0) 2 ++ end)
    ∷ (variables 1 ++ member_command 0 (exponents 1 0) ++ member_command 0 (exponents 1 0) ++ end)
    ∷ (variables 1 ++ inequality ++ member_command 0 (exponents 0 0) ++ member_command 1 (exponents 0 0) ++ end)
    ∷ variables 1
    ∷ (1 ∷ [])
    ∷ (variables 1 ++ (2 ∷ exponents 1 0) ++ (1 ∷ 0 ∷ 0 ∷ []))
    ∷ (variables 1 ++ end ++ (0 ∷ []))
    ∷ (variables 1 ++ (4 ∷ []))
    ∷ (variables 1 ++ (5 ∷ 0 ∷ 9 ∷ []))
    ∷ (variables 1 ++ objective_term (exponents 1 0) 1 ++ objective_term (exponents 1 0) 0 ++ end)
    ∷ [])
    ≡ blocks_refused 3 0
    ∷ blocks_refused 3 0
    ∷ blocks_refused 3 0
    ∷ blocks_refused 3 2
    ∷ blocks_refused 3 2
    ∷ blocks_refused 3 2
    ∷ blocks_refused 5 15
    ∷ blocks_refused 5 14
    ∷ blocks_refused 5 12
    ∷ blocks_found 2 1 1
    ∷ blocks_refused 2 2
    ∷ blocks_refused 2 0
    ∷ blocks_refused 2 2
    ∷ blocks_refused 2 3
    ∷ blocks_refused 3 2
    ∷ blocks_refused 2 2
    ∷ blocks_refused 4 15
    ∷ []
unfolding blocking
streams = refl

-- "at most 32 each" of a constraint's terms, and "at most 64 each" of a basis: so many are read, and an 08 behind them
-- is misplaced; one more meets 6, and one more that is a repetition 5
abbrev terms : ℕ → List ℕ
terms n = variables 2 ++ inequality ++ each n (λ i. condition_term (exponents (i % 8) (i / 8)) 1)

abbrev members : ℕ → List ℕ
members n =
    variables 4 ++ each n (λ i. member_command 0 (i % 3 ∷ i / 3 % 3 ∷ i / 9 % 3 ∷ i / 27 ∷ replicate 4 0))

pub counts :
    map (blocks_verdict false)
    ((terms 32 ++ rule 1)
    ∷ (terms 33 ++ end)
    ∷ (members 64 ++ rule 1)
    ∷ (members 65 ++ end)
    ∷ (members 64 ++ member_command 0 (exponents 0 0) ++ end)
    ∷ [])
    ≡ blocks_refused 3 355
    ∷ blocks_refused 6 355
    ∷ blocks_refused 3 642
    ∷ blocks_refused 6 642
    ∷ blocks_refused 5 642
    ∷ []
unfolding blocking flat_map
counts = refl

-- ---- certificates, for case A
-- "side 0 lower, 1 upper; D and q at least 1"; w at least 1; j a constraint of the problem; an index of the basis, a
-- factor that is not 0; indices that rise; commands that are misplaced, unknown, cut; no end, and a byte after it
pub certificates :
    map (check_verdict false problem_a)
    ((header 2 1 2 1 ++ finish)
    ∷ (header 0 0 2 1 ++ finish)
    ∷ (with_row (row 0 0))
    ∷ (with_row (row 1 1))
    ∷ (with_entries (entry 2 1))
    ∷ (with_entries (entry 1 0))
    ∷ (with_entries (entry 1 1 ++ entry 1 1))
    ∷ (with_entries (entry 1 1 ++ entry 0 1))
    ∷ finish
    ∷ (row 0 1)
    ∷ (header 0 1 2 1 ++ header 0 1 2 1 ++ finish)
    ∷ (with_row (entry 0 1))
    ∷ (header 0 1 2 1 ++ (22 ∷ []))
    ∷ (header 0 1 2 1 ++ (15 ∷ []))
    ∷ header 0 1 2 1
    ∷ (16 ∷ 2 ∷ [])
    ∷ (header 0 1 2 1 ++ (17 ∷ 9 ∷ 0 ∷ []))
    ∷ (header 0 1 2 1 ++ finish ++ (19 ∷ []))
    ∷ [])
    ≡ check_refused 4 1 0 0
    ∷ check_refused 4 1 0 0
    ∷ check_refused 4 1 10 0
    ∷ check_refused 4 1 10 0
    ∷ check_refused 4 1 14 0
    ∷ check_refused 4 1 14 0
    ∷ check_refused 5 1 18 0
    ∷ check_refused 5 1 18 0
    ∷ check_refused 3 1 0 0
    ∷ check_refused 3 1 0 0
    ∷ check_refused 3 1 10 0
    ∷ check_refused 3 1 10 0
    ∷ check_refused 3 1 10 0
    ∷ check_refused 3 1 10 0
    ∷ check_refused 2 1 10 0
    ∷ check_refused 2 1 0 0
    ∷ check_refused 2 1 10 0
    ∷ check_refused 2 1 11 0
    ∷ []
unfolding checking
certificates = refl

-- "at most 128 rows", of both kinds: so many, and one more of either; and one more with weight 0, since 4 comes
-- before 6
abbrev rows : ℕ → List ℕ
rows n = header 0 1 1 1 ++ each n (λ i. equality_row 1 1)

pub most_rows_lem :
    map (check_verdict false problem_equal)
    ((rows 128 ++ (22 ∷ []))
    ∷ (rows 128 ++ row 0 1 ++ finish)
    ∷ (rows 129 ++ finish)
    ∷ (rows 128 ++ equality_row 1 0 ++ finish)
    ∷ [])
    ≡ check_refused 3 1 522 0 ∷ check_refused 6 1 522 0 ∷ check_refused 6 1 522 0 ∷ check_refused 4 1 522 0 ∷ []
unfolding checking flat_map
most_rows_lem = refl

-- ---- 2,048 keys
-- eleven monomials, in falling order, whose 66 sums of two are all different, and in which x1 and x2 do not stand
abbrev eleven : List (List ℕ)
eleven =
    single 7 3
    ∷ single 7 1
    ∷ single 6 3
    ∷ single 6 1
    ∷ single 5 3
    ∷ single 5 1
    ∷ single 4 3
    ∷ single 4 1
    ∷ single 3 1
    ∷ single 2 1
    ∷ single 0 0
    ∷ []

-- a constraint with 31 terms x1^a × x2^b, a below 16, and the eleven as its basis. The objective has the eleven too,
-- which makes them one block, and so many powers of x1 from 16 on. Then 66 × 31 products are counted, which is 2,046,
-- and those powers: the products of a basis other than 0 are counted under rule 2 though they do not enter S. Falling
-- exponents are computed faster, as each goes before those that are there
abbrev counted : ℕ → List ℕ
counted more =
    variables 8
    ++ rule 2
    ++ order 1
    ++ flat_map (λ (e : List ℕ). objective_term e 1) eleven
    ++ each more (λ i. objective_term (single 0 (16 + i)) 1)
    ++ inequality
    ++ each 31 (λ i. condition_term (exponents ((30 - i) % 16) ((30 - i) / 16)) 1)
    ++ flat_map (member_command 1) eleven
    ++ end

-- "may have at most 2,048 members": the empty certificate is refused for the first, and not read for the second
pub keys :
    map (λ (s : List ℕ). check_verdict false s []) (counted 2 ∷ counted 3 ∷ [])
    ≡ check_refused 2 1 0 0 ∷ check_refused 7 0 0 0 ∷ []
unfolding checking flat_map
keys = refl
