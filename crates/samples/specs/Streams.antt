-- The byte streams of document 01's samples, of some with equalities, wide factors, a joining rule and a sparse order,
-- and of one whose limits contradict each other. A monomial is written by the exponents of its first two variables, a
-- number below 0 as its lowest byte.
use Rattle.std.specs.Prelude.{List, [], ◌∷◌, ◌++◌, ℕ, replicate}

-- ---- commands
abbrev pub exponents : ℕ → ℕ → List ℕ
exponents a b = a ∷ b ∷ replicate 6 0

-- a number of 32 bits: one below 256, and one of −256 to −1
abbrev pub small : ℕ → List ℕ
small c = c ∷ 0 ∷ 0 ∷ 0 ∷ []

abbrev pub minus : ℕ → List ℕ
minus c = c ∷ 255 ∷ 255 ∷ 255 ∷ []

abbrev pub variables : ℕ → List ℕ
variables n = 1 ∷ n ∷ []

abbrev pub rule : ℕ → List ℕ
rule r = 8 ∷ r ∷ []

abbrev pub order : ℕ → List ℕ
order k = 9 ∷ k ∷ []

abbrev pub objective_term : List ℕ → ℕ → List ℕ
objective_term e c = (2 ∷ e) ++ small c

abbrev pub objective_minus : List ℕ → ℕ → List ℕ
objective_minus e c = (2 ∷ e) ++ minus c

abbrev pub inequality : List ℕ
inequality = 3 ∷ []

abbrev pub equality : List ℕ
equality = 7 ∷ []

abbrev pub condition_term : List ℕ → ℕ → List ℕ
condition_term e c = (4 ∷ e) ++ (c ∷ 0 ∷ [])

abbrev pub condition_minus : List ℕ → ℕ → List ℕ
condition_minus e c = (4 ∷ e) ++ (c ∷ 255 ∷ [])

abbrev pub member_command : ℕ → List ℕ → List ℕ
member_command j e = 5 ∷ j ∷ e

abbrev pub end : List ℕ
end = 6 ∷ []

-- ---- problems
-- x² − 2x + 3, basis 1, x
abbrev pub problem_a : List ℕ
problem_a =
    variables 1
    ++ objective_term (exponents 2 0) 1
    ++ objective_minus (exponents 1 0) 254
    ++ objective_term (exponents 0 0) 3
    ++ member_command 0 (exponents 0 0)
    ++ member_command 0 (exponents 1 0)
    ++ end

-- 1 + x + x⁴, basis 1, x, x²
abbrev pub problem_c : List ℕ
problem_c =
    variables 1
    ++ objective_term (exponents 0 0) 1
    ++ objective_term (exponents 1 0) 1
    ++ objective_term (exponents 4 0) 1
    ++ member_command 0 (exponents 0 0)
    ++ member_command 0 (exponents 1 0)
    ++ member_command 0 (exponents 2 0)
    ++ end

-- two variables, x1² + x2², basis 1, x1, x2
abbrev pub problem_d : List ℕ
problem_d =
    variables 2
    ++ objective_term (exponents 2 0) 1
    ++ objective_term (exponents 0 2) 1
    ++ member_command 0 (exponents 0 0)
    ++ member_command 0 (exponents 1 0)
    ++ member_command 0 (exponents 0 1)
    ++ end

-- objective x⁶, constraint x, basis 0: 1, x³; basis 1: x. What stands between 01 and 02 is given, and what begins the
-- constraint
abbrev pub problem_e_of : List ℕ → List ℕ → List ℕ
problem_e_of begins between =
    variables 1
    ++ between
    ++ objective_term (exponents 6 0) 1
    ++ begins
    ++ condition_term (exponents 1 0) 1
    ++ member_command 0 (exponents 0 0)
    ++ member_command 0 (exponents 3 0)
    ++ member_command 1 (exponents 1 0)
    ++ end

abbrev pub problem_e_with : List ℕ → List ℕ
problem_e_with between = problem_e_of inequality between

abbrev pub problem_e : List ℕ
problem_e = problem_e_with []

-- the same with the equality x in place of the constraint
abbrev pub problem_zero : List ℕ → List ℕ
problem_zero between = problem_e_of equality between

-- objective x, constraint 1 − x², bases {1, x} and {1}
abbrev pub problem_f_with : List ℕ → List ℕ
problem_f_with between =
    variables 1
    ++ between
    ++ objective_term (exponents 1 0) 1
    ++ inequality
    ++ condition_term (exponents 0 0) 1
    ++ condition_minus (exponents 2 0) 255
    ++ member_command 0 (exponents 0 0)
    ++ member_command 0 (exponents 1 0)
    ++ member_command 1 (exponents 0 0)
    ++ end

abbrev pub problem_f : List ℕ
problem_f = problem_f_with []

-- document 02's equalities: objective x, equality x − 1, basis 1: 1
abbrev pub problem_equal : List ℕ
problem_equal =
    variables 1
    ++ objective_term (exponents 1 0) 1
    ++ equality
    ++ condition_term (exponents 1 0) 1
    ++ condition_minus (exponents 0 0) 255
    ++ member_command 1 (exponents 0 0)
    ++ end

-- contradictory limits: x and −x − 1, no objective, bases 1 and 2: 1
abbrev pub problem_crossed : List ℕ
problem_crossed =
    variables 1
    ++ inequality
    ++ condition_term (exponents 1 0) 1
    ++ inequality
    ++ condition_minus (exponents 1 0) 255
    ++ condition_minus (exponents 0 0) 255
    ++ member_command 1 (exponents 0 0)
    ++ member_command 2 (exponents 0 0)
    ++ end

-- 2^30 x² + 2^16 x + 1, basis 1, x
abbrev pub problem_wide : List ℕ
problem_wide =
    variables 1
    ++ ((2 ∷ exponents 2 0) ++ (0 ∷ 0 ∷ 0 ∷ 64 ∷ []))
    ++ ((2 ∷ exponents 1 0) ++ (0 ∷ 0 ∷ 1 ∷ 0 ∷ []))
    ++ objective_term (exponents 0 0) 1
    ++ member_command 0 (exponents 0 0)
    ++ member_command 0 (exponents 1 0)
    ++ end

-- seven inequalities, one equality and a further condition
abbrev pub nine_conditions : List ℕ → List ℕ
nine_conditions ninth = variables 1 ++ replicate 7 3 ++ equality ++ ninth ++ end

-- ---- certificates
-- side, D, p and q, each below 256; a p of −256 to −1 is written as 256 more than it
abbrev pub header : ℕ → ℕ → ℕ → ℕ → List ℕ
header side d p q = 16 ∷ side ∷ d ∷ 0 ∷ p ∷ 0 ∷ 0 ∷ 0 ∷ q ∷ 0 ∷ []

abbrev pub header_minus : ℕ → ℕ → ℕ → ℕ → List ℕ
header_minus side d p q = 16 ∷ side ∷ d ∷ 0 ∷ p ∷ 255 ∷ 255 ∷ 255 ∷ q ∷ 0 ∷ []

abbrev pub row : ℕ → ℕ → List ℕ
row j w = 17 ∷ j ∷ w ∷ 0 ∷ []

abbrev pub equality_row : ℕ → ℕ → List ℕ
equality_row j w = 20 ∷ j ∷ w ∷ 0 ∷ []

abbrev pub equality_row_minus : ℕ → ℕ → List ℕ
equality_row_minus j w = 20 ∷ j ∷ w ∷ 255 ∷ []

abbrev pub entry : ℕ → ℕ → List ℕ
entry i l = 18 ∷ i ∷ l ∷ 0 ∷ []

abbrev pub entry_minus : ℕ → ℕ → List ℕ
entry_minus i l = 18 ∷ i ∷ l ∷ 255 ∷ []

-- the factor by its four bytes
abbrev pub wide_entry : ℕ → List ℕ → List ℕ
wide_entry i l = 21 ∷ i ∷ l

abbrev pub finish : List ℕ
finish = 19 ∷ []

-- lower 2/1, D 1, row weight 1, factors −1, 1; and the same with p = 3
abbrev pub certificate_a : List ℕ
certificate_a = header 0 1 2 1 ++ row 0 1 ++ entry_minus 0 255 ++ entry 1 1 ++ finish

abbrev pub certificate_b : List ℕ
certificate_b = header 0 1 3 1 ++ row 0 1 ++ entry_minus 0 255 ++ entry 1 1 ++ finish

-- a row on x1 and x2
abbrev pub certificate_d : List ℕ
certificate_d = header 0 1 0 1 ++ row 0 1 ++ entry 1 1 ++ entry 2 1 ++ finish

-- 2(x + 1) = (1 + x)² + (1 − x²) and 2(1 − x) = (1 − x)² + (1 − x²)
abbrev pub low_f : List ℕ
low_f = header_minus 0 2 255 1 ++ row 0 1 ++ entry 0 1 ++ entry 1 1 ++ row 1 1 ++ entry 0 1 ++ finish

abbrev pub high_f : List ℕ
high_f = header 1 2 1 1 ++ row 0 1 ++ entry 0 1 ++ entry_minus 1 255 ++ row 1 1 ++ entry 0 1 ++ finish

-- the rows of the lower one exchanged; the same bound as −2/2, with D = 1; and looser ones, by 2 × 1²:
-- 2(x + 2) = (1 + x)² + (1 − x²) + 2 and 2(2 − x) = (1 − x)² + (1 − x²) + 2
abbrev pub exchanged_f : List ℕ
exchanged_f = header_minus 0 2 255 1 ++ row 1 1 ++ entry 0 1 ++ row 0 1 ++ entry 0 1 ++ entry 1 1 ++ finish

abbrev pub half_f : List ℕ
half_f = header_minus 0 1 254 2 ++ row 0 1 ++ entry 0 1 ++ entry 1 1 ++ row 1 1 ++ entry 0 1 ++ finish

abbrev pub loose_low_f : List ℕ
loose_low_f =
    header_minus 0 2 254 1
    ++ row 0 1
    ++ entry 0 1
    ++ entry 1 1
    ++ row 1 1
    ++ entry 0 1
    ++ row 0 2
    ++ entry 0 1
    ++ finish

abbrev pub loose_high_f : List ℕ
loose_high_f =
    header 1 2 2 1
    ++ row 0 1
    ++ entry 0 1
    ++ entry_minus 1 255
    ++ row 1 1
    ++ entry 0 1
    ++ row 0 2
    ++ entry 0 1
    ++ finish

-- q = 0
abbrev pub certificate_i : List ℕ
certificate_i = header 0 1 2 0 ++ finish

-- x − 1 = 1 × (x − 1) and 1 − x = −1 × (x − 1)
abbrev pub low_equal : List ℕ
low_equal = header 0 1 1 1 ++ equality_row 1 1 ++ entry 0 1 ++ finish

abbrev pub high_equal : List ℕ
high_equal = header 1 1 1 1 ++ equality_row_minus 1 255 ++ entry 0 1 ++ finish

-- −1 = x + (−x − 1): 0 is at least 1, and at most −1
abbrev pub crossing : List ℕ → List ℕ
crossing h = h ++ row 1 1 ++ entry 0 1 ++ row 2 1 ++ entry 0 1 ++ finish

abbrev pub low_crossed : List ℕ
low_crossed = crossing (header 0 1 1 1)

abbrev pub high_crossed : List ℕ
high_crossed = crossing (header_minus 1 1 255 1)

-- A's certificate with a row of these entries; "both kinds may stand in one row"
abbrev pub with_entries : List ℕ → List ℕ
with_entries es = header 0 1 2 1 ++ row 0 1 ++ es ++ finish

-- 2^30 x² + 2^16 x + 1 = (1 + 2^15 x)²
abbrev pub certificate_wide : List ℕ
certificate_wide = header 0 1 0 1 ++ row 0 1 ++ entry 0 1 ++ wide_entry 1 (0 ∷ 128 ∷ 0 ∷ 0 ∷ []) ++ finish

-- D's, with a wide first factor
abbrev pub certificate_wide_d : List ℕ
certificate_wide_d = header 0 1 0 1 ++ row 0 1 ++ wide_entry 1 (small 1) ++ entry 2 1 ++ finish

-- a lower certificate 1/1 with some commands
abbrev pub with_row : List ℕ → List ℕ
with_row r = header 0 1 1 1 ++ r ++ finish

-- for E: x⁶ = (x³)²; the same with x × x² beside it, which is x³; and a row on 1 and x³
abbrev pub certificate_e : List ℕ
certificate_e = header 0 1 0 1 ++ row 0 1 ++ entry 1 1 ++ finish

abbrev pub certificate_beside : List ℕ
certificate_beside = header 0 1 0 1 ++ row 0 1 ++ entry 1 1 ++ row 1 1 ++ entry 0 1 ++ finish

abbrev pub certificate_across : List ℕ
certificate_across = header 0 1 0 1 ++ row 0 1 ++ entry 0 1 ++ entry 1 1 ++ finish

-- where x is 0: x⁶ + 1 = (1 + x³)² − 2 × x² × x
abbrev pub certificate_zero : List ℕ
certificate_zero =
    header_minus 0 1 255 1
    ++ row 0 1
    ++ entry 0 1
    ++ entry 1 1
    ++ equality_row_minus 1 254
    ++ entry 0 1
    ++ finish

-- ---- document 02's sign symmetries
-- x2² + x1³x2 + x1x2³ + x1²x2², an example of paper 003; basis 1, x1, x2
abbrev pub problem_signs : List ℕ
problem_signs =
    variables 2
    ++ objective_term (exponents 0 2) 1
    ++ objective_term (exponents 3 1) 1
    ++ objective_term (exponents 1 3) 1
    ++ objective_term (exponents 2 2) 1
    ++ member_command 0 (exponents 0 0)
    ++ member_command 0 (exponents 1 0)
    ++ member_command 0 (exponents 0 1)
    ++ end

-- two variables, and a condition x2, which some commands begin
abbrev pub problem_one_condition : List ℕ → List ℕ
problem_one_condition begin = variables 2 ++ begin ++ condition_term (exponents 0 1) 1 ++ end
