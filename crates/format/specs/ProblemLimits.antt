-- The limits that the documents state with the problem's commands.
use Rattle.std.specs.Prelude.{ℕ, ◌+◌}

-- "01 n(u8): number of variables, 1 to 8"
abbrev pub most_variables : ℕ
most_variables = 8

-- "08 rule(u8), value 1 or 2": the joining rule, by its edition
abbrev pub latest_rule : ℕ
latest_rule = 2

-- "09 k(u8), from 1 to 255": the sparse order, a number of rounds
abbrev pub most_order : ℕ
most_order = 255

-- "02 E c(i32): objective term, total degree at most 32, at most 256"
abbrev pub most_objective_degree : ℕ
most_objective_degree = 32

abbrev pub most_objective_terms : ℕ
most_objective_terms = 256

-- "03: begins the next constraint, at most 8", and "07 begins an equality, numbered together with the constraints and
-- counted among the 8": at most 8 conditions of both kinds
abbrev pub most_conditions : ℕ
most_conditions = 8

-- "04 E c(i16): term of the constraint begun last, degree at most 16, at most 32 each"; of an equality too: "its terms
-- use 04"
abbrev pub most_condition_degree : ℕ
most_condition_degree = 16

abbrev pub most_condition_terms : ℕ
most_condition_terms = 32

-- "05 j(u8) E: next monomial of basis j, degree at most 8, at most 64 each"
abbrev pub most_basis_degree : ℕ
most_basis_degree = 8

abbrev pub most_monomials : ℕ
most_monomials = 64

-- "j is 0 or a constraint already begun": a basis for g_0 and one for each condition
abbrev pub most_bases : ℕ
most_bases = 1 + most_conditions
