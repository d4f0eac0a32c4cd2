-- A region without a rational point: objective x, equality 2 − x², bases {1, x} and {1}.
use Rattle.std.specs.Prelude.{List, ◌++◌, ℕ}
use Rattle.samples.specs.Streams.{exponents, variables, objective_term, equality, condition_term, condition_minus, member_command, end, header, header_minus, row, equality_row, entry, entry_minus, finish}

abbrev pub problem_root : List ℕ
problem_root =
    variables 1
    ++ objective_term (exponents 1 0) 1
    ++ equality
    ++ condition_term (exponents 0 0) 2
    ++ condition_minus (exponents 2 0) 255
    ++ member_command 0 (exponents 0 0)
    ++ member_command 0 (exponents 1 0)
    ++ member_command 1 (exponents 0 0)
    ++ end

-- 12x + 17 = (3 + 2x)² + 4(2 − x²) and 17 − 12x = (−3 + 2x)² + 4(2 − x²)
abbrev pub low_root : List ℕ
low_root = header_minus 0 1 239 12 ++ row 0 1 ++ entry 0 3 ++ entry 1 2 ++ equality_row 1 4 ++ entry 0 1 ++ finish

abbrev pub high_root : List ℕ
high_root = header 1 1 17 12 ++ row 0 1 ++ entry_minus 0 253 ++ entry 1 2 ++ equality_row 1 4 ++ entry 0 1 ++ finish
