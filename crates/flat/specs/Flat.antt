-- Where a problem stands in the three arrays that a call owns and lends to its steps, always in this order: `keys`
-- (1,120 numbers), `coefficients` (544 signed numbers) and `sizes` (31 numbers).
use Rattle.std.specs.Prelude.{◌≡◌, Bool, cond, List, ℕ, ◌+◌, ◌*◌, ◌^◌, ◌≤◌, ◌<◌, eqb, ltb, ℤ, pos, nat_abs, length, get_or, take, drop, replicate}
use Rattle.polynomial.specs.Terms.{Term}
use Rattle.format.specs.ProblemLimits.{latest_rule, most_order, most_objective_degree, most_objective_terms, most_conditions, most_condition_degree, most_condition_terms, most_basis_degree, most_monomials, most_bases}
use Rattle.format.specs.ProblemRules.{Problem}
use Rattle.format.specs.declared.problem.Kind.{Kind}
use Rattle.format.specs.ProblemBases.{basis_of, multiplier, kind_of, is_equality}
use Rattle.flat.specs.TermArrays.{terms_in}

-- ---- the places
-- basis j begins in keys at 64 j, and its length is sizes[j]
abbrev pub basis_at : ℕ → ℕ
basis_at j = 64 * j

-- polynomial j: 0 to 8 are the multipliers g_j; 9 is the objective, which comes last, with room for 256 terms
abbrev pub objective_number : ℕ
objective_number = 9

-- its exponents begin in keys behind the nine bases
abbrev pub exponents_at : ℕ → ℕ
exponents_at j = 576 + 32 * j

-- its coefficients in coefficients
abbrev pub coefficients_at : ℕ → ℕ
coefficients_at j = 32 * j

-- and the number of its terms stands in sizes behind the lengths of the bases
abbrev pub count_at : ℕ → ℕ
count_at j = 9 + j

-- behind these stands the number of conditions
abbrev pub conditions_at : ℕ
conditions_at = 19

-- and the kind of g_j behind that
abbrev pub kind_at : ℕ → ℕ
kind_at j = 20 + j

-- and then the joining rule that the problem names
abbrev pub rule_at : ℕ
rule_at = 29

-- and last the sparse order, 0 where it names none
abbrev pub order_at : ℕ
order_at = 30

-- ---- what stands there
abbrev pub basis_in : List ℕ → List ℕ → ℕ → List ℕ
basis_in keys sizes j = take (get_or sizes j 0) (drop (basis_at j) keys)

abbrev pub polynomial_in : List ℕ → List ℤ → List ℕ → ℕ → List Term
polynomial_in keys coefficients sizes j =
    terms_in (get_or sizes (count_at j) 0) (drop (exponents_at j) keys) (drop (coefficients_at j) coefficients)

-- a kind as a number
abbrev pub kind_number : Kind → ℕ
kind_number k = cond (is_equality k) 1 0

abbrev pub equality_in : List ℕ → ℕ → Bool
equality_in sizes j = eqb (get_or sizes (kind_at j) 0) 1

-- ---- the limits, by place
-- the most that may stand at a place of sizes
abbrev pub most_at : ℕ → ℕ
most_at i =
    cond (ltb i (count_at 0)) most_monomials (cond (ltb i (count_at objective_number)) most_condition_terms
    (cond (ltb i conditions_at) most_objective_terms (cond (ltb i (kind_at 0)) most_conditions
    (cond (ltb i rule_at) 1 (cond (ltb i order_at) latest_rule most_order)))))

-- the highest degree of a monomial at a place of keys
abbrev pub degree_at : ℕ → ℕ
degree_at i =
    cond (ltb i (exponents_at 0)) most_basis_degree
    (cond (ltb i (exponents_at objective_number)) most_condition_degree most_objective_degree)

-- the largest size of a coefficient at a place of coefficients: those of conditions have 16 bits, the objective's 32
abbrev pub largest_at : ℕ → ℕ
largest_at i = cond (ltb i (coefficients_at objective_number)) (2 ^ 15) (2 ^ 31)

-- arrays that a problem within the limits can stand in
pub record FlatLimits (keys : List ℕ) (coefficients : List ℤ) (sizes : List ℕ) : Type 0 where
  pub keys_length : length keys ≡ 1120
  pub coefficients_length : length coefficients ≡ 544
  pub sizes_length : length sizes ≡ 31
  pub sizes_low : (i : ℕ) → get_or sizes i 0 ≤ most_at i
  -- no key of a monomial of degree at most d is above d × 256^7
  pub keys_low : (i : ℕ) → get_or keys i 0 ≤ degree_at i * 2 ^ 56
  pub coefficients_low : (i : ℕ) → nat_abs (get_or coefficients i (pos 0)) ≤ largest_at i

-- the arrays hold the problem p
pub record FlatProblem (p : Problem) (keys : List ℕ) (coefficients : List ℤ) (sizes : List ℕ) : Type 0 where
  pub limits : FlatLimits keys coefficients sizes
  pub bases : (j : ℕ) → j < most_bases → basis_in keys sizes j ≡ basis_of p j
  pub multipliers : (j : ℕ) → j < most_bases → polynomial_in keys coefficients sizes j ≡ multiplier p j
  pub objective : polynomial_in keys coefficients sizes objective_number ≡ p.objective
  pub conditions : get_or sizes conditions_at 0 ≡ length p.conditions
  pub kinds : (j : ℕ) → j < most_bases → get_or sizes (kind_at j) 0 ≡ kind_number (kind_of p j)
  pub rule : get_or sizes rule_at 0 ≡ p.rule
  pub order : get_or sizes order_at 0 ≡ p.order

-- the arrays as a call makes them
pub record FlatZero (keys : List ℕ) (coefficients : List ℤ) (sizes : List ℕ) : Type 0 where
  pub keys_zero : keys ≡ replicate 1120 0
  pub coefficients_zero : coefficients ≡ replicate 544 (pos 0)
  pub sizes_zero : sizes ≡ replicate 31 0
