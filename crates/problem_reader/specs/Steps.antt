-- What the reader holds of a problem between two commands, and what one command leaves of it.
use Rattle.std.specs.Prelude.{◌≡◌, List, [], ◌∷◌, ℕ, zero, suc, ◌+◌, ◌^◌, ◌≤◌, ◌<◌, ℤ, pos, length, get_or}
use Rattle.polynomial.specs.Terms.{term}
use Rattle.format.specs.declared.problem.Instruction.{Instruction}
use Rattle.format.specs.declared.problem.Instruction.TheVariants as I
use Rattle.format.specs.declared.problem.Kind.TheVariants as K
use Rattle.format.specs.ProblemRules.{Condition, Problem, no_condition, problem_applied}
use Rattle.format.specs.ProblemBases.{basis_of}
use Rattle.flat.specs.TermArrays.{FilledTerms}
use Rattle.flat.specs.Flat.{basis_in, polynomial_in, kind_number, FlatLimits}
use Rattle.problem_commands.specs.Checks.{late}
use Rattle.problem_storing.specs.Stores.{terms}
use Rattle.problem_storing.specs.declared.Polynomial.{Polynomial}

-- g_j with its kind
unfoldable pub condition_of : Problem → ℕ → Condition
condition_of p zero = record { kind = K.Inequality; terms = term 0 (pos 1) ∷ [] }
condition_of p (suc j) = get_or p.conditions j no_condition

-- the problem p as it was read so far: keys, coefficients and sizes are the arrays, v is the number of variables, last the
-- condition begun last (g_0 before the first), which is not laid out yet, and n the number of conditions
pub record Held (p : Problem) (keys : List ℕ) (coefficients : List ℤ) (sizes : List ℕ) (v : ℕ) (last : Polynomial) (n : ℕ) : Type 0 where
  pub limits : FlatLimits keys coefficients sizes
  pub variables : p.variables ≡ v
  pub variables_low : v ≤ 8
  pub count : length p.conditions ≡ n
  pub count_low : n ≤ 8
  pub nine : length p.bases ≡ 9
  pub bases : (j : ℕ) → j < 9 → basis_in keys sizes j ≡ basis_of p j
  pub objective : polynomial_in keys coefficients sizes 9 ≡ p.objective
  -- the multipliers before the last are laid out, and behind it none is
  pub laid : (j : ℕ) → j < n → polynomial_in keys coefficients sizes j ≡ (condition_of p j).terms
  pub latest : terms last ≡ (condition_of p n).terms
  pub filled : FilledTerms 16 32 (2 ^ 15) last.keys last.coefficients last.count
  pub empty : (j : ℕ) → n ≤ j → j < 9 → get_or sizes (9 + j) 0 ≡ 0
  pub kinds : (j : ℕ) → j < 9 → get_or sizes (20 + j) 0 ≡ kind_number (condition_of p j).kind
  pub rule : get_or sizes 29 0 ≡ p.rule
  pub order : get_or sizes 30 0 ≡ p.order

-- the basis that a command names
abbrev pub basis_named : Instruction → ℕ
basis_named (I.Variables n) = 0
basis_named (I.Objective k c) = 0
basis_named I.Inequality = 0
basis_named (I.Term k c) = 0
basis_named (I.Member j k) = j
basis_named I.End = 0
basis_named I.Equality = 0
basis_named (I.Rule r) = 0
basis_named (I.Order k) = 0

-- what the arm of a command leaves: number is the refusal of the last two checks, or 0 and what was read is stored
pub record Stepped (p : Problem) (i : Instruction) (keys : List ℕ) (coefficients : List ℤ) (sizes : List ℕ) (v : ℕ) (last : Polynomial) (n number : ℕ) : Type 0 where
  pub decided : number ≡ late p i
  pub limits : FlatLimits keys coefficients sizes
  pub held : number ≡ 0 → Held (problem_applied p i) keys coefficients sizes v last n
  pub on : I.End ≡ i → ⊥
