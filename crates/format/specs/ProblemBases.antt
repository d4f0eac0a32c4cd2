-- The bases of a problem and their multipliers by their numbers, 0 to 8.
use Rattle.std.specs.Prelude.{Bool, true, false, List, [], ◌∷◌, ℕ, zero, suc, pos, get_or}
use Rattle.polynomial.specs.Terms.{Term, term, keys_of}
use Rattle.format.specs.declared.problem.Kind.{Kind}
use Rattle.format.specs.declared.problem.Kind.TheVariants as K
use Rattle.format.specs.ProblemRules.{Problem, no_condition}

-- the monomials of basis j
unfoldable pub basis_of : Problem → ℕ → List ℕ
basis_of p j = get_or p.bases j []

-- "g_0 = 1 and g_j is constraint j"; "Blocks, symmetries, refusal 8 and the identity treat an equality as a constraint"
unfoldable pub multiplier : Problem → ℕ → List Term
multiplier p zero = term 0 (pos 1) ∷ []
multiplier p (suc j) = (get_or p.conditions j no_condition).terms

-- the exponents of g_j
unfoldable pub multiplier_of : Problem → ℕ → List ℕ
multiplier_of p j = keys_of (multiplier p j)

-- the kind of g_j. That g_0 = 1 is at least 0 holds everywhere, so g_0 counts as an inequality
unfoldable pub kind_of : Problem → ℕ → Kind
kind_of p zero = K.Inequality
kind_of p (suc j) = (get_or p.conditions j no_condition).kind

abbrev pub is_equality : Kind → Bool
is_equality K.Inequality = false
is_equality K.Equality = true
