-- What a problem within the limits of the documents is. Every problem that a stream gives is such (ProblemLimits.antt).
use mathlib.Core.Path.{◌≡◌}
use mathlib.Core.Bool.{true, false}
use mathlib.Core.List.{List, [], ◌∷◌}
use Prim.Native.Nat.{ℕ, ◌≤◌, ◌<◌}
use lib.IntN.{pos}
use lib.ListN.{length, get_or}
use Rattle.polynomial.specs.Monomial.{degree, within, among}
use Rattle.polynomial.specs.Terms.{Term, keys_of}
use Rattle.format.specs.All.{All}
use Rattle.format.specs.ProblemLimits.{most_variables, latest_rule, most_order, most_objective_degree, most_objective_terms, most_conditions, most_condition_degree, most_condition_terms, most_basis_degree, most_monomials, most_bases}
use Rattle.format.specs.ProblemRules.{Condition, Problem}

-- "no monomial twice"
unfoldable pub Distinct : List ℕ → Type 0
Distinct [] = Unit {0}
Distinct (k ∷ ks) = (among k ks ≡ false) × Distinct ks

-- at most `most` monomials in n variables, each of total degree at most d, none twice
pub record Monomials (n d most : ℕ) (ks : List ℕ) : Type 0 where
  pub count : length ks ≤ most
  pub degrees : All (λ k. degree k ≤ d) ks
  pub variables : All (λ k. within n k ≡ true) ks
  pub distinct : Distinct ks

-- a polynomial whose monomials are such, with no coefficient 0
pub record Terms (n d most : ℕ) (ts : List Term) : Type 0 where
  pub monomials : Monomials n d most (keys_of ts)
  pub nonzero : All (λ (t : Term). t.coefficient ≡ pos 0 → ⊥) ts

-- a condition whose terms are such, of either kind
abbrev pub ConditionTerms : ℕ → Condition → Type 0
ConditionTerms n g = Terms n most_condition_degree most_condition_terms g.terms

pub record Limits (p : Problem) : Type 0 where
  pub variables : (1 ≤ p.variables) × (p.variables ≤ most_variables)
  pub rule : (1 ≤ p.rule) × (p.rule ≤ latest_rule)
  -- 0 is that of a stream without 09
  pub order : p.order ≤ most_order
  pub objective : Terms p.variables most_objective_degree most_objective_terms p.objective
  pub conditions : length p.conditions ≤ most_conditions
  pub terms : All (ConditionTerms p.variables) p.conditions
  pub bases : length p.bases ≡ most_bases
  pub members : All (Monomials p.variables most_basis_degree most_monomials) p.bases
  -- a basis above 0 has a condition
  pub begun : (j : ℕ) → length p.conditions < j → get_or p.bases j [] ≡ []
