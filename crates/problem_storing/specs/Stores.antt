-- What one command leaves: of the condition begun last, and of a list in the arrays.
use Rattle.std.specs.Prelude.{cond, List, ℕ, ◌+◌, eqb, ℤ, pos, set, replicate}
use Rattle.polynomial.specs.Terms.{Term}
use Rattle.format.specs.declared.problem.Instruction.{Instruction}
use Rattle.format.specs.declared.problem.Instruction.TheVariants as I
use Rattle.format.specs.declared.problem.Kind.{Kind}
use Rattle.format.specs.declared.problem.Kind.TheVariants as K
use Rattle.flat.specs.TermArrays.{terms_in}
use Rattle.problem_storing.specs.declared.Polynomial.{Polynomial}

-- the terms that a polynomial holds
abbrev pub terms : Polynomial → List Term
terms q = terms_in q.count q.keys q.coefficients

-- the polynomial without terms
abbrev pub no_terms : Polynomial
no_terms = record { keys = replicate 32 0; coefficients = replicate 32 (pos 0); count = 0 }

-- the command that begins a condition of a kind
abbrev pub beginning : Kind → Instruction
beginning K.Inequality = I.Inequality
beginning K.Equality = I.Equality

-- a list with one element stored where no check failed
abbrev pub stored_if {ℓ} : {A : Type ℓ} → ℕ → List A → ℕ → A → List A
stored_if found l i a = cond (eqb found 0) (set l i a) l

-- a polynomial with one term more where no check failed
abbrev pub term_stored_if : ℕ → Polynomial → ℕ → ℤ → Polynomial
term_stored_if found q k c =
    cond (eqb found 0)
    (record { keys = set q.keys q.count k; coefficients = set q.coefficients q.count c; count = q.count + 1 }) q
