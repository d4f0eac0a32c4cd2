-- One more than a count allows, one monomial twice, an index that does not rise: what the readers do with it.
use Rattle.std.specs.Prelude.{◌≡◌, true, false, List, [], ◌∷◌, ◌++◌, ℕ, ◌^◌, ◌≤◌, ◌<◌, ℤ, pos, length}
use Rattle.polynomial.specs.Monomial.{degree, within, among}
use Rattle.polynomial.specs.Terms.{keys_of}
use Rattle.format.specs.Commands.{refused}
use Rattle.format.specs.declared.problem.Instruction.{Instruction as ProblemInstruction}
use Rattle.format.specs.declared.problem.Instruction.TheVariants as P
use Rattle.format.specs.declared.problem.Kind.TheVariants as K
use Rattle.format.specs.declared.certificate.Instruction.{Instruction as CertificateInstruction}
use Rattle.format.specs.declared.certificate.Instruction.TheVariants as I
use Rattle.format.specs.ProblemRules.{Condition, Problem, read_problem}
use Rattle.format.specs.ProblemBases.{basis_of, kind_of}
use Rattle.format.specs.CertificateRules.{Entry, Row, Certificate, read_certificate}
use Rattle.written.specs.Legal.{OfBits}
use Rattle.written.specs.ProblemWritten.{problem_bytes, open_problem}
use Rattle.written.specs.CertificateWritten.{certificate_bytes, open_certificate}

-- a monomial in n variables of total degree at most d, and a term of it with a coefficient of b bits
pub record Monomial (n d k : ℕ) : Type 0 where
  pub degree : degree k ≤ d
  pub variables : within n k ≡ true

pub record OfTerm (n d b k : ℕ) (c : ℤ) : Type 0 where
  pub monomial : Monomial n d k
  pub nonzero : c ≡ pos 0 → ⊥
  pub bits : OfBits b c

-- ---- a problem's stream without its end, with one more command, whatever stands behind that: the command is refused
abbrev pub Refuses : Problem → ℕ → ProblemInstruction → Type 0
Refuses p number x =
    (rest : List ℕ) → read_problem (open_problem p ++ (problem_bytes x ++ rest)) ≡ refused number (length (open_problem p))

pub record OneMoreRefused (p : Problem) : Type 0 where
  -- 6: "one more than a count allows", at "that command"
  pub objective : length p.objective ≡ 256 → (k : ℕ) (c : ℤ) → OfTerm p.variables 32 32 k c
      → among k (keys_of p.objective) ≡ false → Refuses p 6 (P.Objective k c)
  pub inequality : length p.conditions ≡ 8 → Refuses p 6 P.Inequality
  pub equality : length p.conditions ≡ 8 → Refuses p 6 P.Equality
  pub term : (gs : List Condition) (g : Condition) → p.conditions ≡ gs ++ (g ∷ []) → length g.terms ≡ 32 → (k : ℕ)
      (c : ℤ) → OfTerm p.variables 16 16 k c → among k (keys_of g.terms) ≡ false → Refuses p 6 (P.Term k c)
  pub member : (j : ℕ) → j ≤ length p.conditions → length (basis_of p j) ≡ 64 → (k : ℕ) → Monomial p.variables 8 k
      → among k (basis_of p j) ≡ false → Refuses p 6 (P.Member j k)
  -- 5: "monomial repeated", at the "second one"
  pub objective_twice : (k : ℕ) (c : ℤ) → OfTerm p.variables 32 32 k c → among k (keys_of p.objective) ≡ true
      → Refuses p 5 (P.Objective k c)
  pub term_twice : (gs : List Condition) (g : Condition) → p.conditions ≡ gs ++ (g ∷ []) → (k : ℕ) (c : ℤ)
      → OfTerm p.variables 16 16 k c → among k (keys_of g.terms) ≡ true → Refuses p 5 (P.Term k c)
  pub member_twice : (j : ℕ) → j ≤ length p.conditions → (k : ℕ) → Monomial p.variables 8 k
      → among k (basis_of p j) ≡ true → Refuses p 5 (P.Member j k)

-- ---- and a certificate's
abbrev pub RefusesRow : Problem → Certificate → ℕ → CertificateInstruction → Type 0
RefusesRow p c number x =
    (rest : List ℕ) → read_certificate p (open_certificate p c ++ (certificate_bytes x ++ rest))
    ≡ refused number (length (open_certificate p c))

pub record OneMoreRowRefused (p : Problem) (c : Certificate) : Type 0 where
  -- 6: "at most 128 rows"
  pub row : length c.rows ≡ 128 → (j w : ℕ) → j ≤ length p.conditions → kind_of p j ≡ K.Inequality → 1 ≤ w
      → w < 2 ^ 16 → RefusesRow p c 6 (I.Row j w)
  pub equality_row_lem : length c.rows ≡ 128 → (j : ℕ) (w : ℤ) → j ≤ length p.conditions → kind_of p j ≡ K.Equality
      → (w ≡ pos 0 → ⊥) → OfBits 16 w → RefusesRow p c 6 (I.EqualityRow j w)
  -- 5: "index not rising"
  pub entry : (rs : List Row) (r : Row) → c.rows ≡ rs ++ (r ∷ []) → (es : List Entry) (e : Entry)
      → r.entries ≡ es ++ (e ∷ []) → (n : ℕ) (l : ℤ) → n ≤ e.index → n < length (basis_of p r.basis)
      → (l ≡ pos 0 → ⊥) → OfBits 16 l → RefusesRow p c 5 (I.Entry n l)
  pub wide_entry_lem : (rs : List Row) (r : Row) → c.rows ≡ rs ++ (r ∷ []) → (es : List Entry) (e : Entry)
      → r.entries ≡ es ++ (e ∷ []) → (n : ℕ) (l : ℤ) → n ≤ e.index → n < length (basis_of p r.basis)
      → (l ≡ pos 0 → ⊥) → OfBits 32 l → RefusesRow p c 5 (I.WideEntry n l)
