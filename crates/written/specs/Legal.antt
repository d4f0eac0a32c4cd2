-- The limits of the two streams as the documents state them: what may be written. The numbers stand here as the
-- documents have them, and not by the names that the readers go by: so the theorems in proofs/ hold the readers to
-- them, from both sides.
use Rattle.std.specs.Prelude.{◌≡◌, List, [], ℕ, ◌-◌, ◌^◌, ◌≤◌, ◌<◌, ℤ, pos, negsuc, nat_abs, length, get_or}
use Rattle.polynomial.specs.Terms.{Term}
use Rattle.format.specs.All.{All}
use Rattle.format.specs.declared.problem.Kind.{Kind}
use Rattle.format.specs.declared.problem.Kind.TheVariants as K
use Rattle.format.specs.ProblemRules.{Condition, Problem}
use Rattle.format.specs.ProblemBases.{kind_of}
use Rattle.format.specs.CertificateRules.{Entry, Row, Certificate}
use Rattle.format.proofs.WithinLimits.{Monomials, Terms}
use Rattle.format.proofs.CertificateLimits.{SoundRow}

-- "u and i mean unsigned and signed with their width in bits": a signed number of b bits, −2^(b−1) to 2^(b−1) − 1
abbrev pub OfBits : ℕ → ℤ → Type 0
OfBits b (pos n) = n < 2 ^ (b - 1)
OfBits b (negsuc n) = n < 2 ^ (b - 1)

-- a polynomial in n variables, of total degree at most d, with at most `most` terms of different monomials, and with
-- coefficients of b bits that "are never 0". It "may be empty". That a key has the 8 bytes of E follows: n is at most
-- 8, and "Exponents of variables above n are 0"
pub record Polynomial (n d most b : ℕ) (ts : List Term) : Type 0 where
  pub terms : Terms n d most ts
  pub coefficients : All (λ (t : Term). OfBits b t.coefficient) ts

pub record Legal (p : Problem) : Type 0 where
  -- "01 n(u8): number of variables, 1 to 8"
  pub variables : (1 ≤ p.variables) × (p.variables ≤ 8)
  -- "08 rule(u8), value 1 or 2"
  pub rule : (1 ≤ p.rule) × (p.rule ≤ 2)
  -- "09 k(u8), from 1 to 255"; 0 without a 09
  pub order : p.order ≤ 255
  -- "02 E c(i32): objective term, total degree at most 32, at most 256"
  pub objective : Polynomial p.variables 32 256 32 p.objective
  -- "03: begins the next constraint, at most 8", and 07 "counted among the 8"
  pub conditions : length p.conditions ≤ 8
  -- "04 E c(i16): term of the constraint begun last, degree at most 16, at most 32 each"
  pub terms : All (λ (g : Condition). Polynomial p.variables 16 32 16 g.terms) p.conditions
  -- "05 j(u8) E: next monomial of basis j, degree at most 8, at most 64 each"
  pub bases : length p.bases ≡ 9
  pub members : All (Monomials p.variables 8 64) p.bases
  -- "j is 0 or a constraint already begun"
  pub begun : (j : ℕ) → length p.conditions < j → get_or p.bases j [] ≡ []

-- ---- a certificate that keeps to its problem's rules
-- "11 j(u8) w(u16)", and "14 j(u8) w(i16)" on an equality
abbrev pub WeightOf : Kind → ℤ → Type 0
WeightOf K.Inequality w = nat_abs w < 2 ^ 16
WeightOf K.Equality w = OfBits 16 w

pub record LegalRow (p : Problem) (r : Row) : Type 0 where
  -- "on basis j, 0 or a constraint of the problem, with weight w at least 1"; on an equality "negative or positive,
  -- never 0"; entries "on basis index i, less than the basis's length"; "Indices rise within a row"; "factors are
  -- never 0"
  pub sound : SoundRow p r
  pub weight : WeightOf (kind_of p r.basis) r.weight
  -- "12 i(u8) l(i16)", and "15 i(u8) l(i32)"
  pub factors : All (λ (e : Entry). OfBits 32 e.factor) r.entries

pub record LegalCertificate (p : Problem) (c : Certificate) : Type 0 where
  -- "10 side(u8) D(u16) p(i32) q(u16): side 0 lower, 1 upper; D and q at least 1"
  pub side : c.header.side ≤ 1
  pub scale : (1 ≤ c.header.scale) × (c.header.scale < 2 ^ 16)
  pub numerator : OfBits 32 c.header.p
  pub denominator : (1 ≤ c.header.q) × (c.header.q < 2 ^ 16)
  -- "at most 128 rows", and a row on an equality is "counted among the 128"
  pub count : length c.rows ≤ 128
  pub rows : All (LegalRow p) c.rows
