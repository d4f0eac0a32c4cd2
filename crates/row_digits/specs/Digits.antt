-- The digits of a factor of 32 bits: l = h × 2^16 + l0 with −2^15 ≤ l0 < 2^15. So the products w × l × l' of a row are
--   w × l0 × l0'  +  2^16 × w × (l0 × h' + h × l0')  +  2^32 × w × h × h',
-- three parts, each of digits of 16 bits: the table of sums holds one at a time. A factor of 16 bits is its own l0.
use Rattle.std.specs.Prelude.{◌≡◌, Bool, false, List, [], ◌∷◌, ℕ, ◌^◌, ◌<◌, ℤ, pos, ◌+ℤ◌, ◌-ℤ◌, ◌*ℤ◌, get_or}
use Rattle.std.specs.Int.Signed.{shr_z}
use Rattle.counting.specs.Counting.{listed}
use Rattle.polynomial.specs.Terms.{Term, term}
use Rattle.polynomial.specs.Algebra.{sum}
use Rattle.format.specs.All.{All}
use Rattle.format.specs.ProblemRules.{Problem}
use Rattle.format.specs.ProblemBases.{basis_of, multiplier}
use Rattle.format.specs.CertificateRules.{Row}
use Rattle.row_digits.specs.declared.Part.{Part}
use Rattle.row_digits.specs.declared.Part.TheVariants as P
use Rattle.row_outer.specs.Gram.{factor_terms}
use Rattle.row_outer.specs.Frame.{share}
use Rattle.row_outer.specs.Outer.{outer_at}

-- where the digits meet
abbrev pub digit_base : ℕ
digit_base = 2 ^ 16

-- h is l / 2^16 rounded to the nearest whole number, up from the middle: (l + 2^15) / 2^16 rounded down
unfoldable pub high_digit : ℤ → ℤ
high_digit l = shr_z (l +ℤ pos (2 ^ 15)) digit_base

-- and l0 what that leaves
unfoldable pub low_digit : ℤ → ℤ
low_digit l = l -ℤ high_digit l *ℤ pos digit_base

-- a digit d of each factor
abbrev pub digits : (ℤ → ℤ) → List Term → List Term
digits d [] = []
digits d (t ∷ F) = term t.key (d t.coefficient) ∷ digits d F

-- no factor is wide
abbrev pub Narrow : List Term → Type 0
Narrow F = All (λ (t : Term). high_digit t.coefficient ≡ pos 0) F

abbrev pub NarrowRow : Row → Type 0
NarrowRow r = Narrow (factor_terms r.entries)

-- ---- the parts: what the factors F with the weight w add at place x
unfoldable pub part_of : Part → ℤ → List Term → ℕ → ℤ
part_of P.Low w F x = outer_at w (digits low_digit F) (digits low_digit F) x
part_of P.Cross w F x =
    outer_at w (digits low_digit F) (digits high_digit F) x +ℤ outer_at w (digits high_digit F) (digits low_digit F) x
part_of P.High w F x = outer_at w (digits high_digit F) (digits high_digit F) x

-- what a row adds there
abbrev pub part_at : Part → Row → ℕ → ℤ
part_at part r x = part_of part r.weight (factor_terms r.entries) x

-- and some rows
unfoldable pub parts : Part → List Row → ℕ → ℤ
parts part [] x = pos 0
parts part (r ∷ rs) x = part_at part r x +ℤ parts part rs x

-- what the table of a part gives at a key, each entry times b × b' times the terms of g_j
unfoldable pub part_spread : Problem → ℕ → Part → List Row → ℕ → ℤ
part_spread p j part rs k =
    sum (share (basis_of p j) (multiplier p j) k) (listed 4096 (λ x. term x (parts part rs x)))

-- ---- in arrays: the first places hold the digit d of each factor; and whether one is wide
pub record HoldsDigits (d : ℤ → ℤ) (factors : List ℤ) (count : ℕ) (held : List ℤ) (wide : Bool) : Type 0 where
  pub there : (k : ℕ) → k < count → get_or held k (pos 0) ≡ d (get_or factors k (pos 0))
  pub narrow : wide ≡ false → (k : ℕ) → k < count → high_digit (get_or factors k (pos 0)) ≡ pos 0
