-- Fractions: a signed numerator over a denominator.
use Rattle.std.specs.Prelude.{Bool, cond, ℕ, ◌*◌, ℤ, pos, ◌-ℤ◌, ◌*ℤ◌}
use Rattle.std.specs.Int.Signed.{lt_z}
use Rattle.calls.specs.declared.Fraction.{Fraction}

abbrev pub fraction : ℤ → ℕ → Fraction
fraction p q = record { num = p; den = q }

-- what a refusal returns: "all other fields are 0"
abbrev pub none : Fraction
none = fraction (pos 0) 0

-- "Two fractions are compared by cross products"
abbrev pub is_less : Fraction → Fraction → Bool
is_less a b = lt_z (a.num *ℤ pos b.den) (b.num *ℤ pos a.den)

-- "Its gap is (P × q − p × Q)/(Q × q), not reduced": p/q the lower bound, P/Q the upper one
abbrev pub gap_of : Fraction → Fraction → Fraction
gap_of lower upper =
    fraction (upper.num *ℤ pos lower.den -ℤ lower.num *ℤ pos upper.den) (upper.den * lower.den)

-- "the gap comes out below zero": its numerator is below 0. A gap of 0 is a gap
abbrev pub is_negative : Fraction → Bool
is_negative f = lt_z f.num (pos 0)

-- "with 0 in both gap fields in place of document 01's gap"
abbrev pub unless_negative : Fraction → Fraction
unless_negative f = cond (is_negative f) none f
