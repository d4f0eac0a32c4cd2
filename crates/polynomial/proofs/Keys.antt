-- What holds of every monomial of a polynomial.
use mathlib.Core.List.{List, [], ◌∷◌}
use Prim.Native.Nat.{ℕ}
use Rattle.polynomial.specs.Terms.{Term}

-- every key has a property
abbrev pub Keys : (ℕ → Type 0) → List Term → Type 0
Keys A [] = Unit {0}
Keys A (t ∷ P) = A t.key × Keys A P
