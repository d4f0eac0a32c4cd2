-- A property that every element of a list has.
use Rattle.std.specs.Prelude.{List, [], ◌∷◌}

unfoldable pub All {ℓ} : {A : Type ℓ} → (A → Type 0) → List A → Type 0
All P [] = Unit {0}
All P (a ∷ l) = P a × All P l
