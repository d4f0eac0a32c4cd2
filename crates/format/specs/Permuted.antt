-- Two lists with the same elements in any order: an exchange of neighbours, one after another, gives every order.
use Rattle.std.specs.Prelude.{List, [], ◌∷◌}

pub data Permuted {A : Type 0} : List A → List A → Type 0 where
  none : Permuted [] []
  same : {a : A} {l l' : List A} → Permuted l l' → Permuted (a ∷ l) (a ∷ l')
  exchanged : {a b : A} {l : List A} → Permuted (a ∷ b ∷ l) (b ∷ a ∷ l)
  then : {l l' l'' : List A} → Permuted l l' → Permuted l' l'' → Permuted l l''
