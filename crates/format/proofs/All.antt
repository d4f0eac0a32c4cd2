-- A law of a property that every element has.
use mathlib.Core.List.{List, [], ◌∷◌}
use Rattle.format.specs.All.{All}

pub all_map : {X : Type 0} (A B : X → Type 0) → ((x : X) → A x → B x) → (l : List X) → All A l → All B l
unfolding All
all_map A B f [] h = tt
all_map A B f (x ∷ l) h = (f x h.0, all_map A B f l h.1)
