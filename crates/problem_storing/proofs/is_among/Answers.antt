-- `is_among`: std's search is the project's.
use Rattle.std.proofs.Common.{◌≡◌, ◌∙◌, refl, ℕ, Bool, true, false, cond, List, [], ◌∷◌, eqb}
use mathlib.Core.Bool.{◌||◌}
use Rattle.std.specs.List.{list_any}
use Rattle.polynomial.specs.Monomial.{among}
use Rattle.problem_storing.proofs.is_among.Goals as goal

or_cond : (a b : Bool) → (a || b) ≡ cond a true b
or_cond true b = refl
or_cond false b = refl

any_among : (k : ℕ) (keys : List ℕ) → list_any (λ y. eqb y k) keys ≡ among k keys
unfolding among
any_among k [] = refl
any_among k (x ∷ xs) = rw (any_among k xs) (or_cond (eqb x k) (among k xs))

pub returns : goal.returns
returns c = c.contains.ensures.value ∙ any_among c.args.key c.args.keys.now
