-- A pair whose region has real points and no rational one: where x² is 2, x is at least −17/12 and at most 17/12, in
-- every ordered ring.
use mathlib.Core.Path.{◌≡◌, refl, ap}
use mathlib.Core.Bool.{false}
use mathlib.Core.List.{[], ◌∷◌}
use lib.IntN.{pos, negsuc}
use Rattle.ordered_rings.specs.Rings.{OrderedRing, multiple, whole, power}
use Rattle.ordered_rings.proofs.Laws.{zero-+, one-*, minus-*}
use Rattle.ordered_rings.proofs.RootTwo.{AtLeastZero, rooted, with_root_two, √2, root_square}
use Rattle.polynomial.specs.Terms.{term}
use Rattle.polynomial.specs.RingPoint.{value_in}
use Rattle.format.specs.All.{All}
use Rattle.format.specs.Commands.{Outcome, refused, given}
use Rattle.format.specs.ProblemRules.{read_problem, Problem, no_problem}
use Rattle.accepting.specs.RingBounds.{MeetsIn, BoundedAboveIn}
use Rattle.calls.specs.Fractions.{fraction}
use Rattle.calls.specs.Pair.{pair_verdict}
use Rattle.calls.specs.declared.PairVerdict.{PairVerdict}
use Rattle.calls.specs.RingPromises.{HoldsIn}
use Rattle.calls.proofs.Pairing.{pair_clauses}
use Rattle.calls.proofs.RingPairs.{stated_in}
use Rattle.samples.proofs.Computing.{reading, pairing}
use Rattle.samples.specs.Roots.{problem_root, low_root, high_root}

-- the pair is accepted, with the bounds −17/12 and 17/12
abbrev verdict : PairVerdict
verdict = pair_verdict false problem_root low_root high_root

accepted :
    (verdict.refusal.number ≡ 0)
    × (verdict.lower ≡ fraction (negsuc 16) 12)
    × (verdict.upper ≡ fraction (pos 17) 12)
unfolding pairing
accepted = (refl, refl, refl)

-- so its bounds hold over every ordered ring
pub root : {A : Type 0} (R : OrderedRing A) (p : Problem) → read_problem problem_root ≡ given p
    → HoldsIn R p (fraction (negsuc 16) 12) (fraction (pos 17) 12)
root R p read =
    rw (accepted.1, accepted.2) at (stated_in R problem_root low_root high_root verdict
    ((pair_clauses false problem_root low_root high_root verdict refl).1.0.only accepted.0) p read)

-- ---- 17 − 12 × x is at least 0 where x × x is 2
-- the problem that the bytes give
abbrev problem_in : Outcome Problem → Problem
problem_in (refused number place) = no_problem
problem_in (given p) = p

module _ {A : Type 0} (R : OrderedRing A) where
  open R use {ring, order}
  open ring use {𝟘, 𝟙, ◌+◌, -◌, ◌*◌, +-zero, +-minus, *-one}
  open order use {◌≤◌}

  -- the objective and the equality there
  value_is : (x : A) → value_in ring (x ∷ []) (term 1 (pos 1) ∷ []) ≡ x
  unfolding value_in multiple whole power
  value_is x = simp (+-zero, zero-+ ring, *-one, one-* ring)

  condition_is : (x : A) → x * x ≡ 𝟙 + 𝟙 → value_in ring (x ∷ []) (term 0 (pos 2) ∷ term 2 (negsuc 0) ∷ []) ≡ 𝟘
  unfolding value_in multiple whole power
  condition_is x e =
      let two : whole ring (pos 2) ≡ 𝟙 + 𝟙 = ap (λ y. y + 𝟙) (zero-+ ring 𝟙) in
      simp (two, +-zero, zero-+ ring, *-one, one-* ring, minus-* ring, e, +-minus)

  pub root_two : (x : A) → x * x ≡ 𝟙 + 𝟙 → 𝟘 ≤ whole ring (pos 17) + - (whole ring (pos 12) * x)
  unfolding reading BoundedAboveIn All MeetsIn
  root_two x e =
      rw (value_is x) at ((root R (problem_in (read_problem problem_root)) refl).above (x ∷ [])
      (record { coordinates = refl; conditions = (condition_is x e, tt) }))

-- ---- and a number with that square: √2 among the numbers a + b√2, where 17 − 12√2 is at least 0
pub root_two_shown : AtLeastZero (rooted (pos 17) (negsuc 11))
unfolding multiple whole
root_two_shown = root_two with_root_two √2 root_square
