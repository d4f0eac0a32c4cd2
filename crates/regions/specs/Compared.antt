-- What a comparison tells, and what is compared of two problems.
use Rattle.std.specs.Prelude.{◌≡◌, Bool, true, ℕ}
use Rattle.format.specs.ProblemRules.{Problem}
use Rattle.format.specs.ProblemBases.{multiplier, kind_of}

-- a test that is true exactly where P holds
pub record Tells (r : Bool) (P : Type 0) : Type 0 where
  pub only : r ≡ true → P
  pub always : P → r ≡ true

-- condition j of two problems is the same: g_j and its kind
pub record SameCondition (p q : Problem) (j : ℕ) : Type 0 where
  pub kind : kind_of p j ≡ kind_of q j
  pub terms : multiplier p j ≡ multiplier q j
