-- What the reader leaves in the arrays.
use Rattle.std.specs.Prelude.{◌≡◌, List, ℕ, ℤ, Result, IfOk, IfErr}
use Rattle.faults.specs.Numbers.{fault_number}
use Rattle.faults.specs.declared.Misread.{Misread}
use Rattle.format.specs.Commands.{refused, given}
use Rattle.format.specs.ProblemRules.{Problem, read_problem}
use Rattle.flat.specs.Flat.{FlatLimits, FlatProblem}

-- the stream gives a problem, and the arrays hold it
pub record GivenFlat (s keys : List ℕ) (coefficients : List ℤ) (sizes : List ℕ) : Type 0 where
  pub problem : Problem
  pub read : read_problem s ≡ given problem
  pub flat : FlatProblem problem keys coefficients sizes

-- what is read of a stream: it gives a problem, or it is refused with the number of a fault, at a place
pub record ReadFlat (s : List ℕ) (r : Result (Unit {0}) Misread) (keys : List ℕ) (coefficients : List ℤ) (sizes : List ℕ) : Type 0 where
  pub limits : FlatLimits keys coefficients sizes
  pub gives : IfOk r (λ _. GivenFlat s keys coefficients sizes)
  pub refuses : IfErr r (λ m. read_problem s ≡ refused (fault_number m.fault) m.place)
