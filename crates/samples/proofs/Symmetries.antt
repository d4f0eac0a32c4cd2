-- The sign symmetries of samples, started from their byte streams: each row's outcome is what the definitions compute.
use mathlib.Core.Path.{◌≡◌, refl}
use mathlib.Core.List.{List, [], ◌∷◌, ◌++◌, map}
use mathlib.Core.Bool.{false}
use Prim.Native.Nat.{ℕ, ◌-◌}
use lib.Count.{ones}
use lib.ListN.{length, replicate}
use Rattle.counting.specs.Counting.{listed}
use Rattle.polynomial.specs.Monomial.{exponent}
use Rattle.calls.specs.Symmetries.{parity_byte, meets_evenly, meets_all, exponents_of, passing, symmetries_of, symmetries_verdict, mask_bytes, masks_left}
use Rattle.calls.specs.declared.SymmetriesVerdict.{SymmetriesVerdict}
use Rattle.samples.proofs.Computing.{joining}
use Rattle.samples.specs.Streams.{problem_a, problem_c, problem_d, problem_e, problem_f, equality, inequality, rule, variables, end, problem_signs, problem_one_condition}
use Rattle.samples.specs.Verdicts.{symmetries_found, symmetries_refused}

-- what the call computes through, after the joining rule
symmetric : Unit {0}
unfolding exponent ones parity_byte meets_evenly meets_all exponents_of passing symmetries_of symmetries_verdict mask_bytes masks_left
symmetric = tt

-- a verdict, and the bytes that are left of 257 lent ones
record Row : Type 0 where
  verdict : SymmetriesVerdict
  bytes : List ℕ

abbrev outcome : List ℕ → Row
outcome s = record { verdict = symmetries_verdict false s; bytes = masks_left false s (replicate 257 7) }

abbrev found : List ℕ → Row
found masks = record {
  verdict = symmetries_found (length masks);
  bytes = masks ++ replicate (256 - length masks) 0 ++ (7 ∷ []);
}

-- A, C and F have the exponent 1, and E the constraint x: no mask but 0. D has even exponents alone: all four. The
-- example of paper 003: both signs turned together. The condition x2, of either kind and under rule 2: the sign of
-- x1. The empty stream
pub symmetries :
    map outcome
    (problem_a
    ∷ problem_c
    ∷ problem_d
    ∷ problem_e
    ∷ problem_f
    ∷ problem_signs
    ∷ problem_one_condition inequality
    ∷ problem_one_condition equality
    ∷ problem_one_condition (rule 2 ++ equality)
    ∷ []
    ∷ [])
    ≡ found (0 ∷ [])
    ∷ found (0 ∷ [])
    ∷ found (0 ∷ 1 ∷ 2 ∷ 3 ∷ [])
    ∷ found (0 ∷ [])
    ∷ found (0 ∷ [])
    ∷ found (0 ∷ 3 ∷ [])
    ∷ found (0 ∷ 1 ∷ [])
    ∷ found (0 ∷ 1 ∷ [])
    ∷ found (0 ∷ 1 ∷ [])
    ∷ record { verdict = symmetries_refused 2 0; bytes = replicate 257 7 }
    ∷ []
unfolding joining symmetric
symmetries = refl

-- "from 0 to 2^n − 1": in 8 variables without an exponent every mask is one
pub all_masks : outcome (variables 8 ++ end) ≡ found (listed 256 (λ r. r))
unfolding joining symmetric
all_masks = refl
