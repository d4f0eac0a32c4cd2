-- Request 13's call, computed from bytes: case F with changes of the objective.
use mathlib.Core.Path.{◌≡◌, refl}
use mathlib.Core.List.{List, [], ◌∷◌, ◌++◌, map, flat_map}
use mathlib.Core.Bool.{false}
use Prim.Native.Nat.{ℕ}
use lib.IntN.{pos, negsuc}
use Rattle.counting.specs.Counting.{listed}
use Rattle.calls.specs.Adjusted.{change_at, changes_of, first_unfit, changes_refusal, is_one_minus_square, has_box, boxed_to}
use Rattle.calls.specs.Adjusted.{absolute_sum, moved_bound, adjusted_by, adjusted_of, adjusted_checked, adjusted_verdict}
use Rattle.samples.proofs.Computing.{checking}
use Rattle.samples.specs.Streams.{problem_a, problem_f, certificate_a, low_f, half_f, high_f, exponents, small, minus, variables, inequality, equality, condition_minus, end, header, finish}
use Rattle.samples.specs.Sums.{one, minus_square, linear}
use Rattle.samples.specs.Verdicts.{moved, adjusted_refused}

-- a change of x^e by d, or by d − 256
abbrev change : ℕ → ℕ → List ℕ
change e d = exponents e 0 ++ small d

abbrev change_minus : ℕ → ℕ → List ℕ
change_minus e d = exponents e 0 ++ minus d

-- so many changes of x by 1
abbrev changes : ℕ → List ℕ
changes n = flat_map (λ (i : ℕ). change 1 1) (listed n (λ i. i))

-- no objective: 0/1 without rows; and the term −x2²
abbrev lowest : List ℕ
lowest = header 0 1 0 1 ++ finish

abbrev second : List ℕ
second = condition_minus (exponents 0 2) 255

-- what the call computes through, after the check
adjusting : Unit {0}
unfolding change_at changes_of first_unfit changes_refusal is_one_minus_square has_box boxed_to absolute_sum moved_bound adjusted_by adjusted_of adjusted_checked adjusted_verdict
adjusting = tt

-- the lower bound of case F is −1, and as −2/2 it moves by 2 × 5. Without changes it stays; 5x and −5x move it by 10,
-- 0 times x³ by nothing; a change that is cut, the second of degree 33, the upper certificate; case A has no box; and
-- the check's refusal comes first
pub adjusted :
    adjusted_verdict false problem_f low_f []
    ∷ adjusted_verdict false problem_f low_f (change 1 5 ++ change_minus 1 251)
    ∷ adjusted_verdict false problem_f half_f (change_minus 1 251)
    ∷ adjusted_verdict false problem_f low_f (change 3 0)
    ∷ adjusted_verdict false problem_f low_f (change 1 5 ++ (1 ∷ []))
    ∷ adjusted_verdict false problem_f low_f (change 32 1 ++ change 33 1)
    ∷ adjusted_verdict false problem_f high_f (change 1 5)
    ∷ adjusted_verdict false problem_a certificate_a []
    ∷ adjusted_verdict false problem_f [] (1 ∷ [])
    ∷ []
    ≡ moved (negsuc 0) 1
    ∷ moved (negsuc 10) 1
    ∷ moved (negsuc 11) 2
    ∷ moved (negsuc 0) 1
    ∷ adjusted_refused 2 2 1
    ∷ adjusted_refused 4 2 1
    ∷ adjusted_refused 17 0 0
    ∷ adjusted_refused 16 0 0
    ∷ adjusted_refused 2 1 0
    ∷ []
unfolding checking adjusting
adjusted = refl

-- "up to 256 changes": of so many the first is looked at, and its degree is 33; one more: 6 at 256, whatever the
-- changes are; and one more that is cut: 2 comes first
pub most :
    adjusted_verdict false problem_f low_f (change 33 1 ++ changes 255)
    ∷ adjusted_verdict false problem_f low_f (change 33 1 ++ changes 256)
    ∷ adjusted_verdict false problem_f low_f (changes 257)
    ∷ adjusted_verdict false problem_f low_f (changes 257 ++ (1 ∷ []))
    ∷ []
    ≡ adjusted_refused 4 2 0 ∷ adjusted_refused 6 2 256 ∷ adjusted_refused 6 2 256 ∷ adjusted_refused 2 2 257 ∷ []
unfolding checking adjusting flat_map
most = refl

-- a box is an inequality with the terms 1 and −x², in either order; for every variable; exactly
pub boxes :
    map (λ (s : List ℕ). adjusted_verdict false s lowest [])
    ((variables 1 ++ inequality ++ one ++ minus_square ++ end)
    ∷ (variables 1 ++ inequality ++ minus_square ++ one ++ end)
    ∷ (variables 1 ++ equality ++ one ++ minus_square ++ end)
    ∷ (variables 1 ++ equality ++ inequality ++ one ++ minus_square ++ end)
    ∷ (variables 1 ++ inequality ++ one ++ minus_square ++ linear ++ end)
    ∷ (variables 2 ++ inequality ++ one ++ minus_square ++ end)
    ∷ (variables 2 ++ inequality ++ one ++ second ++ inequality ++ one ++ minus_square ++ end)
    ∷ (variables 2 ++ inequality ++ one ++ second ++ end)
    ∷ [])
    ≡ moved (pos 0) 1
    ∷ moved (pos 0) 1
    ∷ adjusted_refused 16 0 0
    ∷ moved (pos 0) 1
    ∷ adjusted_refused 16 0 0
    ∷ adjusted_refused 16 0 0
    ∷ moved (pos 0) 1
    ∷ adjusted_refused 16 0 0
    ∷ []
unfolding checking adjusting
boxes = refl
