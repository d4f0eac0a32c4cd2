-- Request 12 on case F and on problems without an objective, from their bytes: each outcome is what the definitions
-- compute.
use mathlib.Core.Path.{◌≡◌, refl}
use mathlib.Core.List.{[], ◌∷◌, ◌++◌}
use mathlib.Core.Bool.{true, false}
use lib.IntN.{pos, negsuc}
use Rattle.calls.specs.AddedBounds.{streams, same_region, sum_second, sum_pairs, sum_verdict}
use Rattle.samples.proofs.Computing.{pairing}
use Rattle.samples.specs.Streams.{inequality, equality, problem_f, low_f, high_f}
use Rattle.samples.specs.Sums.{case_f, halves_f, ruled_f, without, one, minus_square, linear}
use Rattle.samples.specs.Verdicts.{over, summed, sum_refused}

-- case F twice, and with its constraint alone; the bounds −2/2 and 1/1 of F, and the second problem under rule 2;
-- another number of variables or of conditions, another kind, the terms and the conditions exchanged; the second pair
-- refused in each of its streams; the first pair's refusal before it; a table that is too short
pub sums :
    sum_verdict false case_f case_f
    ∷ sum_verdict false case_f (without 1 (inequality ++ one ++ minus_square))
    ∷ sum_verdict false halves_f (ruled_f 2)
    ∷ sum_verdict false case_f (without 2 (inequality ++ one ++ minus_square))
    ∷ sum_verdict false case_f (without 1 (inequality ++ one ++ minus_square ++ inequality))
    ∷ sum_verdict false case_f (without 1 (equality ++ one ++ minus_square))
    ∷ sum_verdict false case_f (without 1 (inequality ++ minus_square ++ one))
    ∷ sum_verdict false (without 1 (inequality ++ one ++ inequality ++ linear))
    (without 1 (inequality ++ linear ++ inequality ++ one))
    ∷ sum_verdict false case_f (streams [] [] [])
    ∷ sum_verdict false case_f (streams problem_f high_f low_f)
    ∷ sum_verdict false case_f (streams problem_f low_f low_f)
    ∷ sum_verdict false (streams problem_f high_f low_f) (streams [] [] [])
    ∷ sum_verdict true case_f case_f
    ∷ []
    ≡ summed (over (negsuc 1) 1) (over (pos 2) 1) 1 1
    ∷ summed (over (negsuc 0) 1) (over (pos 1) 1) 1 1
    ∷ summed (over (negsuc 3) 2) (over (pos 2) 1) 1 2
    ∷ sum_refused 15 0 0 0
    ∷ sum_refused 15 0 0 0
    ∷ sum_refused 15 0 0 0
    ∷ sum_refused 15 0 0 0
    ∷ sum_refused 15 0 0 0
    ∷ sum_refused 2 3 0 0
    ∷ sum_refused 10 4 0 0
    ∷ sum_refused 10 5 0 0
    ∷ sum_refused 10 1 0 0
    ∷ sum_refused 1 0 0 0
    ∷ []
unfolding pairing same_region sum_second sum_pairs sum_verdict
sums = refl
