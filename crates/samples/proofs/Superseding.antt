-- Request 02's call, computed from bytes: two certificates of case F, with what comes back and what the four numbers
-- receive.
use mathlib.Core.Path.{◌≡◌, refl}
use mathlib.Core.List.{List, [], ◌∷◌}
use mathlib.Core.Bool.{Bool, true, false}
use Prim.Native.Nat.{ℕ}
use Rattle.calls.specs.Superseding.{is_tighter, tighter_of, superseding_of, superseding_verdict, part_of, stream_of}
use Rattle.calls.specs.declared.Refusal.{Refusal}
use Rattle.samples.proofs.Computing.{checking}
use Rattle.samples.specs.Streams.{problem_f, problem_f_with, rule, low_f, half_f, loose_low_f, high_f, loose_high_f, certificate_i}
use Rattle.samples.specs.Verdicts.{refusal}

-- the four numbers, the number of the certificate that comes back, or 0, and its bytes
record Row : Type 0 where
  numbers : Refusal
  chosen : ℕ
  part : List ℕ

abbrev outcome : Bool → List ℕ → List ℕ → List ℕ → Row
outcome short problem first second =
    let v = superseding_verdict short problem first second in
    record { numbers = v.refusal; chosen = stream_of v.chosen; part = part_of v.chosen first second }

abbrev back : ℕ → List ℕ → Row
back chosen part =
    record { numbers = record { number = 0; stream = 0; place = 0; key = 0 }; chosen = chosen; part = part }

abbrev nothing : Refusal → Row
nothing r = record { numbers = r; chosen = 0; part = [] }

-- the lower bounds −1 and −2, in either order; the upper bounds 1 and 2, in either order; −1/1 and −2/2, which are
-- equal: "the first when equal"; one that is accepted beside one that is not, in either order; neither: "the first
-- one's refusal"; one of each side: 11; an empty problem, a rule that is none, and a table that is too short
pub superseding :
    outcome false problem_f low_f loose_low_f
    ∷ outcome false problem_f loose_low_f low_f
    ∷ outcome false problem_f high_f loose_high_f
    ∷ outcome false problem_f loose_high_f high_f
    ∷ outcome false problem_f low_f half_f
    ∷ outcome false problem_f half_f low_f
    ∷ outcome false problem_f low_f certificate_i
    ∷ outcome false problem_f certificate_i low_f
    ∷ outcome false problem_f certificate_i []
    ∷ outcome false problem_f [] certificate_i
    ∷ outcome false problem_f low_f high_f
    ∷ outcome false problem_f loose_high_f low_f
    ∷ outcome false [] low_f loose_low_f
    ∷ outcome false (problem_f_with (rule 3)) low_f loose_low_f
    ∷ outcome true problem_f low_f loose_low_f
    ∷ []
    ≡ back 1 low_f
    ∷ back 2 low_f
    ∷ back 1 high_f
    ∷ back 2 high_f
    ∷ back 1 low_f
    ∷ back 1 half_f
    ∷ back 1 low_f
    ∷ back 2 low_f
    ∷ nothing (refusal 4 1 0 0)
    ∷ nothing (refusal 2 1 0 0)
    ∷ nothing (refusal 11 2 0 0)
    ∷ nothing (refusal 11 2 0 0)
    ∷ nothing (refusal 2 0 0 0)
    ∷ nothing (refusal 4 0 2 0)
    ∷ nothing (refusal 1 0 0 0)
    ∷ []
unfolding checking is_tighter tighter_of superseding_of superseding_verdict
superseding = refl
