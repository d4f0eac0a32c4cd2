-- Request 11's state and calls on lists of arrivals, in the order of arriving, from an empty state.
use mathlib.Core.Path.{◌≡◌, refl}
use mathlib.Core.List.{List, [], ◌∷◌, ◌++◌, map}
use Prim.Native.Nat.{ℕ, ◌-◌, ◌^◌}
use lib.IntN.{pos, negsuc}
use lib.ListN.{drop}
use Rattle.counting.specs.Counting.{listed}
use Rattle.calls.specs.Window.{is_refused, widest_of, arrival_verdict, verdicts_after, held, empty_window, push_verdict, push_verdicts}
use Rattle.calls.specs.declared.Fraction.{Fraction}
use Rattle.calls.specs.declared.WindowVerdict.{WindowVerdict}
use Rattle.samples.specs.Verdicts.{over, widest_found, arrival_refused}

-- the outcomes by the arrivals, and by the states of the calls one after the other
record Row : Type 0 where
  arrivals : List WindowVerdict
  states : List WindowVerdict

abbrev outcome : List Fraction → Row
outcome l = record { arrivals = verdicts_after [] l; states = push_verdicts empty_window l }

abbrev both : List WindowVerdict → Row
both l = record { arrivals = l; states = l }

-- "14 exactly for a numerator below 0 or from 2^48, or a denominator of 0 or from 2^32": at each limit on both sides. A
-- refusal is no arrival: the ages count accepted ones
pub limits :
    outcome
    (over (negsuc 0) 1
    ∷ over (pos 0) 0
    ∷ over (pos 0) (2 ^ 32)
    ∷ over (pos 0) (2 ^ 32 - 1)
    ∷ over (pos (2 ^ 48)) 1
    ∷ over (pos (2 ^ 48 - 1)) 1
    ∷ over (pos 0) 1
    ∷ over (negsuc 4) 0
    ∷ over (pos 1) 1
    ∷ [])
    ≡ both
    (arrival_refused
    ∷ arrival_refused
    ∷ arrival_refused
    ∷ widest_found (over (pos 0) (2 ^ 32 - 1)) 0
    ∷ arrival_refused
    ∷ widest_found (over (pos (2 ^ 48 - 1)) 1) 0
    ∷ widest_found (over (pos (2 ^ 48 - 1)) 1) 1
    ∷ arrival_refused
    ∷ widest_found (over (pos (2 ^ 48 - 1)) 1) 2
    ∷ [])
unfolding listed is_refused widest_of arrival_verdict held push_verdict
limits = refl

-- "the newest on ties": 1/2, 2/4, 1/3, 3/6; then a wider one
pub ties :
    outcome (over (pos 1) 2 ∷ over (pos 2) 4 ∷ over (pos 1) 3 ∷ over (pos 3) 6 ∷ over (pos 2) 3 ∷ [])
    ≡ both
    (widest_found (over (pos 1) 2) 0
    ∷ widest_found (over (pos 2) 4) 0
    ∷ widest_found (over (pos 2) 4) 1
    ∷ widest_found (over (pos 3) 6) 0
    ∷ widest_found (over (pos 2) 3) 0
    ∷ [])
unfolding listed is_refused widest_of arrival_verdict held push_verdict
ties = refl

-- falling gaps, 40/1, 39/1 ..: the first is the widest of 32, its age rising to 31; with one more it is pushed out,
-- and the second is the widest, of age 31. A gap that is refused pushes nothing out
abbrev falling : ℕ → List Fraction
falling n = listed n (λ i. over (pos (40 - i)) 1)

pub thirty_two :
    map (λ l. drop 30 (verdicts_after [] l)) (falling 34 ∷ (falling 32 ++ (over (pos 9) 0 ∷ over (pos 1) 1 ∷ [])) ∷ [])
    ≡ (widest_found (over (pos 40) 1) 30
    ∷ widest_found (over (pos 40) 1) 31
    ∷ widest_found (over (pos 39) 1) 31
    ∷ widest_found (over (pos 38) 1) 31
    ∷ [])
    ∷ (widest_found (over (pos 40) 1) 30
    ∷ widest_found (over (pos 40) 1) 31
    ∷ arrival_refused
    ∷ widest_found (over (pos 39) 1) 31
    ∷ [])
    ∷ []
unfolding listed is_refused widest_of arrival_verdict
thirty_two = refl

-- the same by the states
pub thirty_two_states :
    drop 30 (push_verdicts empty_window (falling 34))
    ≡ widest_found (over (pos 40) 1) 30
    ∷ widest_found (over (pos 40) 1) 31
    ∷ widest_found (over (pos 39) 1) 31
    ∷ widest_found (over (pos 38) 1) 31
    ∷ []
unfolding listed is_refused widest_of held push_verdict
thirty_two_states = refl
