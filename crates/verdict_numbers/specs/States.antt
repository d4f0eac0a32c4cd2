-- The state of a window of gaps (request 11) in lent numbers: which window they stand for, and what a push leaves in
-- them. "A state holds the latest 32 gaps as fractions": numerator and denominator of each, the newest first, and then
-- how many are held. Any 65 numbers are a state.
use Rattle.std.specs.Prelude.{◌≡◌, Bool, cond, false, ◌||◌, List, ◌∷◌, ◌++◌, ℕ, min, ◌+◌, ◌*◌, ltb, length, get_or, take, drop}
use Rattle.counting.specs.Counting.{listed}
use Rattle.format.specs.Operands.{signed}
use Rattle.calls.specs.Fractions.{fraction, none}
use Rattle.calls.specs.Refusals.{problem_refusal}
use Rattle.calls.specs.Window.{is_refused, push_verdict, AfterArrivals}
use Rattle.calls.specs.declared.Fraction.{Fraction}
use Rattle.calls.specs.declared.GapWindow.{GapWindow}
use Rattle.calls.specs.declared.Pushed.{Pushed}
use Rattle.calls.specs.declared.WindowVerdict.{WindowVerdict}
use Rattle.verdict_numbers.specs.Numbers.{with_fraction, run_short}

abbrev pub state_length : ℕ
state_length = 65

-- ---- the window that numbers stand for
unfoldable pub gap_in : List ℕ → ℕ → Fraction
gap_in s age = fraction (signed 63 (get_or s (2 * age) 0)) (get_or s (2 * age + 1) 0)

unfoldable pub window_in : List ℕ → GapWindow
window_in s = record { gaps = listed 32 (gap_in s); count = get_or s 64 0 }

-- ---- a push of a gap
-- refusal 1: the run for the verdict's 7 numbers is too short, or the state
abbrev pub window_short : List ℕ → List ℕ → Bool
window_short run s = run_short 7 run (ltb (length s) state_length)

-- refusal 1, or the verdict of request 11
unfoldable pub window_verdict : Bool → List ℕ → Fraction → WindowVerdict
window_verdict short s a =
    cond short (record { refusal = problem_refusal 1 0; widest = none; age = 0 }) (push_verdict (window_in s) a)

-- "a new one pushes the oldest out": it stands first, the others a place later, then how many are held; what is past
-- the state stays
unfoldable pub with_newest_numbers : List ℕ → Fraction → List ℕ
with_newest_numbers s a = with_fraction a (take 62 s ++ (min 32 (get_or s 64 0 + 1) ∷ drop state_length s))

-- the state at exit: "the state is unchanged" by a refusal
unfoldable pub state_left : Bool → List ℕ → Fraction → List ℕ
state_left short s a = cond (short || is_refused a) s (with_newest_numbers s a)

-- ---- "For every list of arrivals from an empty state", of what the numbers stand for before and after a push: where
-- nothing is too short
abbrev pub StateArrivals : Bool → List ℕ → Fraction → List ℕ → Type 0
StateArrivals short s a left =
    let pushed : Pushed = record { window = window_in left; verdict = window_verdict short s a } in
    short ≡ false → AfterArrivals (window_in s) a pushed
