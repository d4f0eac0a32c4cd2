-- Request 11 of document 02, "Widest gap of the last 32": what each call returns, and the state that it leaves. Lists
-- of arrivals and of gaps have the newest first, so that a gap's age is its place.
use Rattle.std.specs.Prelude.{◌≡◌, Bool, cond, true, false, ◌||◌, List, [], ◌∷◌, ℕ, min, ◌+◌, ◌^◌, ◌<◌, eqb, leb, pos, length, get_or, take, replicate}
use Rattle.std.specs.Int.Signed.{lt_z, le_z}
use Rattle.counting.specs.Counting.{listed}
use Rattle.calls.specs.Fractions.{none, is_less}
use Rattle.calls.specs.Refusals.{no_refusal}
use Rattle.calls.specs.declared.Fraction.{Fraction}
use Rattle.calls.specs.declared.GapWindow.{GapWindow}
use Rattle.calls.specs.declared.AgedGap.{AgedGap}
use Rattle.calls.specs.declared.WindowVerdict.{WindowVerdict}
use Rattle.calls.specs.declared.Pushed.{Pushed}

-- ---- arrivals
-- "14 exactly for a numerator below 0 or from 2^48, or a denominator of 0 or from 2^32"
abbrev pub numerator_limit : ℕ
numerator_limit = 2 ^ 48

abbrev pub denominator_limit : ℕ
denominator_limit = 2 ^ 32

unfoldable pub is_refused : Fraction → Bool
is_refused f =
    (lt_z f.num (pos 0) || le_z (pos numerator_limit) f.num)
    || (eqb f.den 0 || leb denominator_limit f.den)

abbrev pub with_arrival : Fraction → List Fraction → List Fraction
with_arrival a l = cond (is_refused a) l (a ∷ l)

-- "accepted arrivals"
abbrev pub accepted_of : List Fraction → List Fraction
accepted_of [] = []
accepted_of (a ∷ past) = with_arrival a (accepted_of past)

-- "the last 32 accepted so far"
abbrev pub last_accepted : List Fraction → List Fraction
last_accepted past = take 32 (accepted_of past)

-- ---- "the widest held and its age (accepted arrivals since it), the newest on ties"
abbrev pub aged : Fraction → ℕ → AgedGap
aged x a = record { gap = x; age = a }

-- of x and the widest of those that arrived before it: x, unless it is less
abbrev pub wider_of : Fraction → AgedGap → AgedGap
wider_of x w = cond (is_less x w.gap) (aged w.gap (w.age + 1)) (aged x 0)

-- by cross products no fraction is less than 0 over 0, which stands for none
unfoldable pub widest_of : List Fraction → AgedGap
widest_of [] = aged none 0
widest_of (x ∷ l) = wider_of x (widest_of l)

-- ---- the verdict: "14 .., with stream and place 0"; "all other fields are 0"
abbrev pub refused_arrival : WindowVerdict
refused_arrival = record { refusal = record { number = 14; stream = 0; place = 0; key = 0 }; widest = none; age = 0 }

abbrev pub found_widest : AgedGap → WindowVerdict
found_widest w = record { refusal = no_refusal; widest = w.gap; age = w.age }

-- "each call's outcome is refusal 14 or the widest of the last 32 accepted so far, with its age": an arrival a after
-- those in past
unfoldable pub arrival_verdict : List Fraction → Fraction → WindowVerdict
arrival_verdict past a = cond (is_refused a) refused_arrival (found_widest (widest_of (last_accepted (a ∷ past))))

-- the outcomes of arrivals in the order of arriving, after those in past
abbrev pub verdicts_after : List Fraction → List Fraction → List WindowVerdict
verdicts_after past [] = []
verdicts_after past (a ∷ l) = arrival_verdict past a ∷ verdicts_after (a ∷ past) l

-- ---- the state: "A state holds the latest 32 gaps as fractions"
-- what it holds, age by age
unfoldable pub held : GapWindow → List Fraction
held w = listed (min 32 w.count) (λ age. get_or w.gaps age none)

abbrev pub empty_window : GapWindow
empty_window = record { gaps = replicate 32 none; count = 0 }

-- "a new one pushes the oldest out"
abbrev pub with_newest : GapWindow → Fraction → GapWindow
with_newest w a =
    record { gaps = listed 32 (λ age. get_or (a ∷ w.gaps) age none); count = min 32 (w.count + 1) }

-- "the state is unchanged" by a refusal
abbrev pub window_after : GapWindow → Fraction → GapWindow
window_after w a = cond (is_refused a) w (with_newest w a)

-- what a call returns, by what its state holds
unfoldable pub push_verdict : GapWindow → Fraction → WindowVerdict
push_verdict w a = cond (is_refused a) refused_arrival (found_widest (widest_of (take 32 (a ∷ held w))))

-- the calls on a list of arrivals in the order of arriving, one after the other
abbrev pub push_verdicts : GapWindow → List Fraction → List WindowVerdict
push_verdicts w [] = []
push_verdicts w (a ∷ l) = push_verdict w a ∷ push_verdicts (window_after w a) l

-- ---- what the calls promise
-- a state after the arrivals in past
abbrev pub StandsFor : GapWindow → List Fraction → Type 0
StandsFor w past = held w ≡ last_accepted past

-- "For every list of arrivals from an empty state": an empty state stands for no arrivals, and a call goes from any
-- list of arrivals to the list with one more
pub record AfterArrivals (w : GapWindow) (a : Fraction) (r : Pushed) : Type 0 where
  pub verdict : (past : List Fraction) → StandsFor w past → r.verdict ≡ arrival_verdict past a
  pub window : (past : List Fraction) → StandsFor w past → StandsFor r.window (a ∷ past)

-- x is held at the age told, none held is wider, and all that are newer are less
pub record Widest (l : List Fraction) (x : Fraction) (age : ℕ) : Type 0 where
  pub within : age < length l
  pub there : get_or l age none ≡ x
  pub widest : (j : ℕ) → j < length l → is_less x (get_or l j none) ≡ false
  pub newest : (j : ℕ) → j < age → is_less (get_or l j none) x ≡ true

-- where nothing is refused, that is what is returned, of the last 32 accepted
abbrev pub FindsWidest : GapWindow → Fraction → Pushed → Type 0
FindsWidest w a r =
    (past : List Fraction) → StandsFor w past → r.verdict.refusal.number ≡ 0
    → Widest (last_accepted (a ∷ past)) r.verdict.widest r.verdict.age
