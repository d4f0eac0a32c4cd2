-- The state that a push leaves without a refusal: with the new gap.
use native.Mathlib.Omega.{arith}
use mathlib.Core.Path.{◌≡◌, refl}
use mathlib.Core.Bool.{Bool, true, false, cond}
use mathlib.Core.List.{List}
use Prim.Native.Nat.{ℕ, min, ◌+◌, ◌≤◌}
use lib.ListN.{length, get_or, set}
use Rattle.calls.specs.Report.{unsigned}
use Rattle.calls.specs.Window.{is_refused, push_verdict, window_after}
use Rattle.calls.specs.declared.Fraction.{Fraction}
use Rattle.calls.specs.declared.GapWindow.{GapWindow}
use Rattle.calls.specs.declared.Pushed.{Pushed}
use Rattle.verdict_numbers.specs.States.{window_in, with_newest_numbers, state_left}
use Rattle.window_state.proofs.Shifted.{later, count_put}

module _ (s : List ℕ) (a : Fraction) (w : GapWindow) (r : Pushed) (v : r.verdict ≡ push_verdict w a) where
  -- refusal 14 is the only one
  number_14 : is_refused a ≡ true → r.verdict.refusal.number ≡ 14
  unfolding push_verdict
  number_14 e = rw (v, e) refl

  module _ (is : w ≡ window_in s) (k : r.window ≡ window_after w a) (long : 65 ≤ length s) where
    count_is : is_refused a ≡ false → r.window.count ≡ min 32 (get_or s 64 0 + 1)
    unfolding window_in
    count_is e = rw (k, is, e) refl

    pub when_accepted : r.verdict.refusal.number ≡ 0 → (left : List ℕ)
        → left ≡ later s (unsigned 63 a.num) a.den → set left 64 r.window.count ≡ state_left false s a
    unfolding state_left with_newest_numbers
    when_accepted h left put = go (is_refused a) refl
      where
        go : (t : Bool) → is_refused a ≡ t → set left 64 r.window.count ≡ cond t s (with_newest_numbers s a)
        go true e = absurd (omega (arith, number_14 e))
        go false e = rw (put, count_is e) (count_put s (unsigned 63 a.num) a.den long (min 32 (get_or s 64 0 + 1)))
