-- What a call promises, from what it returns and leaves.
use mathlib.Core.Path.{◌≡◌, refl, ap, ◌∙◌}
use mathlib.Core.Bool.{true, false}
use Rattle.calls.specs.declared.Fraction.{Fraction}
use Rattle.calls.specs.declared.GapWindow.{GapWindow}
use Rattle.calls.specs.declared.AgedGap.{AgedGap}
use Rattle.calls.specs.declared.WindowVerdict.{WindowVerdict}
use Rattle.calls.specs.declared.Pushed.{Pushed}
use Rattle.calls.specs.Window.{is_refused, widest_of, refused_arrival, found_widest, held, with_newest, window_after}
use Rattle.calls.specs.Window.{push_verdict, AfterArrivals, FindsWidest}
use Rattle.calls.specs.Zeros.{WindowZeros}
use Rattle.calls.proofs.Zeros.{window_zeros}
use Rattle.calls.proofs.Windows.{held_newest, after_arrivals}
use Rattle.calls.proofs.WidestGap.{finds_widest}

abbrev pub Promised : GapWindow → Fraction → Pushed → Type 0
Promised w a r =
    (r.verdict ≡ push_verdict w a)
    × ((r.window ≡ window_after w a) × (AfterArrivals w a r × (FindsWidest w a r × WindowZeros r.verdict)))

promised : (w : GapWindow) (a : Fraction) (r : Pushed) → r.verdict ≡ push_verdict w a → r.window ≡ window_after w a
    → Promised w a r
promised w a r v s = (v, (s, (after_arrivals w a r v s, (finds_widest w a r v, rw v (window_zeros w a)))))

abbrev pub pushed_to : GapWindow → WindowVerdict → Pushed
pushed_to w v = record { window = w; verdict = v }

module _ (w : GapWindow) (a : Fraction) where
  pub refused : is_refused a ≡ true → Promised w a (pushed_to w refused_arrival)
  unfolding push_verdict
  refused t = promised w a (pushed_to w refused_arrival) (rw t refl) (rw t refl)

  module _ (t : is_refused a ≡ false) (next : GapWindow) (e : next ≡ with_newest w a)
      (found : AgedGap) (f : found ≡ widest_of (held next)) where
    verdict_is : found_widest found ≡ push_verdict w a
    unfolding push_verdict
    verdict_is = rw t (ap found_widest (f ∙ ap widest_of (ap held e ∙ held_newest w a)))

    pub accepted : Promised w a (pushed_to next (found_widest found))
    accepted = promised w a (pushed_to next (found_widest found)) verdict_is (rw t e)
