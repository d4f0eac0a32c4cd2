-- Theorems on request 11: a state that stands for a list of arrivals stands for the list with one more after a call,
-- whose verdict is that of the list. So the calls on any list of arrivals, from an empty state, return the outcomes of
-- document 02.
use native.Mathlib.Omega.{arith}
use mathlib.Core.Path.{◌≡◌, refl, sym, ap, ap₂, ◌∙◌}
use mathlib.Core.Bool.{Bool, true, false, cond}
use mathlib.Core.List.{List, [], ◌∷◌}
use Prim.Native.Nat.{ℕ, zero, suc, min, ◌+◌, ◌<◌}
use lib.ListN.{length, get_or, take, length-take}
use lib.Seq.{ext_get_or, get_or-take, take-take}
use Rattle.counting.specs.Counting.{listed}
use Rattle.counting.proofs.Listed.{listed_length, listed_at}
use Rattle.calls.specs.Fractions.{none}
use Rattle.calls.specs.declared.Fraction.{Fraction}
use Rattle.calls.specs.declared.GapWindow.{GapWindow}
use Rattle.calls.specs.declared.WindowVerdict.{WindowVerdict}
use Rattle.calls.specs.declared.Pushed.{Pushed}
use Rattle.calls.specs.Window.{is_refused, accepted_of, last_accepted, widest_of, refused_arrival, found_widest}
use Rattle.calls.specs.Window.{arrival_verdict, verdicts_after, held, empty_window, with_newest, window_after}
use Rattle.calls.specs.Window.{push_verdict, push_verdicts, StandsFor, AfterArrivals}

-- a gap before the last 32 of a list, and before the list itself
pub take_newest : (a : Fraction) (l : List Fraction) → take 32 (a ∷ take 32 l) ≡ take 32 (a ∷ l)
take_newest a l = ap (λ (k : List Fraction). a ∷ k) (take-take 31 32 l (omega arith))

-- the gap of each age, with a new one before those of g
module _ (a : Fraction) (g : List Fraction) where
  abbrev old : ℕ → Fraction
  old age = get_or g age none

  abbrev new : ℕ → Fraction
  new age = get_or (a ∷ g) age none

  one_older : (n i : ℕ) → i < suc n → get_or (a ∷ listed n old) i none ≡ new i
  one_older n zero h = refl
  one_older n (suc i) h = listed_at n old i none (omega arith)

  shifted : (c : ℕ)
      → listed (min 32 (min 32 (c + 1))) (λ age. get_or (listed 32 new) age none) ≡ take 32 (a ∷ listed (min 32 c) old)
  shifted c =
      let f : ℕ → Fraction = λ age. get_or (listed 32 new) age none in
      let m = min 32 (min 32 (c + 1)) in
      let l = a ∷ listed (min 32 c) old in
      let p = listed_length m f in
      let q = length-take 32 l in
      let r = listed_length (min 32 c) old in
      ext_get_or none (listed m f) (take 32 l) (omega arith) λ i h.
      listed_at m f i none (omega arith) ∙ listed_at 32 new i none (omega arith)
      ∙ sym (get_or-take 32 l i none (omega arith) ∙ one_older (min 32 c) i (omega arith))

pub held_newest : (w : GapWindow) (a : Fraction) → held (with_newest w a) ≡ take 32 (a ∷ held w)
unfolding held
held_newest w a = shifted a w.gaps w.count

module _ (w : GapWindow) (a : Fraction) (past : List Fraction) (h : StandsFor w past) where
  grown : take 32 (a ∷ held w) ≡ take 32 (a ∷ accepted_of past)
  grown = ap (λ (l : List Fraction). take 32 (a ∷ l)) h ∙ take_newest a (accepted_of past)

  pub stands_after : StandsFor (window_after w a) (a ∷ past)
  stands_after = go (is_refused a)
    where
      go : (t : Bool) → held (cond t w (with_newest w a)) ≡ take 32 (cond t (accepted_of past) (a ∷ accepted_of past))
      go true = h
      go false = held_newest w a ∙ grown

  pub verdict_is : push_verdict w a ≡ arrival_verdict past a
  unfolding push_verdict arrival_verdict
  verdict_is = go (is_refused a)
    where
      found : List Fraction → WindowVerdict
      found l = found_widest (widest_of l)

      go : (t : Bool)
          → cond t refused_arrival (found (take 32 (a ∷ held w)))
          ≡ cond t refused_arrival (found (take 32 (cond t (accepted_of past) (a ∷ accepted_of past))))
      go true = refl
      go false = ap found grown

pub after_arrivals : (w : GapWindow) (a : Fraction) (r : Pushed) → r.verdict ≡ push_verdict w a
    → r.window ≡ window_after w a → AfterArrivals w a r
after_arrivals w a r v s = record {
  verdict = λ past h. v ∙ verdict_is w a past h;
  window = λ past h. ap held s ∙ stands_after w a past h;
}

pub stands_empty : StandsFor empty_window []
unfolding held listed
stands_empty = refl

-- "For every list of arrivals from an empty state, each call's outcome is refusal 14 or the widest of the last 32
-- accepted so far, with its age": the arrivals in l come after those in past
pub pushes_are : (l past : List Fraction) (w : GapWindow) → StandsFor w past → push_verdicts w l ≡ verdicts_after past l
pushes_are [] past w h = refl
pushes_are (a ∷ l) past w h =
    ap₂ (λ (v : WindowVerdict) (k : List WindowVerdict). v ∷ k) (verdict_is w a past h)
    (pushes_are l (a ∷ past) (window_after w a) (stands_after w a past h))

pub pushes_from_empty : (l : List Fraction) → push_verdicts empty_window l ≡ verdicts_after [] l
pushes_from_empty l = pushes_are l [] empty_window stands_empty
