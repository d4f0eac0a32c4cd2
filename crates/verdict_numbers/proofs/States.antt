-- The numbers that a push leaves stand for the window with the new gap, and 65 zeros for the window before any arrival.
use borrow.Author.Tests.{leb-false}
use native.Mathlib.Omega.{arith}
use mathlib.Core.Path.{◌≡◌, refl, sym, ap, ap₂, ◌∙◌}
use mathlib.Core.Bool.{Bool, true, false, cond, ◌||◌}
use mathlib.Core.List.{List, ◌∷◌, ◌++◌}
use Prim.Native.Nat.{ℕ, zero, suc, min, ◌+◌, ◌*◌, ◌^◌, ◌≤◌, ◌<◌}
use lib.IntN.{ℤ, pos, negsuc}
use lib.Signed.{lt_z, le_z}
use lib.ListN.{length, get_or, take, drop, replicate, get_or-append}
use lib.Seq.{get_or-take, get_or_at, length-take-le}
use Rattle.counting.specs.Counting.{listed}
use Rattle.counting.proofs.Cases.{clash}
use Rattle.counting.proofs.Listed.{listed_at, listed_same}
use Rattle.format.specs.Operands.{signed}
use Rattle.format.proofs.Numbers.{lower}
use Rattle.calls.specs.Report.{unsigned}
use Rattle.calls.specs.Fractions.{fraction, none}
use Rattle.calls.specs.Window.{is_refused, window_after, with_newest, empty_window}
use Rattle.calls.specs.declared.Fraction.{Fraction}
use Rattle.calls.proofs.Windows.{after_arrivals}
use Rattle.verdict_numbers.specs.States.{gap_in, window_in, window_verdict, with_newest_numbers, state_left, StateArrivals}

or_left : (a b : Bool) → (a || b) ≡ false → a ≡ false
or_left true b e = e
or_left false b e = refl

or_right : (a b : Bool) → (a || b) ≡ false → b ≡ false
or_right true b e = clash (cc)
or_right false b e = e

-- ---- an accepted numerator is below 2^48, and its 64 bits stand for it
small_back : (z : ℤ) → lt_z z (pos 0) ≡ false → le_z (pos (2 ^ 48)) z ≡ false → signed 63 (unsigned 63 z) ≡ z
unfolding unsigned
small_back (pos n) s t = rw s (sym (lower 63 n (omega (arith, leb-false (2 ^ 48) n t))))
small_back (negsuc n) s t = clash (cc)

accepted_back : (a : Fraction) → is_refused a ≡ false → signed 63 (unsigned 63 a.num) ≡ a.num
unfolding is_refused
accepted_back a e =
    let x = lt_z a.num (pos 0) in
    let y = le_z (pos (2 ^ 48)) a.num in
    let h = or_left (x || y) _ e in
    small_back a.num (or_left x y h) (or_right x y h)

-- ---- the window with a new gap
module _ (s : List ℕ) (a : Fraction) (h : 65 ≤ length s) (e : is_refused a ≡ false) where
  abbrev others : List ℕ
  others = take 62 s ++ (min 32 (get_or s 64 0 + 1) ∷ drop 65 s)

  first_62 : (i : ℕ) → i < 62 → get_or others i 0 ≡ get_or s i 0
  first_62 i k =
      get_or-append (take 62 s) _ 0 i (omega (arith, length-take-le 62 s (omega arith))) ∙ get_or-take 62 s i 0 k

  each_gap : (i : ℕ) → i < 32 → gap_in (with_newest_numbers s a) i ≡ get_or (a ∷ listed 32 (gap_in s)) i none
  unfolding gap_in with_newest_numbers
  each_gap zero k = ap (λ (z : ℤ). fraction z a.den) (accepted_back a e)
  each_gap (suc i) k =
      let p : 2 * suc i ≡ suc (suc (2 * i)) = omega arith in
      let q : 2 * suc i + 1 ≡ suc (suc (2 * i + 1)) = omega arith in
      let t : ℕ → ℕ = λ n. get_or (unsigned 63 a.num ∷ a.den ∷ others) n 0 in
      ap₂ (λ (x y : ℕ). fraction (signed 63 x) y)
      (ap t p ∙ first_62 (2 * i) (omega arith))
      (ap t q ∙ first_62 (2 * i + 1) (omega arith))
      ∙ sym (listed_at 32 (gap_in s) i none (omega arith))

  pub newest_in : window_in (with_newest_numbers s a) ≡ with_newest (window_in s) a
  unfolding window_in with_newest_numbers
  newest_in =
      ap₂ (λ (g : List Fraction) (n : ℕ). record { gaps = g; count = n })
      (listed_same 32 (gap_in (with_newest_numbers s a)) (λ age. get_or (a ∷ listed 32 (gap_in s)) age none) each_gap)
      (get_or_at (take 62 s) (min 32 (get_or s 64 0 + 1)) (drop 65 s) 0 62 (length-take-le 62 s (omega arith)))

module _ (s : List ℕ) (a : Fraction) (h : 65 ≤ length s) where
  pub state_after_lem : window_in (state_left false s a) ≡ window_after (window_in s) a
  unfolding state_left
  state_after_lem = go (is_refused a) refl
    where
      go : (t : Bool) → is_refused a ≡ t
          → window_in (cond t s (with_newest_numbers s a)) ≡ cond t (window_in s) (with_newest (window_in s) a)
      go true e = refl
      go false e = newest_in s a h e

  -- what the numbers stand for, before and after a push
  pub state_arrivals : StateArrivals false s a (state_left false s a)
  unfolding window_verdict
  state_arrivals _ = after_arrivals (window_in s) a _ refl state_after_lem

-- ---- "an empty state"
pub zeros_empty : window_in (replicate 65 0) ≡ empty_window
unfolding window_in gap_in listed signed
zeros_empty = refl
