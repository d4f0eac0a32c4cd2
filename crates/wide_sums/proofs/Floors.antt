-- The halves of a number: how large they are, and when a number is 0.
use mathlib.Core.Path.{◌≡◌, refl, sym, ap, ap₂, ◌∙◌}
use Prim.Native.Nat.{ℕ, ◌+◌, ◌*◌, ◌^◌, ◌<◌, ◌≤◌}
use native.Mathlib.Nat.{lt_of_mul-lt-mul_right}
use native.Mathlib.Omega.{arith}
use lib.IntN.{ℤ, pos, neg_ℤ, nat_abs, ◌+ℤ◌, ◌-ℤ◌, ◌*ℤ◌, +ℤ_idr}
use lib.Signed.{mag_shr}
use mir.Syntax.{w64}
use mir.Val.{SFits}
use mir.ValLaws.{sfits_le}
use Rattle.integers.proofs.Ring.{view, ⊖-eq, ⊖-eq⁻¹, diffs}
use Rattle.integers.proofs.Ranges.{abs_fits, fits_abs, abs_neg, abs_sum, abs_mul, abs_zero, mod_z, floor_is, floor_lt, floor_rest, floor_fits, high_abs}
use Rattle.wide_sums.specs.declared.Halves.{Halves}
use Rattle.wide_sums.specs.Sums.{base, step, value_of, cut_at, halves_of, Uneven, Floor}

-- ---- a number cut at m
-- the steps of a cut fit 64 bits
pub record CutFits (m : ℕ) (z : ℤ) : Type 0 where
  pub high : SFits w64 (cut_at m z).high
  pub multiple : SFits w64 ((cut_at m z).high *ℤ pos m)
  pub low : SFits w64 (cut_at m z).low

module _ (m : ℕ) (p : 0 < m) (z : ℤ) where
  pub rest_is : (cut_at m z).low ≡ pos (mod_z z m)
  unfolding cut_at
  rest_is = floor_rest z m p

  pub cut_value : (cut_at m z).high *ℤ pos m +ℤ (cut_at m z).low ≡ z
  unfolding cut_at
  cut_value = rw rest_is (floor_is z m p)

  pub cut_low : nat_abs (cut_at m z).low < m
  cut_low = rw rest_is (floor_lt z m p)

  -- the high part of a number that is at most k times m
  pub cut_high : (k : ℕ) → nat_abs z ≤ k * m → nat_abs (cut_at m z).high ≤ k
  cut_high k h =
      let a = high_abs z (cut_at m z).high (mod_z z m) m (rw rest_is at cut_value) in
      let l : nat_abs (cut_at m z).high < k + 1 = lt_of_mul-lt-mul_right m (omega (arith, floor_lt z m p)) in
      omega arith

  -- where m goes k times into 2^63
  pub cut_fits : (k : ℕ) → k * m ≡ 2 ^ 63 → m ≤ 2 ^ 63 → SFits w64 z → CutFits m z
  unfolding cut_at
  cut_fits k e l f =
      record {
        high = sfits_le (mag_shr z m) f;
        multiple = floor_fits z m k p e f;
        low = abs_fits (omega (arith, cut_low));
      }

-- ---- a number's halves
module _ (z : ℤ) where
  pub halves_value : value_of (halves_of z).high (halves_of z).low ≡ z
  halves_value = cut_value base (omega arith) z

  pub low_small : nat_abs (halves_of z).low < base
  low_small = cut_low base (omega arith) z

  pub high_small : (m : ℕ) → nat_abs z ≤ m * base → nat_abs (halves_of z).high ≤ m
  high_small = cut_high base (omega arith) z

  pub halves_fit : SFits w64 z → CutFits base z
  halves_fit = cut_fits base (omega arith) z (2 ^ 36) refl (omega arith)

  pub minus_fits : SFits w64 z → SFits w64 (pos 0 -ℤ (halves_of z).high)
  minus_fits f =
      let h = high_small (2 ^ 36) (omega (arith, fits_abs f)) in
      abs_fits (omega (arith, abs_sum (pos 0) (neg_ℤ (halves_of z).high), abs_neg (halves_of z).high))

-- ---- a sum is 0 where its low half is a multiple of the base, and its high half the same multiple, with the other sign
carry : (g h l : ℤ) → value_of (g +ℤ h) l ≡ value_of g (value_of h l)
carry g h l = rw ((view g).eq, (view h).eq, (view l).eq) (simp diffs (⊖-eq _ _ _ _ (omega arith)))

module _ (g a : ℤ) where
  abbrev G : ℤ
  G = g +ℤ (halves_of a).high

  carried_value : value_of G (halves_of a).low ≡ value_of g a
  carried_value = carry g (halves_of a).high (halves_of a).low ∙ ap (value_of g) (halves_value a)

  opposite : G ≡ pos 0 → g ≡ pos 0 -ℤ (halves_of a).high
  opposite e =
      let k = ⊖-eq⁻¹ _ _ _ _ (simp diffs at (rw ((view g).eq, (view (halves_of a).high).eq) at e)) in
      rw ((view g).eq, (view (halves_of a).high).eq) (simp diffs (⊖-eq _ _ _ _ (omega arith)))

  pub zero_halves : value_of g a ≡ pos 0 → ((halves_of a).low ≡ pos 0) × (g ≡ pos 0 -ℤ (halves_of a).high)
  zero_halves e =
      let r = rest_is base (omega arith) a in
      let k = high_abs (pos 0) G (mod_z a base) base (rw r at (carried_value ∙ e)) in
      let z : G ≡ pos 0 = abs_zero G (omega (arith, floor_lt a base (omega arith))) in
      let n : nat_abs (value_of (pos 0) (pos (mod_z a base))) ≡ 0 =
      ap (λ (v : ℤ). nat_abs (value_of v (pos (mod_z a base)))) (sym z) ∙ ap nat_abs (rw r at (carried_value ∙ e)) in
      (r ∙ ap pos (omega arith), opposite z)

  pub halves_zero : (halves_of a).low ≡ pos 0 → g ≡ pos 0 -ℤ (halves_of a).high → value_of g a ≡ pos 0
  halves_zero l h = sym carried_value ∙ rw (l, h, (view (halves_of a).high).eq) (simp diffs (⊖-eq _ _ _ _ (omega arith)))

-- ---- a sum divided by 2^16
pub step_fit : (z : ℤ) → SFits w64 z → CutFits step z
step_fit z = cut_fits step (omega arith) z (2 ^ 47) refl (omega arith)

ring : (a r q s : ℤ) → value_of (a *ℤ pos step +ℤ r) (q *ℤ pos step +ℤ s) ≡ value_of a (r *ℤ pos (2 ^ 11) +ℤ q) *ℤ pos step +ℤ s
ring a r q s = rw ((view a).eq, (view r).eq, (view q).eq, (view s).eq) (simp diffs (⊖-eq _ _ _ _ (omega arith)))

-- the halves g and a of a sum, which has room for what is carried
module _ (g a : ℤ) (f : SFits w64 a) (h : nat_abs g + nat_abs (halves_of a).high < 2 ^ 63) where
  abbrev high : Halves
  high = cut_at step (G g a)

  abbrev low : Halves
  low = cut_at step (halves_of a).low

  carried_abs : nat_abs (G g a) < 2 ^ 63
  carried_abs = omega (arith, abs_sum g (halves_of a).high, h)

  pub carried_fits : SFits w64 (G g a)
  carried_fits = abs_fits carried_abs

  pub high_halved : CutFits step (G g a)
  high_halved = step_fit (G g a) carried_fits

  pub low_halved : CutFits step (halves_of a).low
  low_halved = step_fit (halves_of a).low (halves_fit a f).low

  pub quotient_high : nat_abs high.high ≤ 2 ^ 48
  quotient_high = let k = cut_high step (omega arith) (G g a) (2 ^ 47) (omega (arith, carried_abs)) in omega arith

  low_quotient : nat_abs low.high ≤ 2 ^ 11
  low_quotient = cut_high step (omega arith) (halves_of a).low (2 ^ 11) (omega (arith, low_small a))

  moved_abs : nat_abs (high.low *ℤ pos (2 ^ 11)) + 2 ^ 11 ≤ base
  moved_abs = let l = cut_low step (omega arith) (G g a) in omega (arith, abs_mul high.low (pos (2 ^ 11)))

  pub moved_fits : SFits w64 (high.low *ℤ pos (2 ^ 11))
  moved_fits = abs_fits (omega (arith, moved_abs))

  pub quotient_low : nat_abs (high.low *ℤ pos (2 ^ 11) +ℤ low.high) ≤ base
  quotient_low = omega (arith, moved_abs, low_quotient, abs_sum (high.low *ℤ pos (2 ^ 11)) low.high)

  pub sum_fits : SFits w64 (high.low *ℤ pos (2 ^ 11) +ℤ low.high)
  sum_fits = abs_fits (omega (arith, quotient_low))

  pub rest_low : low.low ≡ pos (mod_z (halves_of a).low step)
  rest_low = rest_is step (omega arith) (halves_of a).low

  pub quotient_is : value_of g a ≡ value_of high.high (high.low *ℤ pos (2 ^ 11) +ℤ low.high) *ℤ pos step +ℤ pos (mod_z (halves_of a).low step)
  quotient_is =
      sym (carried_value g a)
      ∙ ap₂ value_of (sym (cut_value step (omega arith) (G g a))) (sym (cut_value step (omega arith) (halves_of a).low))
      ∙ ring high.high high.low low.high low.low
      ∙ ap (λ (s : ℤ). value_of high.high (high.low *ℤ pos (2 ^ 11) +ℤ low.high) *ℤ pos step +ℤ s) rest_low

-- ---- what a multiple of 2^16 leaves
left : (x y w : ℤ) (r : ℕ) → x ≡ y *ℤ pos step +ℤ pos r → x ≡ w *ℤ pos step → (w -ℤ y) *ℤ pos step +ℤ pos 0 ≡ pos r
left x y w r e f =
    let k = ⊖-eq⁻¹ _ _ _ _ (simp diffs at (rw ((view y).eq, (view w).eq) at (sym e ∙ f))) in
    rw ((view y).eq, (view w).eq) (simp diffs (⊖-eq _ _ _ _ (omega arith)))

module _ {x y : ℤ} (h : Floor x y) where
  pub floor_uneven : (h.rest ≡ 0 → ⊥) → Uneven x
  floor_uneven f w e =
      let d = left x y w h.rest h.is e in
      let k = high_abs (pos h.rest) (w -ℤ y) 0 step d in
      let z : nat_abs (w -ℤ y) ≡ 0 = omega (arith, h.low) in
      let n : nat_abs ((w -ℤ y) *ℤ pos step +ℤ pos 0) ≡ 0 = ap (λ (v : ℤ). nat_abs (v *ℤ pos step +ℤ pos 0)) (abs_zero (w -ℤ y) z) in
      f (sym (ap nat_abs d) ∙ n)

  pub floor_exact : h.rest ≡ 0 → x ≡ y *ℤ pos step
  floor_exact e = h.is ∙ ap (λ (r : ℕ). y *ℤ pos step +ℤ pos r) e ∙ +ℤ_idr (y *ℤ pos step)
