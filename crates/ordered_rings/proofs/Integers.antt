-- The integers are an ordered ring, in which the whole numbers are themselves: as numbers, and as the multiples of 1.
use mathlib.Core.Path.{◌≡◌, refl, ap}
use mathlib.Core.Logic.{◌⊎◌, inl, inr}
use Prim.Native.Nat.{ℕ, zero, suc, ◌+◌, ◌≤◌}
use native.Mathlib.Decide.{dec_le}
use native.Mathlib.Numerals.{add-one}
use native.Mathlib.Omega.{arith}
use lib.IntN.{ℤ, pos, negsuc, neg_ℤ, ◌+ℤ◌, ◌*ℤ◌, pow, one, +ℤ_assoc, +ℤ_comm, +ℤ_idr, +ℤ_invr, *ℤ_comm, *ℤ-one}
use lib.Signed.{◌≤ℤ◌}
use Rattle.integers.proofs.Ring.{view, diffs, ⊖-le, ⊖-le⁻¹, *ℤ_assoc, *ℤ-+ℤ, nonneg-*}
use Rattle.ordered_rings.specs.Rings.{Ring, Order, TotalOrder, OrderedRing, multiple, whole, power}
use Rattle.ordered_rings.proofs.Numbers.{Numbers}
use Rattle.ordered_rings.proofs.Total.{total}

pub times_one : (a : ℤ) → a *ℤ pos 1 ≡ a
unfolding one
times_one a = *ℤ-one a

abbrev pub integer_ring : Ring ℤ
integer_ring = record {
  𝟘 = pos 0;
  𝟙 = pos 1;
  ◌+◌ = ◌+ℤ◌;
  -◌ = neg_ℤ;
  ◌*◌ = ◌*ℤ◌;
  +_assoc = +ℤ_assoc;
  +_comm = +ℤ_comm;
  +-zero = +ℤ_idr;
  +-minus = +ℤ_invr;
  *-assoc = *ℤ_assoc;
  *-comm = *ℤ_comm;
  *-one = times_one;
  *-+ = *ℤ-+ℤ;
}

-- ---- the order, by differences of naturals
pub le_trans : (a b c : ℤ) → a ≤ℤ b → b ≤ℤ c → a ≤ℤ c
le_trans a b c h k =
    let x = ⊖-le⁻¹ _ _ _ _ (rw ((view a).eq, (view b).eq) at h) in
    let y = ⊖-le⁻¹ _ _ _ _ (rw ((view b).eq, (view c).eq) at k) in
    rw ((view a).eq, (view c).eq) (⊖-le _ _ _ _ (omega arith))

pub le_total : (a b : ℤ) → (a ≤ℤ b) ⊎ (b ≤ℤ a)
le_total a b = go (dec_le ((view a).p + (view b).m) ((view b).p + (view a).m))
  where
    go : Dec ((view a).p + (view b).m ≤ (view b).p + (view a).m) → (a ≤ℤ b) ⊎ (b ≤ℤ a)
    go (yes h) = inl (rw ((view a).eq, (view b).eq) (⊖-le _ _ _ _ h))
    go (no h) = inr (rw ((view a).eq, (view b).eq) (⊖-le _ _ _ _ (omega arith)))

pub le_sum : (a b c : ℤ) → a ≤ℤ b → (a +ℤ c) ≤ℤ (b +ℤ c)
le_sum a b c h =
    let x = ⊖-le⁻¹ _ _ _ _ (rw ((view a).eq, (view b).eq) at h) in
    rw ((view a).eq, (view b).eq, (view c).eq) (simp diffs (⊖-le _ _ _ _ (omega arith)))

abbrev pub integer_total : TotalOrder integer_ring
integer_total = record {
  ◌≤◌ = ◌≤ℤ◌;
  ≤_trans = le_trans;
  ≤-total = le_total;
  ≤-+ = le_sum;
  ≤-* = λ a b. nonneg-* {a = a} {b = b};
}

abbrev pub integer_order : Order integer_ring
integer_order = total integer_ring integer_total

abbrev pub integers : OrderedRing ℤ
integers = record { ring = integer_ring; order = integer_order }

-- ---- the whole numbers in it
abbrev pub integer_numbers : Numbers ℤ
integer_numbers = record {
  ring = integer_ring;
  whole = λ z. z;
  whole_one = refl;
  whole-+ = λ x y. refl;
  whole-* = λ x y. refl;
}

multiple_is : (n : ℕ) → multiple integer_ring n ≡ pos n
unfolding multiple
multiple_is zero = refl
multiple_is (suc n) = rw (multiple_is n) (ap pos (add-one n))

pub whole_is : (z : ℤ) → whole integer_ring z ≡ z
unfolding whole
whole_is (pos n) = multiple_is n
whole_is (negsuc n) = ap neg_ℤ (multiple_is (suc n))

pub power_is : (a : ℤ) (n : ℕ) → power integer_ring a n ≡ pow a n
unfolding power pow one
power_is a zero = refl
power_is a (suc n) = ap (λ x. x *ℤ a) (power_is a n)
