-- The numbers a + b√2 with whole a and b are an ordered ring: an instance that has a number whose square is 2, and no
-- fraction has that. Such a number is at least 0 where it is, times some u + v√2 with u and v from 0 on and not both 0,
-- again one with both from 0 on; sums and products keep that at once. That of a number and its negative one is at least
-- 0 goes by signs and squares: (a − b√2) × (a + b√2) is a² − 2b².
use mathlib.Core.Path.{◌≡◌, refl, sym, ap, ap₂, ◌∙◌}
use mathlib.Core.Logic.{◌⊎◌, ⊎_elim, inl, inr}
use Prim.Native.Nat.{ℕ, zero, suc, ◌+◌ as ◌+ℕ◌, ◌*◌ as ◌*ℕ◌, ◌-◌ as ◌-ℕ◌, ◌≤◌ as ◌≤ℕ◌}
use native.Mathlib.Decide.{dec_le}
use native.Mathlib.Omega.{arith}
use lib.IntN.{ℤ, pos, negsuc, neg_ℤ, ◌+ℤ◌, ◌*ℤ◌}
use Rattle.integers.proofs.Ring.{◌⊖◌, diffs, pos-⊖, ⊖-neg, ⊖-eq, ⊖-eq⁻¹}
use Rattle.ordered_rings.specs.Rings.{Ring, Order, TotalOrder, OrderedRing}
use Rattle.ordered_rings.proofs.Laws.{zero-+, *-zero, *-pairs, +-left, minus_zero, sorted}
use Rattle.ordered_rings.proofs.Total.{total}
use Rattle.ordered_rings.proofs.Integers.{integer_ring}

-- ---- the ring, over any ring: a + b√2
pub record Root (A : Type 0) : Type 0 where
  pub part : A
  pub root : A

abbrev pub rooted : {A : Type 0} → A → A → Root A
rooted a b = record { part = a; root = b }

module _ {A : Type 0} (R : Ring A) where
  open R use {𝟘, 𝟙, ◌+◌, -◌, ◌*◌, +_assoc, +_comm, +-zero, +-minus, *-one}

  abbrev pub plus : Root A → Root A → Root A
  plus x y = rooted (x.part + y.part) (x.root + y.root)

  abbrev pub times : Root A → Root A → Root A
  times x y =
      rooted (x.part * y.part + (x.root * y.root + x.root * y.root)) (x.part * y.root + x.root * y.part)

  pub times_assoc : (x y z : Root A) → times (times x y) z ≡ times x (times y z)
  times_assoc x y z = ap₂ rooted (simp (sorted, R)) (simp (sorted, R))

  pub times_comm : (x y : Root A) → times x y ≡ times y x
  times_comm x y = ap₂ rooted (simp (sorted, R)) (simp (sorted, R))

  pub times_one : (x : Root A) → times x (rooted 𝟙 𝟘) ≡ x
  times_one x = ap₂ rooted (simp (*-one, *-zero R, +-zero)) (simp (*-one, *-zero R, zero-+ R))

  pub times_plus : (x y z : Root A) → times x (plus y z) ≡ plus (times x y) (times x z)
  times_plus x y z = ap₂ rooted (simp (sorted, R)) (simp (sorted, R))

  abbrev pub root_ring : Ring (Root A)
  root_ring = record {
    𝟘 = rooted 𝟘 𝟘;
    𝟙 = rooted 𝟙 𝟘;
    ◌+◌ = plus;
    -◌ = λ x. rooted (- x.part) (- x.root);
    ◌*◌ = times;
    +_assoc = λ x y z. ap₂ rooted (+_assoc _ _ _) (+_assoc _ _ _);
    +_comm = λ x y. ap₂ rooted (+_comm _ _) (+_comm _ _);
    +-zero = λ x. ap₂ rooted (+-zero _) (+-zero _);
    +-minus = λ x. ap₂ rooted (+-minus _) (+-minus _);
    *-assoc = times_assoc;
    *-comm = times_comm;
    *-one = times_one;
    *-+ = times_plus;
  }

  spread : (x y a b : A) → (x + y) * (a * b) ≡ (x * a) * b + (y * b) * a
  spread x y a b = simp (sorted, R)

  -- differences
  dropped : (a b : A) → a + (b + - a) ≡ b
  dropped a b = +-left R a b (- a) ∙ ap (λ x. b + x) (+-minus a) ∙ +-zero b

  between : (a b c : A) → (b + - a) + (c + - b) ≡ c + - a
  between a b c = simp (sorted, R) (+-left R b c _ ∙ ap (λ x. c + x) (dropped b (- a)))

  turned : (a b : A) → - (b + - a) ≡ a + - b
  turned a b = simp (sorted, R)

  shifted : (a b c : A) → (b + c) + - (a + c) ≡ b + - a
  shifted a b c = simp (sorted, R) (ap (λ x. b + x) (dropped c (- a)))

  less_zero : (a : A) → a + - 𝟘 ≡ a
  less_zero a = simp (minus_zero R, +-zero)

-- ---- the order, over the integers
abbrev pub roots : Ring (Root ℤ)
roots = root_ring integer_ring

open roots use {𝟘, 𝟙, ◌+◌, -◌, ◌*◌, *-one}

-- m + n√2 with natural m and n
abbrev pub natural : ℕ → ℕ → Root ℤ
natural m n = rooted (pos m) (pos n)

-- x × (u + v√2) is m + n√2, where u and v are not both 0
pub record AtLeastZero (x : Root ℤ) : Type 0 where
  pub u : ℕ
  pub v : ℕ
  pub some : 1 ≤ℕ u +ℕ v
  pub m : ℕ
  pub n : ℕ
  pub product : x * natural u v ≡ natural m n

pub some_product : (u v u' v' : ℕ) → 1 ≤ℕ u +ℕ v → 1 ≤ℕ u' +ℕ v'
    → 1 ≤ℕ (u *ℕ u' +ℕ (v *ℕ v' +ℕ v *ℕ v')) +ℕ (u *ℕ v' +ℕ v *ℕ u')
some_product (suc u) v (suc u') v' h k = omega arith
some_product (suc u) v zero (suc v') h k = omega arith
some_product zero (suc v) (suc u') v' h k = omega arith
some_product zero (suc v) zero (suc v') h k = omega arith
some_product (suc u) v zero zero h k = absurd (omega arith)
some_product zero zero u' v' h k = absurd (omega arith)
some_product zero (suc v) zero zero h k = absurd (omega arith)

-- sums and products of such numbers are such
least-+ : (x y : Root ℤ) → AtLeastZero x → AtLeastZero y → AtLeastZero (x + y)
least-+ x y h k = record {
  u = _;
  v = _;
  some = some_product h.u h.v k.u k.v h.some k.some;
  m = _;
  n = _;
  product =
      spread roots x y (natural h.u h.v) (natural k.u k.v)
      ∙ ap₂ (λ a b. a * natural k.u k.v + b * natural h.u h.v) h.product k.product;
}

least-* : (x y : Root ℤ) → AtLeastZero x → AtLeastZero y → AtLeastZero (x * y)
least-* x y h k = record {
  u = _;
  v = _;
  some = some_product h.u h.v k.u k.v h.some k.some;
  m = _;
  n = _;
  product = *-pairs roots x y (natural h.u h.v) (natural k.u k.v) ∙ ap₂ ◌*◌ h.product k.product;
}

-- ---- one of a number and its negative is such, by signs and squares
-- a + b√2 itself
least_natural : (m n : ℕ) → AtLeastZero (natural m n)
least_natural m n =
    record { u = 1; v = 0; some = omega arith; m = m; n = n; product = *-one (natural m n) }

minus_is : (b : ℕ) → neg_ℤ (pos b) ≡ 0 ⊖ b
minus_is b = ap neg_ℤ (pos-⊖ b) ∙ ⊖-neg b 0

-- a − b√2 where 2b² ≤ a², times a + b√2
least_part : (a b : ℕ) → 1 ≤ℕ a +ℕ b → b *ℕ b +ℕ b *ℕ b ≤ℕ a *ℕ a → AtLeastZero (rooted (pos a) (neg_ℤ (pos b)))
least_part a b some h =
    record { u = a; v = b; some = some; m = a *ℕ a -ℕ (b *ℕ b +ℕ b *ℕ b); n = 0; product = ap₂ rooted part root }
  where
    part :
        pos a *ℤ pos a +ℤ (neg_ℤ (pos b) *ℤ pos b +ℤ neg_ℤ (pos b) *ℤ pos b)
        ≡ pos (a *ℕ a -ℕ (b *ℕ b +ℕ b *ℕ b))
    part = rw (minus_is b) (simp diffs (⊖-eq _ _ _ _ (omega arith)))

    root : pos a *ℤ pos b +ℤ neg_ℤ (pos b) *ℤ pos a ≡ pos 0
    root = rw (minus_is b) (simp diffs (⊖-eq _ _ _ _ (omega arith)))

-- − a + b√2 where a² ≤ 2b², times a + b√2
least_root : (a b : ℕ) → 1 ≤ℕ a +ℕ b → a *ℕ a ≤ℕ b *ℕ b +ℕ b *ℕ b → AtLeastZero (rooted (neg_ℤ (pos a)) (pos b))
least_root a b some h =
    record { u = a; v = b; some = some; m = b *ℕ b +ℕ b *ℕ b -ℕ a *ℕ a; n = 0; product = ap₂ rooted part root }
  where
    part : neg_ℤ (pos a) *ℤ pos a +ℤ (pos b *ℤ pos b +ℤ pos b *ℤ pos b) ≡ pos (b *ℕ b +ℕ b *ℕ b -ℕ a *ℕ a)
    part = rw (minus_is a) (simp diffs (⊖-eq _ _ _ _ (omega arith)))

    root : neg_ℤ (pos a) *ℤ pos b +ℤ pos b *ℤ pos a ≡ pos 0
    root = rw (minus_is a) (simp diffs (⊖-eq _ _ _ _ (omega arith)))

either : (a b : ℕ) → 1 ≤ℕ a +ℕ b
    → AtLeastZero (rooted (pos a) (neg_ℤ (pos b))) ⊎ AtLeastZero (rooted (neg_ℤ (pos a)) (pos b))
either a b some = go (dec_le (b *ℕ b +ℕ b *ℕ b) (a *ℕ a))
  where
    go : Dec (b *ℕ b +ℕ b *ℕ b ≤ℕ a *ℕ a)
        → AtLeastZero (rooted (pos a) (neg_ℤ (pos b))) ⊎ AtLeastZero (rooted (neg_ℤ (pos a)) (pos b))
    go (yes h) = inl (least_part a b some h)
    go (no h) = inr (least_root a b some (omega arith))

sign : (a b : ℤ) → AtLeastZero (rooted a b) ⊎ AtLeastZero (- rooted a b)
sign (pos a) (pos b) = inl (least_natural a b)
sign (negsuc a) (negsuc b) = inr (least_natural (suc a) (suc b))
sign (pos a) (negsuc b) = either a (suc b) (omega arith)
sign (negsuc a) (pos b) = ⊎_elim inr inl (either (suc a) b (omega arith))

-- ---- the order: x ≤ y where y − x is at least 0
pub root_trans : (x y z : Root ℤ) → AtLeastZero (y + - x) → AtLeastZero (z + - y) → AtLeastZero (z + - x)
root_trans x y z h k = rw (between roots x y z) at (least-+ (y + - x) (z + - y) h k)

pub root_either : (x y : Root ℤ) → AtLeastZero (y + - x) ⊎ AtLeastZero (x + - y)
root_either x y =
    ⊎_elim inl (λ h. inr (rw (turned roots x y) at h)) (sign (y + - x).part (y + - x).root)

pub root_sum : (x y z : Root ℤ) → AtLeastZero (y + - x) → AtLeastZero ((y + z) + - (x + z))
root_sum x y z h = rw (shifted roots x y z) h

pub root_product : (x y : Root ℤ) → AtLeastZero (x + - 𝟘) → AtLeastZero (y + - 𝟘) → AtLeastZero (x * y + - 𝟘)
root_product x y h k =
    rw (less_zero roots (x * y)) (least-* x y (rw (less_zero roots x) at h) (rw (less_zero roots y) at k))

abbrev pub root_total : TotalOrder roots
root_total = record {
  ◌≤◌ = λ x y. AtLeastZero (y + - x);
  ≤_trans = root_trans;
  ≤-total = root_either;
  ≤-+ = root_sum;
  ≤-* = root_product;
}

abbrev pub with_root_two : OrderedRing (Root ℤ)
with_root_two = record { ring = roots; order = total roots root_total }

-- √2, whose square is 2
abbrev pub √2 : Root ℤ
√2 = natural 0 1

pub root_square : √2 * √2 ≡ 𝟙 + 𝟙
root_square = refl

-- 0 < 1 in it: − 1, times u + v√2, has a part below 0
pub one_above : AtLeastZero (𝟘 + - 𝟙) → ⊥
one_above h =
    let a : negsuc 0 *ℤ pos h.u +ℤ (pos 0 *ℤ pos h.v +ℤ pos 0 *ℤ pos h.v) ≡ pos h.m = ap (λ x. x.part) h.product in
    let b : negsuc 0 *ℤ pos h.v +ℤ pos 0 *ℤ pos h.u ≡ pos h.n = ap (λ x. x.root) h.product in
    let c = ⊖-eq⁻¹ _ _ _ _ (simp diffs at a) in
    let d = ⊖-eq⁻¹ _ _ _ _ (simp diffs at b) in
    absurd (omega (arith, h.some))
