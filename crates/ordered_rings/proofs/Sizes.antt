-- How large a number of an ordered ring is: |x| ≤ c, said by two differences that are at least 0, as the ring need have
-- no absolute values. Sums, products, powers and whole numbers; and what a bound on the square says.
use mathlib.Core.Path.{◌≡◌, sym, ◌∙◌, subst}
use Prim.Native.Nat.{ℕ, zero, suc, ◌≤◌ as ◌≤ℕ◌}
use lib.Dec.{lit≤}
use lib.IntN.{ℤ, pos, negsuc, nat_abs}
use Rattle.ordered_rings.specs.Rings.{Order, power}
use Rattle.ordered_rings.proofs.Laws.{zero-+, one-*, +-*, minus_minus, minus-+, minus-*, *-minus}
use Rattle.ordered_rings.proofs.Laws.{sorted-sums, sorted}
use Rattle.ordered_rings.proofs.Numbers.{Numbers, whole_minus}
use Rattle.ordered_rings.proofs.AtLeastZero.{Nonneg, nonneg_zero, nonneg-+, nonneg_square, nonneg_one, nonneg_multiple, nonneg_cancel}

module _ {A : Type 0} (N : Numbers A) (O : Order N.ring) where
  open N use {ring, whole, whole_one, whole-+}
  open ring use {𝟙, ◌+◌, -◌, ◌*◌, +_assoc, +_comm, +-zero, +-minus, *-comm, *-+}

  -- |x| ≤ c
  pub record Size (x c : A) : Type 0 where
    pub above : Nonneg ring O (c + - x)
    pub below : Nonneg ring O (c + x)

  -- 2 × a is a + a, so that what holds of twice a number holds of it
  halve : (a : A) → Nonneg ring O (a + a) → Nonneg ring O a
  halve a h = nonneg_cancel N O 2 a (lit≤ tt) (rw twice h)
    where
      twice : whole (pos 2) * a ≡ a + a
      twice = rw (whole-+ (pos 1) (pos 1), whole_one, +-* ring, one-* ring)

  pub size-+ : {x y c d : A} → Size x c → Size y d → Size (x + y) (c + d)
  size-+ {x} {y} {c} {d} h k = record {
    above = rw above at (nonneg-+ ring O h.above k.above);
    below = rw below at (nonneg-+ ring O h.below k.below);
  }
    where
      above : (c + - x) + (d + - y) ≡ (c + d) + - (x + y)
      above = simp (sorted, ring)

      below : (c + x) + (d + y) ≡ (c + d) + (x + y)
      below = simp (sorted, ring)

  -- ---- sums and products of two
  four_products : (a b e f : A) → (a + b) * (e + f) ≡ (a * e + b * f) + (a * f + b * e)
  four_products a b e f = rw (+-* ring, *-+, *-+) (crossed (a * e) (a * f) (b * e) (b * f))
    where
      crossed : (p q r s : A) → (p + q) + (r + s) ≡ (p + s) + (q + r)
      crossed p q r s = simp (sorted-sums, ring)

  telescope : (a b e : A) → (a + - b) + (b + - e) ≡ a + - e
  telescope a b e = rw (+_assoc, ← +_assoc (- b) b (- e), +_comm (- b) b, +-minus, zero-+ ring)

  -- (u + w) + (u − w) is 2 u
  both_ways : (u w : A) → Nonneg ring O (u + w) → Nonneg ring O (u + - w) → Nonneg ring O u
  both_ways u w h k = halve u (rw same at (nonneg-+ ring O h k))
    where
      same : (u + w) + (u + - w) ≡ u + u
      same = simp (sorted, ring, +-minus, +-zero)

  pub size_minus : {x c : A} → Size x c → Size (- x) c
  size_minus {x} h = record { above = rw (minus_minus ring x) h.below; below = h.above }

  -- c d + x y is half of (c + x) (d + y) and (c − x) (d − y) together
  product_below : {x y c d : A} → Size x c → Size y d → Nonneg ring O (c * d + x * y)
  product_below {x} {y} {c} {d} h k =
      both_ways _ (c * y + x * d) (rw sum at (times h.below k.below)) (rw difference at (times h.above k.above))
    where
      times : {a b : A} → Nonneg ring O a → Nonneg ring O b → Nonneg ring O (a * b)
      times {a} {b} = O.≤-* a b

      sum : (c + x) * (d + y) ≡ (c * d + x * y) + (c * y + x * d)
      sum = four_products c x d y

      difference : (c + - x) * (d + - y) ≡ (c * d + x * y) + - (c * y + x * d)
      difference = four_products c (- x) d (- y) ∙ simp (minus-* ring, *-minus ring, minus_minus ring, minus-+ ring)

  pub size-* : {x y c d : A} → Size x c → Size y d → Size (x * y) (c * d)
  size-* h k = record { above = rw (minus-* ring) at (product_below (size_minus h) k); below = product_below h k }

  -- |x|^e ≤ c^e
  pub size_one : Size 𝟙 𝟙
  size_one = record { above = rw +-minus (nonneg_zero ring O); below = nonneg-+ ring O (nonneg_one ring O) (nonneg_one ring O) }

  pub size_power : {x c : A} → Size x c → (e : ℕ) → Size (power ring x e) (power ring c e)
  unfolding power
  size_power h zero = size_one
  size_power h (suc e) = size-* (size_power h e) h

  -- a whole number is as large as its absolute value
  pub size_multiple : (n : ℕ) → Size (whole (pos n)) (whole (pos n))
  size_multiple n = record {
    above = rw +-minus (nonneg_zero ring O);
    below = nonneg-+ ring O (nonneg_multiple N O n) (nonneg_multiple N O n);
  }

  pub size_whole : (z : ℤ) → Size (whole z) (whole (pos (nat_abs z)))
  size_whole (pos n) = size_multiple n
  size_whole (negsuc n) = rw (whole_minus N (pos (suc n))) (size_minus (size_multiple (suc n)))

  -- where x² ≤ n², |x| ≤ n: n² − n x is half of n² − x² and (n − x)² together, and n divides it
  module _ (n : ℕ) (one : 1 ≤ℕ n) where
    abbrev c : A
    c = whole (pos n)

    root_above : (x : A) → Nonneg ring O (c * c + - (x * x)) → Nonneg ring O (c + - x)
    root_above x h =
        nonneg_cancel N O n (c + - x) one (both_ways _ (c * x + - (x * x))
        (subst (Nonneg ring O) sum h) (subst (Nonneg ring O) difference (nonneg_square ring O (c + - x))))
      where
        sum : c * c + - (x * x) ≡ c * (c + - x) + (c * x + - (x * x))
        sum = sym (rw (*-+, *-minus ring) (telescope (c * c) (c * x) (x * x)))

        difference : (c + - x) * (c + - x) ≡ c * (c + - x) + - (c * x + - (x * x))
        difference = rw (+-* ring c (- x) (c + - x), minus-* ring x (c + - x), *-+ x c (- x), *-minus ring x x, *-comm x c)

    pub size_root : (x : A) → Nonneg ring O (c * c + - (x * x)) → Size x c
    size_root x h = record {
      above = root_above x h;
      below = rw (minus_minus ring x) at (root_above (- x) (rw squares h));
    }
      where
        squares : - x * - x ≡ x * x
        squares = simp (sorted, ring)
