-- The places of pairs: which indices a place has, and which remainder.
use mathlib.Core.Path.{◌≡◌, refl, ap}
use mathlib.Core.Bool.{Bool, true, false, cond}
use mathlib.Core.List.{List}
use Prim.Native.Nat.{ℕ, ◌+◌, ◌*◌, ◌/◌, ◌%◌, ◌≤◌, ◌<◌}
use native.Mathlib.Omega.{arith}
use lib.Dec.{ltb, eqb}
use lib.ListN.{length, get_or}
use borrow.Author.Tests.{lt-ltb, ltb-true, eq-eqb}
use Rattle.counting.proofs.Cases.{never}
use Rattle.joining_pairs.specs.Pairs.{pair_at, sum_at, sum_divisor, meets}

-- both tests of one behind the other
both : (b d : Bool) → cond b d false ≡ true → (b ≡ true) × (d ≡ true)
both true d e = (refl, e)
both false d e = never e

module _ (B : List ℕ) where
  -- the indices of a pair's place
  pub pair_order : (p : ℕ) → pair_at B p ≡ true → (p / 64 < p % 64) × (p % 64 < length B)
  unfolding pair_at
  pair_order p e =
      let w = both (ltb (p / 64) (p % 64)) (ltb (p % 64) (length B)) e in
      (ltb-true (p / 64) (p % 64) w.0, ltb-true (p % 64) (length B) w.1)

  pub order_pair : (p : ℕ) → p / 64 < p % 64 → p % 64 < length B → pair_at B p ≡ true
  unfolding pair_at
  order_pair p o h = rw (lt-ltb (p / 64) (p % 64) o, lt-ltb (p % 64) (length B) h)

  -- a pair's place has the remainder of its sum, and no other
  pub meets_pair : (h p : ℕ) → meets B h p ≡ true → pair_at B p ≡ true
  unfolding meets
  meets_pair h p e = (both (pair_at B p) (eqb (sum_at B p % sum_divisor) h) e).0

  pub pair_meets : (s p : ℕ) → pair_at B p ≡ true → sum_at B p ≡ s → meets B (s % sum_divisor) p ≡ true
  unfolding meets
  pair_meets s p e f = rw (e, eq-eqb (sum_at B p % sum_divisor) (s % sum_divisor) (ap (λ (z : ℕ). z % sum_divisor) f))

  -- the place of two indices
  module _ (few : length B ≤ 64) (x y : ℕ) (o : x < y) (h : y < length B) where
    pub place_pair : pair_at B (64 * x + y) ≡ true
    place_pair = order_pair (64 * x + y) (omega arith) (omega arith)

    pub place_sum : sum_at B (64 * x + y) ≡ get_or B x 0 + get_or B y 0
    place_sum =
        let e : (64 * x + y) / 64 ≡ x = omega arith in
        let f : (64 * x + y) % 64 ≡ y = omega arith in
        rw (e, f)
