-- The sums s = b + b' of a basis that an exponent t takes to a member x, t + s = x: they are among the numbers x − t
-- that have no other bits than the sums of the basis.
use Rattle.std.specs.Prelude.{◌≡◌, List, ℕ, ◌+◌, ◌*◌, ◌^◌, ◌<◌, length, get_or}
use Rattle.std.specs.Int.Bits.{bit_or}
use Rattle.joining_rule.specs.Sets.{In}

-- no sum of two indices x < y, at a place 64x + y before p, has other bits
pub record SumBits (B : List ℕ) (p bits : ℕ) : Type 0 where
  pub low : bits < 2 ^ 61
  pub at : (x y : ℕ) → x < y → y < length B → 64 * x + y < p → bit_or (get_or B x 0 + get_or B y 0) bits ≡ bits

-- the exponent t takes the sum of the indices u and v to x
pub record Takes (B : List ℕ) (x t u v : ℕ) : Type 0 where
  pub sum : t + (get_or B u 0 + get_or B v 0) ≡ x

-- some exponent takes s to x
pub record Taken (T : List ℕ) (x s : ℕ) : Type 0 where
  pub t : ℕ
  pub exponent : In t T
  pub sum : t + s ≡ x

-- a list of such numbers, with all that are sums of two indices
pub record Fitting (T B : List ℕ) (x : ℕ) (sums : List ℕ) : Type 0 where
  pub from : (s : ℕ) → In s sums → Taken T x s
  pub all : (t u v : ℕ) → In t T → u < v → v < length B → Takes B x t u v → In (get_or B u 0 + get_or B v 0) sums
