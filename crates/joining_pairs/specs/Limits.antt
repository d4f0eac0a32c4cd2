-- What the functions over one basis ask of its keys and of the support, so that t + b + b' fits 64 bits.
use Rattle.std.specs.Prelude.{List, ℕ, ◌*◌, ◌^◌, ◌≤◌, length}
use Rattle.counting.specs.Counting.{Bounded}
use Rattle.key_set.specs.Table.{Holds, Indexed}

-- at most 64 monomials of degree at most 8: a key is at most its degree × 256^7
pub record SmallBasis (B : List ℕ) : Type 0 where
  pub few : length B ≤ 64
  pub keys : Bounded (8 * 2 ^ 56) B

-- with at most 32 exponents of degree at most 16 of its multiplier
pub record OneBasis (T B : List ℕ) : Type 0 where
  pub basis : SmallBasis B
  pub few : length T ≤ 32
  pub exponents : Bounded (16 * 2 ^ 56) T

-- what a look for every t + s asks, with t among the exponents T: the support in its table, with its index, and no
-- overflow
pub record ForSums (t idx : List ℕ) (len : ℕ) (T : List ℕ) (s : ℕ) : Type 0 where
  pub support : Holds t len
  pub index : Indexed idx t len
  pub exponents : Bounded (16 * 2 ^ 56) T
  pub low : s ≤ 16 * 2 ^ 56

-- and for all sums of a basis
pub record ForBasis (t idx : List ℕ) (len : ℕ) (T B : List ℕ) : Type 0 where
  pub support : Holds t len
  pub index : Indexed idx t len
  pub basis : OneBasis T B
