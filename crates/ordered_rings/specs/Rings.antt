-- Ordered rings: what the bounds need of the numbers that coordinates and values are, and no more. The integers are one
-- (proofs/Integers.antt), and so are the rational and the real numbers.
use Rattle.std.specs.Prelude.{◌≡◌, ◌⊎◌, ℕ, zero, suc, ℤ, pos, negsuc}

-- a commutative ring: its numbers, of the type A, with 0, 1, sums, negatives and products
pub record Ring (A : Type 0) : Type 0 where
  infixl 60 ◌+◌
  infixl 70 ◌*◌
  infix 75 -◌
  pub 𝟘 : A
  pub 𝟙 : A
  pub ◌+◌ : A → A → A
  pub -◌ : A → A
  pub ◌*◌ : A → A → A
  pub +_assoc : (a b c : A) → (a + b) + c ≡ a + (b + c)
  pub +_comm : (a b : A) → a + b ≡ b + a
  pub +-zero : (a : A) → a + 𝟘 ≡ a
  pub +-minus : (a : A) → a + - a ≡ 𝟘
  pub *-assoc : (a b c : A) → (a * b) * c ≡ a * (b * c)
  pub *-comm : (a b : A) → a * b ≡ b * a
  pub *-one : (a : A) → a * 𝟙 ≡ a
  pub *-+ : (a b c : A) → a * (b + c) ≡ a * b + a * c

module _ {A : Type 0} (R : Ring A) where
  open R use {𝟘, 𝟙, ◌+◌, -◌, ◌*◌}

  -- multiples of 1
  unfoldable pub multiple : ℕ → A
  multiple zero = 𝟘
  multiple (suc n) = multiple n + 𝟙

  -- what the bounds ask of an order: sums and products keep it, squares are at least 0, and a whole factor from 1 on may
  -- be taken away. It need not be total, nor make a and b equal where a ≤ b and b ≤ a; so functions of time, ordered by
  -- their values, are covered too
  pub record Order : Type 1 where
    infix 50 ◌≤◌
    pub ◌≤◌ : A → A → Type 0
    pub ≤-refl : (a : A) → a ≤ a
    pub ≤_trans : (a b c : A) → a ≤ b → b ≤ c → a ≤ c
    pub ≤-+ : (a b c : A) → a ≤ b → a + c ≤ b + c
    pub ≤-* : (a b : A) → 𝟘 ≤ a → 𝟘 ≤ b → 𝟘 ≤ a * b
    pub ≤-square : (a : A) → 𝟘 ≤ a * a
    pub ≤-cancel : (n : ℕ) (a : A) → 𝟘 ≤ multiple (suc n) * a → 𝟘 ≤ a

  -- a total order that sums and products keep, as that of the rational and of the real numbers: it is such an order
  -- (proofs/Total.antt)
  pub record TotalOrder : Type 1 where
    infix 50 ◌≤◌
    pub ◌≤◌ : A → A → Type 0
    pub ≤_trans : (a b c : A) → a ≤ b → b ≤ c → a ≤ c
    pub ≤-total : (a b : A) → (a ≤ b) ⊎ (b ≤ a)
    pub ≤-+ : (a b c : A) → a ≤ b → a + c ≤ b + c
    pub ≤-* : (a b : A) → 𝟘 ≤ a → 𝟘 ≤ b → 𝟘 ≤ a * b

  -- the whole numbers in the ring: multiples of 1, and their negatives
  unfoldable pub whole : ℤ → A
  whole (pos n) = multiple n
  whole (negsuc n) = - multiple (suc n)

  -- a^n; a^0 is 1, also where a is 0
  unfoldable pub power : A → ℕ → A
  power a zero = 𝟙
  power a (suc n) = power a n * a

pub record OrderedRing (A : Type 0) : Type 1 where
  pub ring : Ring A
  pub order : Order ring
