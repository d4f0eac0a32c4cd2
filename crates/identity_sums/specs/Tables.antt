-- The sums at the compared keys, in two lent tables: what they need so that a number can be added, and how they grow.
-- How large they are is counted in products: one product adds at most `unit` to either half of a sum.
use Rattle.std.specs.Prelude.{◌≡◌, List, ℕ, ◌*◌, ◌%◌, ◌^◌, ◌≤◌, ◌<◌, ℤ, pos, nat_abs, neg_ℤ, ◌+ℤ◌, ◌*ℤ◌, length, get_or}
use Rattle.key_set.specs.Table.{Holds, Indexed}
use Rattle.wide_sums.specs.Sums.{value_at, HasRoom, Near}
use Rattle.wide_sums.specs.declared.Halves.{Halves}
use Rattle.counting.specs.Counting.{Bounded}
use Rattle.flat.specs.TermArrays.{Small}
use Rattle.accepting.specs.Identity.{turned}
use Rattle.row_folding.specs.Fold.{folded_most}
use Rattle.identity_sums.specs.declared.Negated.{Negated}

-- what one product at most adds to either half of a sum: the halves of a number of at most 5 × 2^53 are at most
-- 5 × 2^26, and a coefficient is at most 2^15. At most 257 + 9 × 2,080 × 32 products are added at a key before a sum is
-- divided or tested, and so many stay below 2^63
abbrev pub unit : ℕ
unit = 5 * 2 ^ 41

-- the factor D × q of the claim
abbrev pub claim_most : ℕ
claim_most = 65535 * 65535

-- r is the place of a key among the first n, or n or more where it has none
pub record Sought (keys : List ℕ) (n key r : ℕ) : Type 0 where
  pub there : r < n → get_or keys r 0 ≡ key
  pub none : n ≤ r → (q : ℕ) → q < n → get_or keys q 0 ≡ key → ⊥

-- the first n keys differ and have their index, and the sum of each has room for c
pub record Ready (keys idx : List ℕ) (n : ℕ) (hi lo : List ℤ) (c : ℕ) : Type 0 where
  pub support : Holds keys n
  pub index : Indexed idx keys n
  pub high : HasRoom n c hi
  pub low : HasRoom n c lo

-- at each of the first n keys the sum has grown by f of the key, and either half by at most c; nothing else has changed
pub record SumsGrown (keys : List ℕ) (n : ℕ) (hi₀ lo₀ : List ℤ) (f : ℕ → ℤ) (c : ℕ) (hi₁ lo₁ : List ℤ) : Type 0 where
  pub there : (q : ℕ) → q < n → value_at hi₁ lo₁ q ≡ value_at hi₀ lo₀ q +ℤ f (get_or keys q 0)
  pub high : Near n c hi₀ hi₁
  pub low : Near n c lo₀ lo₁

-- a number in its halves, to be added c times
pub record Scaled (x : Halves) (c : ℤ) : Type 0 where
  pub high : nat_abs (x.high *ℤ c) ≤ unit
  pub low : nat_abs (x.low *ℤ c) ≤ unit

-- the places of exponents in an index of keys whose divisor is d
pub record Slots (d : ℕ) (exponents slots : List ℕ) : Type 0 where
  pub few : length exponents ≤ 32
  pub long : length slots ≡ 32
  pub each : (t : ℕ) → t < length exponents → get_or slots t 0 ≡ get_or exponents t 0 % d

-- a polynomial in two arrays, with coefficients of 16 bits, to be added x times and moved by a key
pub record Addable (exponents : List ℕ) (coefficients : List ℤ) (key : ℕ) (x : ℤ) : Type 0 where
  pub paired : length exponents ≤ length coefficients
  pub low : Bounded (32 * 2 ^ 56) exponents
  pub key_low : key ≤ 16 * 2 ^ 56
  pub coefficients_small : Small (2 ^ 15) coefficients
  pub small : nat_abs x ≤ folded_most

-- ---- the claim, taken away
-- the factors of the objective and of 1 in minus the claim
pub record Negates (side scale : ℕ) (p : ℤ) (q : ℕ) (r : Negated) : Type 0 where
  pub objective : r.objective ≡ neg_ℤ (pos scale *ℤ turned side (pos q))
  pub constant : r.constant ≡ neg_ℤ (pos scale *ℤ turned side (neg_ℤ p))
  pub objective_small : nat_abs r.objective ≤ claim_most
  pub constant_small : nat_abs r.constant ≤ 2 ^ 47
