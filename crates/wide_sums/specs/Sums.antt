-- Exact sums in two tables: the number at a place is high · 2^27 + low, both signed. What is said of one table holds of
-- each.
use Rattle.std.specs.Prelude.{◌≡◌, Bool, true, false, List, ℕ, ◌+◌, ◌^◌, ◌<◌, ◌≤◌, ℤ, pos, nat_abs, ◌+ℤ◌, ◌-ℤ◌, ◌*ℤ◌, length, get_or, set}
use Rattle.std.specs.Int.Signed.{shr_z}
use Rattle.wide_sums.specs.declared.Halves.{Halves}

-- where the high and the low half meet
abbrev pub base : ℕ
base = 2 ^ 27

-- the number of a high and a low half
abbrev pub value_of : ℤ → ℤ → ℤ
value_of hi lo = hi *ℤ pos base +ℤ lo

-- the number at place k of two tables
abbrev pub value_at : List ℤ → List ℤ → ℕ → ℤ
value_at hi lo k = value_of (get_or hi k (pos 0)) (get_or lo k (pos 0))

-- a number cut at m: the high part is z / m rounded down, whatever z's sign, and the low one is what that leaves
unfoldable pub cut_at : ℕ → ℤ → Halves
cut_at m z = record { high = shr_z z m; low = z -ℤ shr_z z m *ℤ pos m }

-- a number's halves
abbrev pub halves_of : ℤ → Halves
halves_of z = cut_at base z

-- whether the number at k is 0
pub record ZeroAt (hi lo : List ℤ) (k : ℕ) (r : Bool) : Type 0 where
  pub yes : r ≡ true → value_at hi lo k ≡ pos 0
  pub no : r ≡ false → value_at hi lo k ≡ pos 0 → ⊥

-- ---- one table
-- y may be added at place k
pub record Room (t : List ℤ) (k : ℕ) (y : ℤ) : Type 0 where
  pub inside : k < length t
  pub small : nat_abs (get_or t k (pos 0)) + nat_abs y < 2 ^ 63

-- the table with y added at place k
unfoldable pub added_at : List ℤ → ℕ → ℤ → List ℤ
added_at t k y = set t k (get_or t k (pos 0) +ℤ y)

-- each of the first n places has room for c more
pub record HasRoom (n c : ℕ) (t : List ℤ) : Type 0 where
  pub long : n ≤ length t
  pub small : (q : ℕ) → q < n → nat_abs (get_or t q (pos 0)) + c < 2 ^ 63

-- none of the first n places has grown by more than c, and nothing else has changed
pub record Near (n c : ℕ) (t₀ t₁ : List ℤ) : Type 0 where
  pub near : (q : ℕ) → q < n → nat_abs (get_or t₁ q (pos 0)) ≤ nat_abs (get_or t₀ q (pos 0)) + c
  pub rest : (q : ℕ) → n ≤ q → get_or t₁ q (pos 0) ≡ get_or t₀ q (pos 0)
  pub long : length t₁ ≡ length t₀

-- each of the first m places holds at most c, and nothing else has changed
pub record Shrunk (m c : ℕ) (t₀ t₁ : List ℤ) : Type 0 where
  pub small : (q : ℕ) → q < m → nat_abs (get_or t₁ q (pos 0)) ≤ c
  pub rest : (q : ℕ) → m ≤ q → get_or t₁ q (pos 0) ≡ get_or t₀ q (pos 0)
  pub long : length t₁ ≡ length t₀

-- only place k has changed, and holds at most c
pub record Replaced (k c : ℕ) (t₀ t₁ : List ℤ) : Type 0 where
  pub small : nat_abs (get_or t₁ k (pos 0)) ≤ c
  pub other : (q : ℕ) → (q ≡ k → ⊥) → get_or t₁ q (pos 0) ≡ get_or t₀ q (pos 0)
  pub long : length t₁ ≡ length t₀

-- ---- division
-- the most that the low half of a sum carries into the high one
abbrev pub carried : ℤ
carried = pos (2 ^ 36)

-- what sums are divided by
abbrev pub step : ℕ
step = 2 ^ 16

-- x is no multiple of 2^16
abbrev pub Uneven : ℤ → Type 0
Uneven x = (w : ℤ) → x ≡ w *ℤ pos step → ⊥

-- y is x / 2^16, rounded down
pub record Floor (x y : ℤ) : Type 0 where
  pub rest : ℕ
  pub low : rest < step
  pub is : x ≡ y *ℤ pos step +ℤ pos rest

-- the number at place k was divided by 2^16, rounded down; r tells whether it was a multiple of it. Nothing else has
-- changed, and both halves are small
pub record Divided (k : ℕ) (hi₀ lo₀ hi₁ lo₁ : List ℤ) (r : Bool) : Type 0 where
  pub floor : Floor (value_at hi₀ lo₀ k) (value_at hi₁ lo₁ k)
  pub yes : r ≡ true → floor.rest ≡ 0
  pub no : r ≡ false → floor.rest ≡ 0 → ⊥
  pub high : Replaced k (2 ^ 48) hi₀ hi₁
  pub low : Replaced k base lo₀ lo₁
