-- The products w × d × d' of the digits of a row, added into the table of sums. Their matrix is symmetric: only those
-- with i ≤ i' are added, and twice where i < i'.
use Rattle.std.specs.Prelude.{◌≡◌, List, ℕ, ◌+◌, ◌*◌, ◌^◌, ◌≤◌, ◌<◌, ℤ, pos, nat_abs, ◌+ℤ◌, ◌*ℤ◌, length, get_or}
use Rattle.polynomial.specs.Terms.{Term}
use Rattle.polynomial.specs.Algebra.{sum, match}
use Rattle.flat.specs.TermArrays.{terms_in}
use Rattle.format.specs.CertificateRules.{Entry, most_rows}
use Rattle.row_outer.specs.Gram.{factor_terms, times}

-- no weight and no factor of a row is larger, and no digit of a factor
abbrev pub weight_most : ℕ
weight_most = 2 ^ 16

abbrev pub factor_most : ℕ
factor_most = 2 ^ 31

abbrev pub digit_most : ℕ
digit_most = 2 ^ 15

-- what the products of two digits of a row at most add to an entry: its indices rise, so each place gets one product,
-- which counts at most twice
abbrev pub outer_unit : ℕ
outer_unit = weight_most * digit_most * digit_most * 2

-- and what one row at most adds: the lower digits with the upper ones, and the upper with the lower
abbrev pub row_unit : ℕ
row_unit = outer_unit * 2

-- and all rows
abbrev pub gathered_most : ℕ
gathered_most = most_rows * row_unit

-- a table of this length has a row of 64 places for the index
abbrev pub HasRow : ℕ → ℕ → Type 0
HasRow room i = (i < 64) × (64 * i + 64 ≤ room)

-- a row's entries in arrays: indices that rise and have their rows in a table of this length, and factors, or a digit
-- of each, that are at most `most` in size
pub record Entries (most : ℕ) (indices : List ℕ) (factors : List ℤ) (count room : ℕ) : Type 0 where
  pub few : count ≤ 64
  pub inside : (k : ℕ) → k < count → HasRow room (get_or indices k 0)
  pub rising : (i k : ℕ) → i < k → k < count → get_or indices i 0 < get_or indices k 0
  pub factors_small : (k : ℕ) → k < count → nat_abs (get_or factors k (pos 0)) ≤ most

-- the arrays hold the entries es of a row, place by place
pub record HoldsEntries (es : List Entry) (indices : List ℕ) (factors : List ℤ) (count : ℕ) : Type 0 where
  pub indices_length : length indices ≡ 64
  pub factors_length : length factors ≡ 64
  pub count_is : count ≡ length es
  pub terms : terms_in count indices factors ≡ factor_terms es

-- each entry grew by f of its place
pub record Raised (g₀ : List ℤ) (f : ℕ → ℤ) (g₁ : List ℤ) : Type 0 where
  pub long : length g₁ ≡ length g₀
  pub there : (x : ℕ) → get_or g₁ x (pos 0) ≡ get_or g₀ x (pos 0) +ℤ f x

-- how often the product of i and i' is added at place x
abbrev pub above : ℕ → ℕ → ℕ → ℤ
above x i i' = times i i' *ℤ match x (64 * i + i')

-- the factors of the entries at index i' with 64 × i + i' = x, as often
abbrev pub in_row : List Term → ℕ → ℕ → ℤ
in_row F x i = sum (above x i) F

-- w × d × d' for each d of one list and d' of another, at its place, as often
unfoldable pub outer_at : ℤ → List Term → List Term → ℕ → ℤ
outer_at w F F' x = w *ℤ sum (in_row F' x) F
