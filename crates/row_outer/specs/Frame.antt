-- The table of sums in which the products w × l × l' of the rows on one basis are collected, that of i and i' at the
-- place 64 × i + i': where its entries are, and what it gives at a key, each entry times b × b' times the terms of g_j.
use Rattle.std.specs.Prelude.{◌≡◌, List, ◌⊎◌, ℕ, ◌+◌, ◌*◌, ◌/◌, ◌%◌, ◌≤◌, ◌<◌, ℤ, pos, nat_abs, length, get_or}
use Rattle.polynomial.specs.Terms.{Term}
use Rattle.polynomial.specs.Algebra.{sum, match}
use Rattle.row_outer.specs.Gram.{pair_key, table_terms}

-- what the place x of the table is multiplied by, at a key: b × b' × g
abbrev pub share : List ℕ → List Term → ℕ → ℕ → ℤ
share B G k x = sum (λ t. match k (pair_key B x + t)) G

-- what the whole table adds at a key
unfoldable pub spread_at : List ℕ → List Term → List ℤ → ℕ → ℤ
spread_at B G g k = sum (share B G k) (table_terms g)

-- a table of zeros
abbrev pub Empty : List ℤ → Type 0
Empty g = (x : ℕ) → get_or g x (pos 0) ≡ pos 0

-- no entry is above c
abbrev pub Below : ℕ → List ℤ → Type 0
Below c g = (x : ℕ) → nat_abs (get_or g x (pos 0)) ≤ c

-- a table with room for a basis of m monomials: its entries that are not 0 are on or above the diagonal, at indices
-- below m, and none is above c
pub record Framed (m c : ℕ) (g : List ℤ) : Type 0 where
  pub long : 64 * m ≤ length g
  pub columns : (x : ℕ) → m ≤ x % 64 → get_or g x (pos 0) ≡ pos 0
  pub lower : (x : ℕ) → x % 64 < x / 64 → get_or g x (pos 0) ≡ pos 0
  pub small : Below c g

-- r is a place after x, and those between them have a column that no index below m has, or are below the diagonal; from
-- a place on or above the diagonal the walk comes to another, or past the rows of all indices below m
pub record Next (m x r : ℕ) : Type 0 where
  pub later : x < r
  pub between : (y : ℕ) → x < y → y < r → (m ≤ y % 64) ⊎ (y % 64 < y / 64)
  pub upper : x / 64 ≤ x % 64 → (r / 64 ≤ r % 64) ⊎ (64 * m ≤ r)

-- an entry that is not 0 is at indices of the basis, and is at most c
pub record Entered (c : ℕ) (basis : List ℕ) (x : ℕ) (a : ℤ) : Type 0 where
  pub row : length basis ≤ x / 64 → a ≡ pos 0
  pub column : length basis ≤ x % 64 → a ≡ pos 0
  pub small : nat_abs a ≤ c
