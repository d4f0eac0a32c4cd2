-- The table of sums, folded: entries whose places have the same b × b' are summed at one of them.
use Rattle.std.specs.Prelude.{◌≡◌, List, ℕ, ◌+◌, ◌/◌, ◌%◌, ◌^◌, ◌≤◌, ◌<◌, ℤ, pos, length, get_or}
use Rattle.polynomial.specs.Terms.{Term}
use Rattle.row_outer.specs.Gram.{pair_key}
use Rattle.row_outer.specs.Frame.{spread_at, Framed}
use Rattle.row_outer.specs.Outer.{gathered_most}

-- no folded entry is larger: an entry of at most 2^53 takes another that was gathered
abbrev pub folded_most : ℕ
folded_most = 2 ^ 53 + gathered_most

-- place y is on or above the diagonal, its indices are in the basis, and their product b × b' is the key
pub record WithProduct (B : List ℕ) (y key : ℕ) : Type 0 where
  pub upper : y / 64 ≤ y % 64
  pub column : y % 64 < length B
  pub is : pair_key B y ≡ key

-- the entry at place x was left there, or moved to an earlier place with the same b × b'
pub record Folded (B : List ℕ) (x : ℕ) (g₀ g₁ : List ℤ) : Type 0 where
  pub long : length g₁ ≡ length g₀
  pub same : (G : List Term) (k : ℕ) → spread_at B G g₁ k ≡ spread_at B G g₀ k
  pub ahead : (y : ℕ) → x < y → get_or g₁ y (pos 0) ≡ get_or g₀ y (pos 0)
  pub framed : Framed (length B) folded_most g₀ → Framed (length B) folded_most g₁

-- all entries were folded
pub record FoldedTable (B : List ℕ) (g₀ g₁ : List ℤ) : Type 0 where
  pub framed : Framed (length B) folded_most g₁
  pub same : (G : List Term) (k : ℕ) → spread_at B G g₁ k ≡ spread_at B G g₀ k
  pub long : length g₁ ≡ length g₀
