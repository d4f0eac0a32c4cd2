-- The flat arrays that hold what belongs to nine bases: a piece of each for every basis. `keys` and `sizes` hold bases
-- and multipliers as in the crate flat.
use Rattle.std.specs.Prelude.{◌≡◌, List, ℕ, ◌+◌, ◌*◌, ◌≤◌, ◌<◌, length, get_or, take, drop}
use Rattle.counting.specs.Counting.{listed, from_to}
use Rattle.joining_rule.specs.Rounds.{Bases}
use Rattle.flat.specs.Flat.{basis_at, exponents_at, count_at, basis_in}
use Rattle.joining_pairs.specs.Limits.{OneBasis}
use Rattle.joining_products.specs.Adding.{plain, add_squares}

-- piece j of a flat array: w places, from place w × j on
abbrev pub piece : ℕ → List ℕ → ℕ → List ℕ
piece w l j = take w (drop (w * j) l)

-- the exponents of polynomial j
abbrev pub exponents_in : List ℕ → List ℕ → ℕ → List ℕ
exponents_in keys sizes j = take (get_or sizes (count_at j) 0) (drop (exponents_at j) keys)

-- the nine bases, each with its multiplier
abbrev pub bases_in : List ℕ → List ℕ → Bases
bases_in keys sizes = record { basis = basis_in keys sizes; multiplier = exponents_in keys sizes }

-- the block numbers of basis j, and the nine lists of them, that bytes hold: byte 64j + i has that of index i
abbrev pub labels_at : List ℕ → List ℕ → ℕ → List ℕ
labels_at sizes bytes j = take (get_or sizes j 0) (drop (64 * j) bytes)

unfoldable pub labels_in : List ℕ → List ℕ → List (List ℕ)
labels_in sizes bytes = listed 9 (labels_at sizes bytes)

-- S with the products of each index with itself, for the bases before n
unfoldable pub squares_to : ℕ → Bases → List ℕ → List ℕ
squares_to n g S = from_to 0 n (λ j. add_squares (g.multiplier j) (g.basis j)) S

-- nine bases of at most 64 monomials
pub record Sizes (sizes : List ℕ) : Type 0 where
  pub nine : 9 ≤ length sizes
  pub small : (j : ℕ) → j < 9 → get_or sizes j 0 ≤ 64

-- bases and multipliers stand in the arrays, within the limits of a joining
pub record Arrays (keys sizes : List ℕ) : Type 0 where
  pub counted : 18 ≤ length sizes
  pub bases : (j : ℕ) → j < 9 → basis_at j + get_or sizes j 0 ≤ length keys
  pub multipliers : (j : ℕ) → j < 9 → exponents_at j + get_or sizes (count_at j) 0 ≤ length keys
  pub limits : (j : ℕ) → j < 9 → OneBasis (exponents_in keys sizes j) (basis_in keys sizes j)

-- of a flat array no piece but j has changed
pub record PieceOnly (w j : ℕ) (l l' : List ℕ) : Type 0 where
  pub long : length l' ≡ length l
  pub others : (i : ℕ) → i < 9 → (i ≡ j → ⊥) → piece w l' i ≡ piece w l i

-- of the bytes only the block numbers of basis j have changed
pub record LabelsOnly (sizes : List ℕ) (j : ℕ) (l l' : List ℕ) : Type 0 where
  pub long : length l' ≡ length l
  pub others : (i : ℕ) → i < 9 → (i ≡ j → ⊥) → labels_at sizes l' i ≡ labels_at sizes l i
  pub rest : (i x : ℕ) → i < 9 → get_or sizes i 0 ≤ x → x < 64 → get_or l' (64 * i + x) 255 ≡ get_or l (64 * i + x) 255

-- "all others 255": 576 bytes, in which those that no index has are 255
pub record Others255 (sizes l : List ℕ) : Type 0 where
  pub long : length l ≡ 576
  pub rest : (j x : ℕ) → j < 9 → get_or sizes j 0 ≤ x → x < 64 → get_or l (64 * j + x) 255 ≡ 255

-- every index is a block of its own
pub record SingleBlocks (sizes l : List ℕ) : Type 0 where
  pub bytes : Others255 sizes l
  pub labels : (j : ℕ) → j < 9 → labels_at sizes l j ≡ listed (get_or sizes j 0) (λ i. i)

-- there is room for the pairs, unless every basis is small
pub record Room (sizes pairs : List ℕ) : Type 0 where
  pub at : (j : ℕ) → j < 9 → plain < get_or sizes j 0 → length pairs ≡ 56160
