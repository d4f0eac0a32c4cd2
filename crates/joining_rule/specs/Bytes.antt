-- The 576 bytes of block numbers.
use Rattle.std.specs.Prelude.{List, [], ℕ, ◌+◌, ◌*◌, ◌/◌, ◌%◌, get_or}
use Rattle.counting.specs.Counting.{listed}

-- "576 bytes out": 64 for each of the nine bases
abbrev pub block_byte_count : ℕ
block_byte_count = 576

-- "byte 64j + i gets the block number of index i in basis j, all others 255"
unfoldable pub block_bytes : List (List ℕ) → List ℕ
block_bytes L = listed block_byte_count (λ x. get_or (get_or L (x / 64) []) (x % 64) 255)

-- the block number of index i in basis j that the bytes tell
abbrev pub block_at : List ℕ → ℕ → ℕ → ℕ
block_at bytes j i = get_or bytes (64 * j + i) 0
