-- What the 576 bytes tell of the nine lists of block numbers.
use mathlib.Core.Path.{◌≡◌, ◌∙◌}
use mathlib.Core.List.{List, []}
use Prim.Native.Nat.{ℕ, ◌+◌, ◌*◌, ◌/◌, ◌%◌, ◌<◌}
use native.Mathlib.Omega.{arith}
use lib.ListN.{length, get_or}
use Rattle.counting.proofs.Cases.{default_any}
use Rattle.counting.proofs.Listed.{listed_length, listed_at}
use Rattle.joining_rule.specs.Bytes.{block_bytes, block_at}

-- ---- 576 bytes of block numbers

pub bytes_long : (L : List (List ℕ)) → length (block_bytes L) ≡ 576
unfolding block_bytes
bytes_long L = listed_length 576 (λ x. get_or (get_or L (x / 64) []) (x % 64) 255)

pub bytes_at : (L : List (List ℕ)) (x : ℕ) → x < 576 → get_or (block_bytes L) x 255 ≡ get_or (get_or L (x / 64) []) (x % 64) 255
unfolding block_bytes
bytes_at L x h = listed_at 576 (λ x. get_or (get_or L (x / 64) []) (x % 64) 255) x 255 h

pub bytes_from : (L : List (List ℕ)) (j i : ℕ) → j < 9 → i < 64 → get_or (block_bytes L) (64 * j + i) 255 ≡ get_or (get_or L j []) i 255
bytes_from L j i h b =
    let q : (64 * j + i) / 64 ≡ j = omega arith in
    let r : (64 * j + i) % 64 ≡ i = omega arith in
    bytes_at L (64 * j + i) (omega arith) ∙ rw (q, r)

-- a byte is a block number
pub byte_at : (L : List (List ℕ)) (j i : ℕ) → j < 9 → i < 64 → i < length (get_or L j []) → block_at (block_bytes L) j i ≡ get_or (get_or L j []) i 0
byte_at L j i h b x = default_any (block_bytes L) (64 * j + i) 0 255 (omega (arith, bytes_long L)) ∙ bytes_from L j i h b ∙ default_any (get_or L j []) i 255 0 x
