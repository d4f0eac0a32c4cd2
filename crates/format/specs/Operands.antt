-- Operands as they stand in a stream of bytes: "little-endian, signed ones two's complement".
use Rattle.std.specs.Prelude.{cond, List, ℕ, zero, suc, ◌+◌, ◌*◌, ◌^◌, ltb, ℤ, pos, ◌-ℤ◌, get_or}

-- the unsigned number that w bytes at an offset give, the first byte the lowest. For the 8 exponent bytes of a monomial
-- this is the key: "the sum of e_i × 256^(i−1)"
unfoldable pub number : ℕ → List ℕ → ℕ → ℕ
number zero s at = 0
number (suc w) s at = get_or s at 0 + 256 * number w s (at + 1)

-- the signed number that x stands for in w + 1 bits, in two's complement
unfoldable pub signed : ℕ → ℕ → ℤ
signed w x = cond (ltb x (2 ^ w)) (pos x) (pos x -ℤ pos (2 ^ (w + 1)))
