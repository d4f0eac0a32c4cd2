-- All that is added before a sum is tested or divided fits a half of 64 bits: 257 products of the claim and nine tables of
-- 2,080 entries, each times 32 terms, at most 5 × 2^41 each, and a carry.
use Prim.Native.Nat.{◌+◌, ◌*◌, ◌^◌, ◌<◌}
use native.Mathlib.Omega.{arith}
use Rattle.identity_sums.specs.Tables.{unit}
use Rattle.identity_rows.specs.Spread.{table_unit}

pub room_for_all : 257 * unit + (9 * table_unit + 2 ^ 36) < 2 ^ 63
room_for_all = omega arith
