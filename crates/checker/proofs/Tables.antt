-- Laws of the lent bytes and tables of the blocks call: too short or long enough.
use mathlib.Core.Path.{◌≡◌}
use mathlib.Core.Bool.{Bool, true}
use mathlib.Core.List.{List}
use Prim.Native.Nat.{ℕ, ◌≤◌, ◌<◌}
use lib.ListN.{length}
use Rattle.calls.specs.Tables.{Tables, tables_short}
use Rattle.joining_rule.specs.Bytes.{block_byte_count}
use Rattle.calls.specs.Blocks.{blocks_short}
use Rattle.work_tables.proofs.Tables.{lent_short, lent_long}

module _ (t : Tables) (out : List ℕ) where
  pub out_short : length out < block_byte_count → blocks_short out t ≡ true
  unfolding blocks_short
  out_short h = lent_short t block_byte_count out h

  pub out_long : (b : Bool) → block_byte_count ≤ length out → tables_short t ≡ b → blocks_short out t ≡ b
  unfolding blocks_short
  out_long b h e = lent_long t block_byte_count out b h e
