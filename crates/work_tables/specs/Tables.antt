-- The work tables within a call.
use Rattle.std.specs.Prelude.{◌≡◌, ◌≤◌, length, drop}
use Rattle.calls.specs.Tables.{table_length, Tables}

-- every work table is long enough
pub record Long (t : Tables) : Type 0 where
  pub keys : table_length ≤ length t.keys
  pub high : table_length ≤ length t.high
  pub low : table_length ≤ length t.low

-- "extra length .. is untouched"
pub record Rest (lent left : Tables) : Type 0 where
  pub keys : drop table_length left.keys ≡ drop table_length lent.keys
  pub high : drop table_length left.high ≡ drop table_length lent.high
  pub low : drop table_length left.low ≡ drop table_length lent.low
