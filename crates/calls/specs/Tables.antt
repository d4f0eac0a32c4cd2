-- The work tables lent to a call: when one is too short, and what they hold when the call returns.
use Rattle.std.specs.Prelude.{◌≡◌, Bool, cond, ◌||◌, List, ◌++◌, ℕ, ltb, ℤ, pos, length, drop, replicate}

-- "three work tables of 2,048 64-bit numbers". The limit of S, joining_rule's mostKeys, is another thing, though the
-- same number
abbrev pub table_length : ℕ
table_length = 2048

-- the three at one moment
pub record Tables : Type 0 where
  pub keys : List ℕ
  pub high : List ℤ
  pub low : List ℤ

abbrev pub tables : List ℕ → List ℤ → List ℤ → Tables
tables keys high low = record { keys = keys; high = high; low = low }

-- refusal 1: "a lent table .. is too short"
abbrev pub tables_short : Tables → Bool
tables_short t =
    ltb (length t.keys) table_length
    || (ltb (length t.high) table_length || ltb (length t.low) table_length)

-- "On every return their first 2,048 numbers are zero and extra length .. is untouched, except that refusal 1 writes
-- nothing": short where refusal 1 is given
abbrev pub table_left {ℓ} : {A : Type ℓ} → Bool → A → List A → List A
table_left short zero t = cond short t (replicate table_length zero ++ drop table_length t)

-- the tables at exit, by those that were lent
pub record TablesLeft (short : Bool) (lent left : Tables) : Type 0 where
  pub keys : left.keys ≡ table_left short 0 lent.keys
  pub high : left.high ≡ table_left short (pos 0) lent.high
  pub low : left.low ≡ table_left short (pos 0) lent.low
