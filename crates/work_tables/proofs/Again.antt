-- Work tables that are lent to one call after another. What tables keep that are long enough and were cleared: their
-- lengths, and what is past place 2,048. So what is left after two calls is what one leaves.
use native.Mathlib.Omega.{arith}
use mathlib.Core.Path.{◌≡◌, refl, ◌∙◌}
use mathlib.Core.Bool.{Bool, true, false}
use mathlib.Core.List.{List, ◌++◌}
use Prim.Native.Nat.{◌≤◌}
use lib.IntN.{pos}
use lib.ListN.{length, drop, replicate, length-append, length-drop, length-replicate}
use lib.Seq.{drop_at}
use borrow.Author.Tests.{le-ltb}
use Rattle.calls.specs.Tables.{table_length, Tables, tables_short, TablesLeft}
use Rattle.work_tables.specs.Tables.{Long, Rest}
use Rattle.work_tables.proofs.Tables.{tables_long, tables_cleared}

pub long_tables : {t : Tables} → Long t → tables_short t ≡ false
long_tables {t} l =
    rw (le-ltb (length t.keys) table_length l.keys, le-ltb (length t.high) table_length l.high)
    (le-ltb (length t.low) table_length l.low)

left_long : {A : Type 0} (zero : A) (t : List A) → table_length ≤ length t
    → table_length ≤ length (replicate table_length zero ++ drop table_length t)
left_long zero t h =
    omega (arith, length-append (replicate table_length zero) (drop table_length t), length-replicate table_length zero)

left_rest : {A : Type 0} (zero : A) (t : List A)
    → drop table_length (replicate table_length zero ++ drop table_length t) ≡ drop table_length t
left_rest zero t =
    drop_at (replicate table_length zero) (drop table_length t) table_length (length-replicate table_length zero)

pub cleared_long : {t u : Tables} → Long t → TablesLeft false t u → Long u
cleared_long {t} {u} l c = record {
  keys = rw c.keys (left_long 0 t.keys l.keys);
  high = rw c.high (left_long (pos 0) t.high l.high);
  low = rw c.low (left_long (pos 0) t.low l.low);
}

pub cleared_rest : {t u : Tables} → TablesLeft false t u → Rest t u
cleared_rest {t} {u} c = record {
  keys = rw c.keys (left_rest 0 t.keys);
  high = rw c.high (left_rest (pos 0) t.high);
  low = rw c.low (left_rest (pos 0) t.low);
}

left_same : {A : Type 0} (zero : A) (t : List A) → table_length ≤ length t
    → length (replicate table_length zero ++ drop table_length t) ≡ length t
left_same zero t h =
    omega (arith, length-append (replicate table_length zero) (drop table_length t), length-replicate table_length zero, length-drop table_length t)

pub record SameLengths (t u : Tables) : Type 0 where
  pub keys : length u.keys ≡ length t.keys
  pub high : length u.high ≡ length t.high
  pub low : length u.low ≡ length t.low

pub cleared_same : {t u : Tables} → Long t → TablesLeft false t u → SameLengths t u
cleared_same {t} {u} l c = record {
  keys = rw c.keys (left_same 0 t.keys l.keys);
  high = rw c.high (left_same (pos 0) t.high l.high);
  low = rw c.low (left_same (pos 0) t.low l.low);
}

-- ---- two calls, one after the other

module _ {t t₁ : Tables} where
  again : (short : Bool) → tables_short t ≡ short → TablesLeft short t t₁ → tables_short t₁ ≡ short
  again true e left = rw (left.keys, left.high, left.low) e
  again false e left = long_tables (cleared_long (tables_long t e) left)

  -- the second call meets tables that are too short exactly where the first did
  pub short_again : TablesLeft (tables_short t) t t₁ → tables_short t₁ ≡ tables_short t
  short_again = again (tables_short t) refl

  module _ {t₂ : Tables} where
    twice : (short : Bool) → TablesLeft short t t₁ → TablesLeft short t₁ t₂ → TablesLeft short t t₂
    twice true first second = record {
      keys = second.keys ∙ first.keys;
      high = second.high ∙ first.high;
      low = second.low ∙ first.low;
    }
    twice false first second = tables_cleared (cleared_rest first) second

    pub left_twice : TablesLeft (tables_short t) t t₁ → TablesLeft (tables_short t₁) t₁ t₂ → TablesLeft (tables_short t) t t₂
    left_twice first second = twice (tables_short t) first (rw (short_again first) at second)
