-- Laws of the work tables: too short or long enough, and what a table holds at the end.
use mathlib.Core.Path.{◌≡◌, refl, ap, ◌∙◌}
use mathlib.Core.Bool.{Bool, true, false, ◌||◌}
use mathlib.Core.List.{List, ◌++◌}
use Prim.Native.Nat.{ℕ, ◌≤◌, ◌<◌}
use lib.Dec.{ltb}
use lib.IntN.{ℤ, pos}
use lib.ListN.{length, replicate}
use borrow.Author.Tests.{lt-ltb, le-ltb, ltb-false}
use Rattle.counting.proofs.Cases.{clash}
use Rattle.calls.specs.Tables.{table_length, Tables, tables_short, TablesLeft}
use Rattle.work_tables.specs.Tables.{Long, Rest}

or_left : (a b : Bool) → (a || b) ≡ false → a ≡ false
or_left true b h = h
or_left false b h = refl

or_right : (a b : Bool) → (a || b) ≡ false → b ≡ false
or_right true b h = clash (cc)
or_right false b h = h

module _ (t : Tables) where
  pub tables_long : tables_short t ≡ false → Long t
  tables_long h =
      let r = or_right (ltb (length t.keys) table_length) _ h in
      record {
        keys = ltb-false _ _ (or_left (ltb (length t.keys) table_length) _ h);
        high = ltb-false _ _ (or_left (ltb (length t.high) table_length) _ r);
        low = ltb-false _ _ (or_right (ltb (length t.high) table_length) _ r);
      }

  -- refusal 1 writes nothing
  pub tables_kept : TablesLeft true t t
  tables_kept = record { keys = refl; high = refl; low = refl }

  -- n bytes are lent besides
  module _ (n : ℕ) (out : List ℕ) where
    pub lent_short : length out < n → (ltb (length out) n || tables_short t) ≡ true
    lent_short h = rw (lt-ltb (length out) n h)

    pub lent_long : (b : Bool) → n ≤ length out → tables_short t ≡ b → (ltb (length out) n || tables_short t) ≡ b
    lent_long b h e = rw (le-ltb (length out) n h) e

-- tables that were changed before place 2,048 only, and then cleared
pub tables_cleared : {t t₁ t₂ : Tables} → Rest t t₁ → TablesLeft false t₁ t₂ → TablesLeft false t t₂
tables_cleared r c = record {
  keys = c.keys ∙ ap (λ (l : List ℕ). replicate table_length 0 ++ l) r.keys;
  high = c.high ∙ ap (λ (l : List ℤ). replicate table_length (pos 0) ++ l) r.high;
  low = c.low ∙ ap (λ (l : List ℤ). replicate table_length (pos 0) ++ l) r.low;
}
