-- What is lent to a call: when it is too short, "2,047 numbers" being the example, and what the tables hold at exit.
use mathlib.Core.Path.{◌≡◌, refl}
use mathlib.Core.List.{[], ◌∷◌, ◌++◌}
use mathlib.Core.Bool.{true, false}
use Prim.Native.Nat.{ℕ}
use lib.IntN.{pos}
use lib.ListN.{replicate}
use Rattle.calls.specs.Blocks.{blocks_short}
use Rattle.calls.specs.Symmetries.{symmetries_short}
use Rattle.calls.specs.Tables.{Tables, tables, tables_short, table_left}

-- tables of so many numbers
abbrev lent : ℕ → ℕ → ℕ → Tables
lent keys high low = tables (replicate keys 7) (replicate high (pos 7)) (replicate low (pos 7))

-- each of the three tables, then the 576 bytes and the 256 bytes, at their length and one less
pub too_short :
    tables_short (lent 2048 2048 2048)
    ∷ tables_short (lent 2047 2048 2048)
    ∷ tables_short (lent 2048 2047 2048)
    ∷ tables_short (lent 2048 2048 2047)
    ∷ blocks_short (replicate 576 7) (lent 2048 2048 2048)
    ∷ blocks_short (replicate 575 7) (lent 2048 2048 2048)
    ∷ blocks_short (replicate 576 7) (lent 2048 2048 2047)
    ∷ symmetries_short (replicate 256 7) (lent 2048 2048 2048)
    ∷ symmetries_short (replicate 255 7) (lent 2048 2048 2048)
    ∷ symmetries_short (replicate 256 7) (lent 2047 2048 2048)
    ∷ []
    ≡ false ∷ true ∷ true ∷ true ∷ false ∷ true ∷ true ∷ false ∷ true ∷ true ∷ []
unfolding blocks_short symmetries_short
too_short = refl

-- "their first 2,048 numbers are zero and extra length .. is untouched, except that refusal 1 writes nothing"
pub left :
    table_left {A = ℕ} false 0 (replicate 2049 7) ∷ table_left {A = ℕ} true 0 (replicate 2047 7) ∷ []
    ≡ (replicate 2048 0 ++ (7 ∷ [])) ∷ replicate 2047 7 ∷ []
left = refl
