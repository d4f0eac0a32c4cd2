-- What comes back, by what was chosen.
use mathlib.Core.Path.{◌≡◌, sym, ap, ◌∙◌}
use mathlib.Core.Bool.{false}
use mathlib.Core.List.{List}
use Prim.Native.Nat.{ℕ}
use lib.Dec.{eqb}
use borrow.Author.Tests.{eqb-false}
use Rattle.calls.specs.declared.Chosen.{Chosen}
use Rattle.calls.specs.Superseding.{part_of, stream_of}

pub part_by : (w u : Chosen) (part first second : List ℕ) → w ≡ u → part ≡ part_of u first second
    → part ≡ part_of w first second
part_by w u part first second e h = rw e h

-- one thing is chosen
pub not_both : {X : Type 0} (w u v : Chosen) → w ≡ u → w ≡ v → eqb (stream_of u) (stream_of v) ≡ false → X
not_both w u v e f h = absurd (eqb-false (stream_of u) (stream_of v) h (ap stream_of (sym e ∙ f)))
