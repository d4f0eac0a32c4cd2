-- The sizes that stand beside a problem are its own.
use mathlib.Core.Path.{ap, sym, ◌∙◌}
use mathlib.Core.List.{List}
use Prim.Native.Nat.{ℕ}
use lib.IntN.{ℤ}
use lib.ListN.{length}
use Rattle.format.specs.ProblemRules.{Problem}
use Rattle.flat.specs.Flat.{FlatProblem}
use Rattle.flat.proofs.Flat.{basis_long, kind_part}
use Rattle.certificate_commands.specs.Kept.{Sized}

pub flat_sized : {p : Problem} {keys : List ℕ} {coefficients : List ℤ} {sizes : List ℕ} → FlatProblem p keys coefficients sizes → Sized p sizes
flat_sized f =
    record {
      sizes_length = f.limits.sizes_length;
      bases = λ j h. sym (basis_long f.limits j h) ∙ ap length (f.bases j h);
      conditions = f.conditions;
      kinds = kind_part f;
    }
