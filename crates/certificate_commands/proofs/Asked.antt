-- The sizes of a problem and the progress of a certificate hold what the checks of a command ask.
use mathlib.Core.Path.{◌≡◌, refl, ap, sym, ◌∙◌}
use mathlib.Core.List.{List, [], ◌∷◌, ◌++◌}
use mathlib.Core.Bool.{Bool, true, false, not}
use Prim.Native.Nat.{ℕ, suc, ◌≤◌}
use native.Mathlib.Omega.{arith}
use lib.Dec.{leb, ltb}
use lib.ListN.{length, get_or}
use borrow.Author.Tests.{le-leb, leb-true, leb-false, lt-ltb, le-ltb}
use Rattle.format.specs.ProblemRules.{Problem}
use Rattle.format.specs.ProblemBases.{basis_of}
use Rattle.format.specs.CertificateRules.{Entry, Certificate, last_row, rises, index_repeated}
use Rattle.certificate_commands.specs.declared.Progress.{Progress}
use Rattle.certificate_commands.specs.Kept.{Sized, floor_of, progress_of}

-- ---- "Indices rise within a row": an index rises exactly where it is at least the least that may follow
rises_floor : (es : List Entry) (i : ℕ) → rises es i ≡ leb (floor_of es) i
rises_floor [] i = sym (le-leb 0 i (omega arith))
rises_floor (e ∷ []) i = refl
rises_floor (e ∷ f ∷ es) i = rises_floor (f ∷ es) i

pub not_rising : (es : List Entry) (i : ℕ) → ltb i (floor_of es) ≡ not (rises es i)
not_rising es i = rw (rises_floor es i) (go (leb (floor_of es) i) refl)
  where
    go : (b : Bool) → leb (floor_of es) i ≡ b → ltb i (floor_of es) ≡ not b
    go true e = le-ltb i (floor_of es) (leb-true _ _ e)
    go false e = lt-ltb i (floor_of es) (leb-false _ _ e)

pub floor_more : (es : List Entry) (e : Entry) → floor_of (es ++ (e ∷ [])) ≡ suc e.index
floor_more [] e = refl
floor_more (x ∷ []) e = refl
floor_more (x ∷ y ∷ es) e = floor_more (y ∷ es) e

-- ---- what stands for a problem and a certificate
module _ (c : Certificate) (g : Progress) (e : g ≡ progress_of c) where
  pub rows_are : g.rows ≡ length c.rows
  unfolding progress_of
  rows_are = ap (λ (x : Progress). x.rows) e

  pub basis_is : g.basis ≡ (last_row c.rows).basis
  unfolding progress_of
  basis_is = ap (λ (x : Progress). x.basis) e

  pub floor_is : g.floor ≡ floor_of (last_row c.rows).entries
  unfolding progress_of
  floor_is = ap (λ (x : Progress). x.floor) e

  pub below_floor : (i : ℕ) → ltb i g.floor ≡ index_repeated c i
  below_floor i = ap (ltb i) floor_is ∙ not_rising (last_row c.rows).entries i

  pub size_is : (p : Problem) (sizes : List ℕ) → Sized p sizes → g.basis ≤ 8 → get_or sizes g.basis 0 ≡ length (basis_of p (last_row c.rows).basis)
  size_is p sizes f l = f.bases g.basis (omega arith) ∙ ap (λ (j : ℕ). length (basis_of p j)) basis_is
