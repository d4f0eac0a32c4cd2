-- Two signed numbers of 32 bits are the same exactly where their bits are.
use mathlib.Core.Path.{◌≡◌, refl, sym, ap, ◌∙◌}
use mathlib.Core.Bool.{Bool, true, false}
use lib.Dec.{eqb}
use lib.IntN.{ℤ}
use mir.Syntax.{w32}
use mir.Val.{SFits, of_z, to_z}
use mir.Facts.{to_z-of_z}
use borrow.Author.Tests.{eqb-true, eqb-false}
use Rattle.accepting.specs.Judgement.{same_number}
use Rattle.accepting.proofs.Difference.{same_equal, same_self}

module _ (a b : ℤ) (f : SFits w32 a) (g : SFits w32 b) where
  pub same_bits : eqb (of_z w32 a) (of_z w32 b) ≡ same_number a b
  same_bits = go (eqb (of_z w32 a) (of_z w32 b)) (same_number a b) refl refl
    where
      go : (x y : Bool) → eqb (of_z w32 a) (of_z w32 b) ≡ x → same_number a b ≡ y → x ≡ y
      go true y e h =
          let k : a ≡ b = sym (to_z-of_z f) ∙ ap (to_z w32) (eqb-true (of_z w32 a) (of_z w32 b) e) ∙ to_z-of_z g in
          sym (same_self a) ∙ ap (same_number a) k ∙ h
      go false true e h = absurd (eqb-false (of_z w32 a) (of_z w32 b) e (ap (of_z w32) (same_equal a b h)))
      go false false e h = refl
