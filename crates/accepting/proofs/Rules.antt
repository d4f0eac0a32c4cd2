-- Two problems that are alike but for the joining rule and the sparse order: where the second joins no less, so that the
-- blocks of the first lie inside its own, what is accepted for the first is accepted for the second.
use mathlib.Core.Path.{◌≡◌, refl, sym, ap, ap₂, ◌∙◌}
use mathlib.Core.List.{List, [], ◌∷◌, ◌++◌}
use Prim.Native.Nat.{ℕ, ◌<◌}
use native.Mathlib.Omega.{arith}
use lib.ListN.{length}
use Rattle.polynomial.specs.Terms.{Term}
use Rattle.polynomial.specs.Algebra.{coefficient}
use Rattle.format.specs.All.{All}
use Rattle.format.specs.ProblemRules.{Problem}
use Rattle.format.specs.ProblemBases.{basis_of}
use Rattle.format.specs.CertificateRules.{Entry, Row, Certificate}
use Rattle.format.proofs.WithinLimits.{Limits}
use Rattle.format.proofs.CertificateLimits.{SoundRow, read_sound}
use Rattle.format.proofs.Alike.{Alike, alike_basis, alike_multiplier, alike_certificate}
use Rattle.joining_rule.proofs.Rules.{JoinsMore, problem_below}
use Rattle.accepting.specs.Identity.{square, squares, claim_of, Identity, block_of, OneBlock}
use Rattle.accepting.specs.Judgement.{Accepted}
use Rattle.accepting.proofs.Reach.{all_both}

module _ (p q : Problem) (more : JoinsMore p q) where
  abbrev a : Alike p q
  a = more.alike

  -- ---- the identity is the same
  square_same : (w : Row) → square q w ≡ square p w
  unfolding square
  square_same w = rw (alike_basis p q a w.basis, alike_multiplier p q a w.basis)

  squares_same : (ws : List Row) → squares q ws ≡ squares p ws
  unfolding squares
  squares_same [] = refl
  squares_same (w ∷ ws) = ap₂ (λ (x y : List Term). x ++ y) (square_same w) (squares_same ws)

  identity_same : (c : Certificate) → Identity p c → Identity q c
  unfolding Identity
  identity_same c h k =
      ap (λ (ts : List Term). coefficient k (claim_of ts c.header)) a.objective
      ∙ h k
      ∙ sym (ap (coefficient k) (squares_same c.rows))

  -- ---- a row in one block is in one block of the other
  module _ (limits : Limits p) where
    block_inside : (j i k : ℕ) → j < 9 → i < length (basis_of p j) → k < length (basis_of p j) → block_of p j i ≡ block_of p j k → block_of q j i ≡ block_of q j k
    unfolding block_of
    block_inside = (problem_below p q more).blocks

    row_inside : (w : Row) → SoundRow p w → OneBlock p w → OneBlock q w
    unfolding All
    row_inside w f o = go w.entries f.indices o.entries
      where
        j : ℕ
        j = w.basis

        one : (i k : ℕ) → i < length (basis_of p j) → k < length (basis_of p j) → block_of p j i ≡ o.block → block_of p j k ≡ o.block
            → block_of q j i ≡ block_of q j k
        one i k x y e f' = block_inside j i k (omega (arith, limits.conditions, f.basis)) x y (e ∙ sym f')

        go : (es : List Entry) → All (λ (e : Entry). e.index < length (basis_of p j)) es → All (λ (e : Entry). block_of p j e.index ≡ o.block) es
            → OneBlock q (record { basis = j; weight = w.weight; entries = es })
        go [] x y = record { block = 0; entries = tt }
        go (e ∷ es) x y = record {
          block = block_of q j e.index;
          entries = all_both _ _ _ (λ d u v. one d.index e.index u x.0 v y.0) (e ∷ es) x y;
        }

    -- "what is accepted under 2 is accepted under 1", and what "at k .. at every larger k and at full closure"
    pub accepted_other : (s : List ℕ) (c : Certificate) → Accepted p s c → Accepted q s c
    accepted_other s c h = record {
      read = alike_certificate p q a s ∙ h.read;
      blocks = all_both (SoundRow p) (OneBlock p) (OneBlock q) row_inside c.rows (read_sound p s c h.read).rows h.blocks;
      identity = identity_same c h.identity;
    }
