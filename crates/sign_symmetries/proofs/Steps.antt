-- Laws of the steps: what is lent, and what the blocks call says of the same stream.
use mathlib.Core.Path.{◌≡◌, refl, ap, ◌∙◌}
use mathlib.Core.Bool.{Bool, true}
use mathlib.Core.List.{List}
use Prim.Native.Nat.{ℕ, ◌≤◌, ◌<◌}
use lib.IntN.{ℤ}
use lib.ListN.{length}
use Rattle.counting.proofs.Cases.{clash}
use Rattle.format.specs.ProblemRules.{Problem}
use Rattle.calls.specs.Tables.{Tables, tables_short}
use Rattle.calls.specs.Outcome.{Outcome, given, ◌then◌, told}
use Rattle.calls.specs.Refusals.{no_refusal}
use Rattle.calls.specs.Promises.{Within}
use Rattle.calls.specs.Blocks.{refused_blocks, found_blocks, blocks_verdict}
use Rattle.calls.specs.Symmetries.{symmetries_of, mask_byte_count, symmetries_short, refused_symmetries, found_symmetries, symmetries_verdict, mask_bytes, masks_left}
use Rattle.calls.specs.declared.Refusal.{Refusal}
use Rattle.calls.specs.declared.BlocksVerdict.{BlocksVerdict}
use Rattle.calls.specs.declared.SymmetriesVerdict.{SymmetriesVerdict}
use Rattle.calls.proofs.Refusing.{problem_by, problem_within}
use Rattle.problem_reader.specs.Storing.{GivenFlat, ReadFlat}
use Rattle.std.proofs.Common.{Result, Ok, Err}
use Rattle.faults.specs.declared.Misread.{Misread}
use Rattle.work_tables.proofs.Tables.{lent_short, lent_long}
use Rattle.sign_symmetries.specs.Parities.{GivesProblem}

-- ---- what is lent: too short or long enough
module _ (t : Tables) (out : List ℕ) where
  pub masks_short : length out < mask_byte_count → symmetries_short out t ≡ true
  unfolding symmetries_short
  masks_short h = lent_short t mask_byte_count out h

  pub masks_long : mask_byte_count ≤ length out → symmetries_short out t ≡ tables_short t
  unfolding symmetries_short
  masks_long h = lent_long t mask_byte_count out (tables_short t) h refl

-- ---- by the verdict of the blocks call
module _ (short : Bool) (s out : List ℕ) where
  -- the verdict and the bytes, told of what became of the problem
  abbrev Told : Outcome Problem → SymmetriesVerdict → List ℕ → Type 0
  Told o v left =
      (v ≡ told refused_symmetries (o then λ p. given (found_symmetries p)))
      × (left ≡ told (λ _. out) (o then λ p. given (mask_bytes (symmetries_of p) out)))

  pub refused_as : (v : BlocksVerdict) → v ≡ blocks_verdict short s → (v.refusal.number ≡ 0 → ⊥)
      → (refused_symmetries v.refusal ≡ symmetries_verdict short s) × (out ≡ masks_left short s out)
  unfolding blocks_verdict symmetries_verdict masks_left
  refused_as v =
      problem_by short s
      (λ o. v ≡ told refused_blocks (o then λ p. given (found_blocks p)) → (v.refusal.number ≡ 0 → ⊥) → Told o (refused_symmetries v.refusal) out)
      (λ r b e h. (ap (λ (x : BlocksVerdict). refused_symmetries x.refusal) e, refl))
      (λ p w e h. absurd (h (ap (λ (x : BlocksVerdict). x.refusal.number) e)))

  pub found_as : (p : Problem) → Within short s p → (f : Refusal) (n : ℕ) (left : List ℕ) → f ≡ (blocks_verdict short s).refusal → n ≡ length (symmetries_of p)
      → left ≡ mask_bytes (symmetries_of p) out → (record { refusal = f; masks = n } ≡ symmetries_verdict short s) × (left ≡ masks_left short s out)
  unfolding blocks_verdict symmetries_verdict masks_left
  found_as p w f n left e h k =
      let g : f ≡ no_refusal = e ∙ rw (problem_within short s p w) in
      rw (problem_within short s p w, g, h) (refl, k)

-- ---- a stream that gives a problem leaves it in the arrays
pub gives_flat : {s : List ℕ} {r : Result (Unit {0}) Misread} {keys : List ℕ} {coefficients : List ℤ} {sizes : List ℕ} → ReadFlat s r keys coefficients sizes
    → GivesProblem s → GivenFlat s keys coefficients sizes
gives_flat {r = Ok _} e g = e.gives
gives_flat {r = Err m} e g = let a = e.refuses in let b = g.read in clash (cc)
