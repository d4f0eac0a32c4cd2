-- What the two streams give, and what is compared of it.
use mathlib.Core.Path.{◌≡◌, refl, sym, ap, ◌∙◌}
use mathlib.Core.Bool.{Bool, false}
use mathlib.Core.List.{List}
use Prim.Native.Nat.{ℕ, ◌<◌}
use lib.IntN.{ℤ}
use lib.ListN.{length, get_or}
use Rattle.format.specs.Commands.{Outcome, refused, given}
use Rattle.format.specs.ProblemRules.{Problem, read_problem}
use Rattle.problem_reader.specs.Storing.{GivenFlat}
use Rattle.calls.specs.AddedBounds.{same_region, same_region_read, SameRegion}
use Rattle.calls.proofs.Regions.{region_equal, region_same}
use Rattle.regions.specs.Compared.{Tells}
use Rattle.format.proofs.ProblemVariables.{second_byte}
use Rattle.regions.proofs.Compared.{tells_false, tells_same}

pub first_refused : (s t : List ℕ) {n place : ℕ} → read_problem s ≡ refused n place
    → false ≡ same_region_read (read_problem s) (read_problem t)
first_refused s t e = sym (ap (λ (o : Outcome Problem). same_region_read o (read_problem t)) e)

pub second_refused : (s t : List ℕ) {n place : ℕ} → read_problem t ≡ refused n place
    → false ≡ same_region_read (read_problem s) (read_problem t)
second_refused s t {n} {place} e = sym (ap (same_region_read (read_problem s)) e ∙ go (read_problem s))
  where
    go : (o : Outcome Problem) → same_region_read o (refused n place) ≡ false
    go (given p) = refl
    go (refused m at) = refl

module _ {s t keys keys' sizes sizes' : List ℕ} {coefficients coefficients' : List ℤ}
    (g : GivenFlat s keys coefficients sizes) (h : GivenFlat t keys' coefficients' sizes') where
  abbrev p : Problem
  p = g.problem

  abbrev q : Problem
  q = h.problem

  asked : same_region_read (read_problem s) (read_problem t) ≡ same_region p q
  asked = rw (g.read, h.read)

  -- the second bytes name the variables
  pub long : (1 < length s) × (1 < length t)
  long = ((second_byte s p g.read).there, (second_byte t q h.read).there)

  tested : (r : Bool) → Tells r (SameRegion p q) → r ≡ same_region_read (read_problem s) (read_problem t)
  tested r k = tells_same r (same_region p q) k (region_equal p q) (region_same p q) ∙ sym asked

  pub variables_differ : (get_or s 1 0 ≡ get_or t 1 0 → ⊥) → false ≡ same_region_read (read_problem s) (read_problem t)
  variables_differ d = tested false (tells_false (λ r.
      d (sym (second_byte s p g.read).named ∙ r.variables ∙ (second_byte t q h.read).named)))

  pub variables_same : get_or s 1 0 ≡ get_or t 1 0 → (r : Bool) → Tells r (p.conditions ≡ q.conditions)
      → r ≡ same_region_read (read_problem s) (read_problem t)
  variables_same e r k = tested r (record {
    only = λ z. record {
      variables = (second_byte s p g.read).named ∙ e ∙ sym (second_byte t q h.read).named;
      conditions = k.only z;
    };
    always = λ z. k.always z.conditions;
  })
