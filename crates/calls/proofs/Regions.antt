-- When two problems have one region: what refusal 15 compares, and that then the allowed points are the same.
use mathlib.Core.Path.{◌≡◌, refl, sym, ap₂, ◌∙◌}
use mathlib.Core.Bool.{true}
use mathlib.Core.List.{List, [], ◌∷◌}
use lib.Dec.{eqb}
use borrow.Author.Tests.{eqb-true, eq-eqb}
use Rattle.counting.proofs.Cases.{clash, and_left, and_right}
use Rattle.polynomial.specs.Terms.{Term}
use Rattle.polynomial.specs.Point.{Point}
use Rattle.format.specs.declared.problem.Kind.{Kind}
use Rattle.format.specs.declared.problem.Kind.TheVariants as K
use Rattle.format.specs.ProblemRules.{Condition, Problem}
use Rattle.accepting.specs.Bounds.{Allowed}
use Rattle.calls.specs.AddedBounds.{same_kind, same_conditions, same_region, SameRegion}
use Rattle.calls.specs.SameTerms.{same_terms}
use Rattle.calls.proofs.SameTerms.{terms_equal, terms_self}

-- ---- kinds, terms and conditions that are found the same are equal, and equal ones are found the same
kind_equal : (k l : Kind) → same_kind k l ≡ true → k ≡ l
kind_equal K.Inequality K.Inequality h = refl
kind_equal K.Inequality K.Equality h = clash (cc)
kind_equal K.Equality K.Inequality h = clash (cc)
kind_equal K.Equality K.Equality h = refl

kind_self : (k : Kind) → same_kind k k ≡ true
kind_self K.Inequality = refl
kind_self K.Equality = refl

conditions_equal : (gs hs : List Condition) → same_conditions gs hs ≡ true → gs ≡ hs
conditions_equal [] [] h = refl
conditions_equal [] (g ∷ hs) h = clash (cc)
conditions_equal (g ∷ gs) [] h = clash (cc)
conditions_equal (g ∷ gs) (h ∷ hs) e =
    let k = kind_equal g.kind h.kind (and_left _ _ e) in
    let r = and_right (same_kind g.kind h.kind) _ e in
    let t = terms_equal g.terms h.terms (and_left _ _ r) in
    let c : g ≡ h = ap₂ (λ (kind : Kind) (terms : List Term). record { kind = kind; terms = terms }) k t in
    ap₂ ◌∷◌ c (conditions_equal gs hs (and_right (same_terms g.terms h.terms) _ r))

conditions_self : (gs : List Condition) → same_conditions gs gs ≡ true
conditions_self [] = refl
conditions_self (g ∷ gs) = rw (kind_self g.kind, terms_self g.terms) (conditions_self gs)

module _ (p q : Problem) where
  -- what is compared is what document 02 says
  pub region_equal : same_region p q ≡ true → SameRegion p q
  unfolding same_region
  region_equal h = record {
    variables = eqb-true _ _ (and_left _ _ h);
    conditions = conditions_equal _ _ (and_right (eqb p.variables q.variables) _ h);
  }

  pub region_same : SameRegion p q → same_region p q ≡ true
  unfolding same_region
  region_same r =
      rw (eq-eqb p.variables q.variables r.variables, r.conditions) (conditions_self q.conditions)

  -- "over one region": an allowed point of one problem is one of the other
  pub region_allowed : SameRegion p q → (a : Point) → Allowed p a → Allowed q a
  region_allowed r a h = record {
    denominator = h.denominator;
    coordinates = h.coordinates ∙ r.variables;
    conditions = rw r.conditions at h.conditions;
  }

pub region_back : {p q : Problem} → SameRegion p q → SameRegion q p
region_back r = record { variables = sym r.variables; conditions = sym r.conditions }
