-- Terms that are found the same are equal ones, and equal ones are found the same.
use mathlib.Core.Path.{◌≡◌, refl, ap₂}
use mathlib.Core.Bool.{true}
use mathlib.Core.List.{List, [], ◌∷◌}
use lib.Dec.{eqb}
use borrow.Author.Tests.{eqb-true, eq-eqb}
use Rattle.counting.proofs.Cases.{never, and_left, and_right}
use Rattle.polynomial.specs.Terms.{Term, term}
use Rattle.accepting.specs.Judgement.{same_number}
use Rattle.accepting.proofs.Difference.{same_equal, same_self}
use Rattle.calls.specs.SameTerms.{same_term, same_terms}

term_equal : (s t : Term) → same_term s t ≡ true → s ≡ t
term_equal s t h =
    ap₂ term (eqb-true _ _ (and_left _ (same_number s.coefficient t.coefficient) h))
    (same_equal _ _ (and_right (eqb s.key t.key) _ h))

pub terms_equal : (P Q : List Term) → same_terms P Q ≡ true → P ≡ Q
terms_equal [] [] h = refl
terms_equal [] (t ∷ Q) h = never h
terms_equal (s ∷ P) [] h = never h
terms_equal (s ∷ P) (t ∷ Q) h =
    ap₂ (λ (u : Term) (l : List Term). u ∷ l) (term_equal s t (and_left _ (same_terms P Q) h))
    (terms_equal P Q (and_right (same_term s t) _ h))

pub terms_self : (P : List Term) → same_terms P P ≡ true
terms_self [] = refl
terms_self (s ∷ P) = rw (eq-eqb s.key s.key refl, same_self s.coefficient) (terms_self P)
