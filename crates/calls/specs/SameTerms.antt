-- When two lists of terms are the same, term by term as sent: for the conditions of two problems (request 12) and for
-- a box (request 13).
use Rattle.std.specs.Prelude.{Bool, true, false, ◌&&◌, List, [], ◌∷◌, eqb}
use Rattle.polynomial.specs.Terms.{Term}
use Rattle.accepting.specs.Judgement.{same_number}

abbrev pub same_term : Term → Term → Bool
same_term s t = eqb s.key t.key && same_number s.coefficient t.coefficient

abbrev pub same_terms : List Term → List Term → Bool
same_terms [] [] = true
same_terms [] (t ∷ Q) = false
same_terms (s ∷ P) [] = false
same_terms (s ∷ P) (t ∷ Q) = same_term s t && same_terms P Q
