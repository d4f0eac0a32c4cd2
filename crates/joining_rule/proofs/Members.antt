-- The elements of a set: what a link comes from, and what an extension by the sums of one pair adds.
use mathlib.Core.Path.{◌≡◌, refl}
use mathlib.Core.Logic.{⊎_elim}
use mathlib.Core.Bool.{Bool, true, false, cond}
use mathlib.Core.List.{List, [], ◌∷◌}
use Prim.Native.Nat.{ℕ, ◌+◌}
use Rattle.counting.proofs.Cases.{clash}
use Rattle.joining_rule.specs.Sets.{In, member, insert}
use Rattle.joining_rule.proofs.Rising.{Rising}
use Rattle.joining_rule.proofs.Elements.{either, not_nil, in_cons, in_here, in_there, in_insert, insert_in, insert_keeps, insert_member}
use Rattle.joining_rule.specs.Join.{linked}
use Rattle.joining_rule.specs.Extend.{add_terms}

-- ---- "some exponent t of g_j has t + b + b' in S": a link comes from an exponent, and each such exponent makes one

pub linked_from : {P : Type 0} (S T : List ℕ) (s : ℕ) → ((t : ℕ) → In t T → In (t + s) S → P) → linked S T s ≡ true → P
unfolding linked
linked_from {P} S [] s h e = clash (cc)
linked_from {P} S (t ∷ ts) s h e = go (linked_from S ts s (λ u i m. h u (in_there u t ts i) m)) (member (t + s) S) refl e
  where
    go : (linked S ts s ≡ true → P) → (b : Bool) → member (t + s) S ≡ b → cond b true (linked S ts s) ≡ true → P
    go r true f e = h t (in_here t t ts refl) f
    go r false f e = r e

pub linked_by : (S T : List ℕ) (s t : ℕ) → In t T → In (t + s) S → linked S T s ≡ true
unfolding linked
linked_by S [] s t i m = not_nil t i
linked_by S (u ∷ us) s t i m =
    ⊎_elim
    (λ q. let h : member (u + s) S ≡ true = rw q m in rw h)
    (λ j. rw (linked_by S us s t j m) (either (member (u + s) S)))
    (in_cons t u us i)

-- ---- the sums t + s, for the exponents t in T, added to S: they, and nothing else

pub add_from : (x : ℕ) {P : Type 0} (T : List ℕ) (s : ℕ) (S : List ℕ) → ((t : ℕ) → In t T → t + s ≡ x → P) → (In x S → P) → In x (add_terms T s S) → P
unfolding add_terms
add_from x [] s S h k e = k e
add_from x (t ∷ ts) s S h k e =
    add_from x ts s (insert (t + s) S) (λ u i q. h u (in_there u t ts i) q) (λ m. ⊎_elim (λ q. h t (in_here t t ts refl) q) k (in_insert x (t + s) S m)) e

pub add_keeps : (x : ℕ) (T : List ℕ) (s : ℕ) (S : List ℕ) → In x S → In x (add_terms T s S)
unfolding add_terms
add_keeps x [] s S m = m
add_keeps x (t ∷ ts) s S m = add_keeps x ts s (insert (t + s) S) (insert_keeps x (t + s) S m)

pub add_in : (T : List ℕ) (s : ℕ) (S : List ℕ) (t : ℕ) → In t T → In (t + s) (add_terms T s S)
unfolding add_terms
add_in [] s S t i = not_nil t i
add_in (u ∷ us) s S t i =
    ⊎_elim (λ q. add_keeps (t + s) us s (insert (u + s) S) (rw q (insert_in (t + s) S))) (λ j. add_in us s (insert (u + s) S) t j) (in_cons t u us i)

-- where S has them all, nothing is added
pub add_full : (T : List ℕ) (s : ℕ) (S : List ℕ) → Rising S → ((t : ℕ) → In t T → In (t + s) S) → add_terms T s S ≡ S
unfolding add_terms
add_full [] s S r h = refl
add_full (t ∷ ts) s S r h = rw (insert_member (t + s) S r (h t (in_here t t ts refl))) (add_full ts s S r (λ u i. h u (in_there u t ts i)))
