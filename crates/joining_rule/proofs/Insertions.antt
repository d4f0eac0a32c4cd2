-- Laws of a set with every key of a list put in.
use mathlib.Core.Path.{◌≡◌, refl}
use mathlib.Core.Logic.{⊎_elim}
use mathlib.Core.List.{List, [], ◌∷◌, ◌++◌}
use Prim.Native.Nat.{ℕ}
use Rattle.joining_rule.specs.Sets.{In, insert, insert_all}
use Rattle.joining_rule.proofs.Rising.{Rising}
use Rattle.joining_rule.proofs.Elements.{not_nil, in_cons, in_here, in_there, in_insert, insert_in, insert_keeps, insert_rising}

-- ---- every key of a list put in
pub insert_all_more : (ks S : List ℕ) (k : ℕ) → insert_all (ks ++ (k ∷ [])) S ≡ insert k (insert_all ks S)
unfolding insert_all
insert_all_more [] S k = refl
insert_all_more (x ∷ ks) S k = insert_all_more ks (insert x S) k

pub insert_all_rising : (ks S : List ℕ) → Rising S → Rising (insert_all ks S)
unfolding insert_all
insert_all_rising [] S r = r
insert_all_rising (k ∷ ks) S r = insert_all_rising ks (insert k S) (insert_rising k S r)

insert_all_keeps : (x : ℕ) (ks S : List ℕ) → In x S → In x (insert_all ks S)
unfolding insert_all
insert_all_keeps x [] S m = m
insert_all_keeps x (k ∷ ks) S m = insert_all_keeps x ks (insert k S) (insert_keeps x k S m)

pub insert_all_in : (x : ℕ) (ks S : List ℕ) → In x ks → In x (insert_all ks S)
unfolding insert_all
insert_all_in x [] S m = not_nil x m
insert_all_in x (k ∷ ks) S m = ⊎_elim (λ e. insert_all_keeps x ks (insert k S) (rw e (insert_in x S))) (λ w. insert_all_in x ks (insert k S) w) (in_cons x k ks m)

pub insert_all_from : (x : ℕ) (ks S : List ℕ) {P : Type 0} → (In x ks → P) → (In x S → P) → In x (insert_all ks S) → P
unfolding insert_all
insert_all_from x [] S f g m = g m
insert_all_from x (k ∷ ks) S f g m =
    insert_all_from x ks (insert k S) (λ w. f (in_there x k ks w)) (λ w. ⊎_elim (λ e. f (in_here x k ks e)) g (in_insert x k S w)) m
