-- The products of two lists of indices added to a set: they, and nothing else. For one basis.
use mathlib.Core.Path.{◌≡◌, refl}
use mathlib.Core.Logic.{inl, inr, ⊎_elim}
use mathlib.Core.List.{List, [], ◌∷◌}
use Prim.Native.Nat.{ℕ, ◌+◌, ◌<◌}
use lib.ListN.{length, get_or}
use Rattle.joining_rule.specs.Sets.{In}
use Rattle.joining_rule.specs.Extend.{add_terms}
use Rattle.joining_rule.proofs.Elements.{not_nil, in_cons, in_here, in_there}
use Rattle.joining_rule.proofs.Members.{add_from, add_in}
use Rattle.joining_rule.proofs.Extending.{Extends, extends_refl, extends_trans, add_extends}
use Rattle.round_laws.specs.Added.{Crossed, add_list, add_lists}

module _ (T B : List ℕ) where
  pub list_extends : (k : ℕ) (is S : List ℕ) → Extends S (add_list T B k is S)
  unfolding add_list
  list_extends k [] S = extends_refl S
  list_extends k (i ∷ is) S =
      extends_trans S (add_terms T (get_or B i 0 + get_or B k 0) S) _ (add_extends T (get_or B i 0 + get_or B k 0) S) (list_extends k is (add_terms T (get_or B i 0 + get_or B k 0) S))

  pub lists_extend : (is ks S : List ℕ) → Extends S (add_lists T B is ks S)
  unfolding add_lists
  lists_extend is [] S = extends_refl S
  lists_extend is (k ∷ ks) S = extends_trans S (add_list T B k is S) _ (list_extends k is S) (lists_extend is ks (add_list T B k is S))

  list_in : (k : ℕ) (is S : List ℕ) (i t : ℕ) → In i is → In t T → In (t + (get_or B i 0 + get_or B k 0)) (add_list T B k is S)
  unfolding add_list
  list_in k [] S i t m h = not_nil i m
  list_in k (j ∷ js) S i t m h =
      ⊎_elim
      (λ e. (list_extends k js (add_terms T (get_or B j 0 + get_or B k 0) S)).keeps _ (rw (← e) (add_in T (get_or B j 0 + get_or B k 0) S t h)))
      (λ n. list_in k js (add_terms T (get_or B j 0 + get_or B k 0) S) i t n h)
      (in_cons i j js m)

  lists_in : (is ks S : List ℕ) (i k t : ℕ) → In i is → In k ks → In t T → In (t + (get_or B i 0 + get_or B k 0)) (add_lists T B is ks S)
  unfolding add_lists
  lists_in is [] S i k t m q h = not_nil k q
  lists_in is (l ∷ ls) S i k t m q h =
      ⊎_elim
      (λ e. (lists_extend is ls (add_list T B l is S)).keeps _ (rw (← e) (list_in l is S i t m h)))
      (λ n. lists_in is ls (add_list T B l is S) i k t m n h)
      (in_cons k l ls q)

  list_from : (x : ℕ) {P : Type 0} (k : ℕ) (is S : List ℕ) → ((i t : ℕ) → In i is → In t T → t + (get_or B i 0 + get_or B k 0) ≡ x → P) → (In x S → P) → In x (add_list T B k is S) → P
  unfolding add_list
  list_from x k [] S f h m = h m
  list_from x k (j ∷ js) S f h m =
      list_from x k js (add_terms T (get_or B j 0 + get_or B k 0) S) (λ i t n q e. f i t (in_there i j js n) q e)
      (λ n. add_from x T (get_or B j 0 + get_or B k 0) S (λ t q e. f j t (in_here j j js refl) q e) h n) m

  lists_from : (x : ℕ) {P : Type 0} (is ks S : List ℕ) → ((i k t : ℕ) → In i is → In k ks → In t T → t + (get_or B i 0 + get_or B k 0) ≡ x → P) → (In x S → P) → In x (add_lists T B is ks S) → P
  unfolding add_lists
  lists_from x is [] S f h m = h m
  lists_from x is (l ∷ ls) S f h m =
      lists_from x is ls (add_list T B l is S) (λ i k t n q u e. f i k t n (in_there k l ls q) u e)
      (λ n. list_from x l is S (λ i t q u e. f i l t q (in_here l l ls refl) u e) h n) m

  -- the products of two blocks, by the lists of their indices
  pub lists_crossed : (L : List ℕ) (a b : ℕ) (is ks S : List ℕ)
      → ((x : ℕ) → In x is → (x < length B) × (get_or L x 0 ≡ a)) → ((x : ℕ) → x < length B → get_or L x 0 ≡ a → In x is)
      → ((x : ℕ) → In x ks → (x < length B) × (get_or L x 0 ≡ b)) → ((x : ℕ) → x < length B → get_or L x 0 ≡ b → In x ks)
      → Crossed T B L a b S (add_lists T B is ks S)
  lists_crossed L a b is ks S p q u v = record {
    rising = (lists_extend is ks S).rising;
    keeps = (lists_extend is ks S).keeps;
    adds = λ x c.
        rw (← c.value) (lists_in is ks S c.i c.k c.t (q c.i c.first c.low) (v c.k c.second c.high) c.exponent);
    only = λ x m.
        lists_from x is ks S
        (λ i k t n w h e.
        inr (record { i = i; k = k; t = t; first = (p i n).0; second = (u k w).0; exponent = h; low = (p i n).1; high = (u k w).1; value = e }))
        (λ n. inl n) m;
  }
