-- A support that has every sum t + b + b' with b, b' in one block: an extension makes it so, and then adds nothing more. For one basis.
use mathlib.Core.Path.{◌≡◌, refl, sym}
use mathlib.Core.Bool.{Bool, true, false, cond}
use mathlib.Core.List.{List}
use Prim.Native.Nat.{ℕ, ◌+◌, ◌<◌}
use native.Mathlib.Nat.{add_comm}
use native.Mathlib.Omega.{arith}
use lib.ListN.{length, get_or}
use lib.Dec.{eqb, ltb}
use borrow.Author.Tests.{eqb-true, eq-eqb, ltb-true, ltb-false}
use Rattle.joining_rule.specs.Sets.{In}
use Rattle.joining_rule.proofs.Rising.{Rising}
use Rattle.counting.proofs.Steps.{from_to_fixed}
use Rattle.joining_rule.specs.Extend.{add_terms, add_pair, add_row, extend}
use Rattle.joining_rule.proofs.FullSets.{FullAt, Full}
use Rattle.joining_rule.proofs.Pairs.{pairs_keep, pairs_reach}
use Rattle.joining_rule.proofs.Members.{add_keeps, add_in, add_full}

module _ (T B L : List ℕ) where
  pair_keeps : (x i k : ℕ) (S : List ℕ) → In x S → In x (add_pair T B L i k S)
  unfolding add_pair
  pair_keeps x i k S m = go (eqb (get_or L i 0) (get_or L k 0))
    where
      go : (b : Bool) → In x (cond b (add_terms T (get_or B i 0 + get_or B k 0) S) S)
      go true = add_keeps x T (get_or B i 0 + get_or B k 0) S m
      go false = m

  -- the extension takes nothing away
  pub extend_keeps : (x : ℕ) (S : List ℕ) → In x S → In x (extend T B L S)
  unfolding extend
  extend_keeps x S m = pairs_keep (length B) (λ i. i) (add_pair T B L) (In x) (λ i k S' _ _ _ h. pair_keeps x i k S' h) S m

  pair_fills : (i k : ℕ) (S : List ℕ) → FullAt T B L i k (add_pair T B L i k S)
  unfolding add_pair
  pair_fills i k S = record { at = λ e t h. rw (eq-eqb (get_or L i 0) (get_or L k 0) e) (add_in T (get_or B i 0 + get_or B k 0) S t h) }

  -- the extension adds every sum of a pair in one block
  pub extend_full : (S : List ℕ) → Full T B L (extend T B L S)
  unfolding extend
  extend_full S = record {
    at = λ i k h u.
        pairs_reach (length B) (λ i. i) (add_pair T B L) (λ _. Unit {0}) (FullAt T B L) (λ _ _ _ _ _ _ _. tt) (λ i k S' _ _ _ _. pair_fills i k S')
        (λ i k x y S' _ _ _ _ _ f. record { at = λ e t m. pair_keeps _ x y S' (f.at e t m) }) i k (omega arith) h u S tt;
  }

  pub pair_done : (i k : ℕ) (S : List ℕ) → Rising S → FullAt T B L i k S → add_pair T B L i k S ≡ S
  unfolding add_pair
  pair_done i k S r f = go (eqb (get_or L i 0) (get_or L k 0)) refl
    where
      go : (b : Bool) → eqb (get_or L i 0) (get_or L k 0) ≡ b → cond b (add_terms T (get_or B i 0 + get_or B k 0) S) S ≡ S
      go true e = add_full T (get_or B i 0 + get_or B k 0) S r (f.at (eqb-true (get_or L i 0) (get_or L k 0) e))
      go false e = refl

  -- where S has them all, the extension adds nothing
  pub extend_done : (S : List ℕ) → Rising S → Full T B L S → extend T B L S ≡ S
  unfolding extend
  extend_done S r f = from_to_fixed (add_row T B L) (length B) 0 S (λ i _ _. from_to_fixed (add_pair T B L i) (length B) i S (λ k h u. pair_done i k S r (f.at i k h u)))

  -- the two indices in any order
  pub full_any : (S : List ℕ) → Full T B L S → (i k t : ℕ) → i < length B → k < length B → get_or L i 0 ≡ get_or L k 0 → In t T → In (t + (get_or B i 0 + get_or B k 0)) S
  full_any S f i k t hi hk e m = go (ltb k i) refl
    where
      go : (b : Bool) → ltb k i ≡ b → In (t + (get_or B i 0 + get_or B k 0)) S
      go true q = rw (add_comm (get_or B i 0) (get_or B k 0)) ((f.at k i (omega (arith, ltb-true k i q)) hi).at (sym e) t m)
      go false q = (f.at i k (ltb-false k i q) hk).at e t m
