-- A joining puts linked indices in one block. For one basis.
use mathlib.Core.Path.{◌≡◌, refl, sym, ap, ◌∙◌}
use mathlib.Core.Logic.{inl, inr}
use mathlib.Core.Bool.{Bool, true, false, cond}
use mathlib.Core.List.{List}
use Prim.Native.Nat.{ℕ, ◌+◌, ◌<◌}
use native.Mathlib.Nat.{add_comm}
use native.Mathlib.Omega.{arith}
use lib.ListN.{length, get_or}
use lib.Dec.{ltb}
use borrow.Author.Tests.{ltb-true, ltb-false}
use Rattle.joining_rule.specs.Join.{linked, merged, join_pair, join}
use Rattle.joining_rule.proofs.Pairs.{pairs_keep, pairs_reach}
use Rattle.joining_rule.proofs.Labels.{in_one, merged_at, two_low, pair_long}

-- linked indices have one block number
pub record Joined (S T B L : List ℕ) : Type 0 where
  pub at : (i k : ℕ) → i < length B → k < length B → linked S T (get_or B i 0 + get_or B k 0) ≡ true → get_or L i 0 ≡ get_or L k 0

-- what is in one block stays in one
pub merged_equal : (a b : ℕ) (L : List ℕ) (x y : ℕ) → x < length L → y < length L → get_or L x 0 ≡ get_or L y 0 → get_or (merged a b L) x 0 ≡ get_or (merged a b L) y 0
merged_equal a b L x y hx hy e = merged_at a b L x hx ∙ ap (in_one a b) e ∙ sym (merged_at a b L y hy)

-- two blocks made one are one
pub merged_one : (L : List ℕ) (x y : ℕ) → x < length L → y < length L → get_or (merged (get_or L x 0) (get_or L y 0) L) x 0 ≡ get_or (merged (get_or L x 0) (get_or L y 0) L) y 0
merged_one L x y hx hy =
    let a = get_or L x 0 in
    let b = get_or L y 0 in
    merged_at a b L x hx ∙ two_low a b a (inl refl) ∙ sym (merged_at a b L y hy ∙ two_low a b b (inr refl))

module _ (S T B : List ℕ) where
  pub pair_equal : (x y i k : ℕ) (L : List ℕ) → x < length L → y < length L → get_or L x 0 ≡ get_or L y 0 → get_or (join_pair S T B i k L) x 0 ≡ get_or (join_pair S T B i k L) y 0
  unfolding join_pair
  pair_equal x y i k L hx hy e = go (linked S T (get_or B i 0 + get_or B k 0))
    where
      go : (b : Bool) → get_or (cond b (merged (get_or L i 0) (get_or L k 0) L) L) x 0 ≡ get_or (cond b (merged (get_or L i 0) (get_or L k 0) L) L) y 0
      go true = merged_equal (get_or L i 0) (get_or L k 0) L x y hx hy e
      go false = e

  -- a joining keeps in one block what is in one
  pub join_equal : (L : List ℕ) → length L ≡ length B → (x y : ℕ) → x < length B → y < length B → get_or L x 0 ≡ get_or L y 0 → get_or (join S T B L) x 0 ≡ get_or (join S T B L) y 0
  unfolding join
  join_equal L l x y hx hy e =
      (pairs_keep (length B) (λ i. i + 1) (join_pair S T B) (λ M. (length M ≡ length B) × (get_or M x 0 ≡ get_or M y 0))
      (λ i k M _ _ _ q. let n = q.0 in (pair_long S T B i k M ∙ n, pair_equal x y i k M (omega arith) (omega arith) q.1)) L (l, e)).1

  pair_joins : (i k : ℕ) (L : List ℕ) → i < length L → k < length L → linked S T (get_or B i 0 + get_or B k 0) ≡ true → get_or (join_pair S T B i k L) i 0 ≡ get_or (join_pair S T B i k L) k 0
  unfolding join_pair
  pair_joins i k L hi hk e = rw e (merged_one L i k hi hk)

  in_order : (L : List ℕ) → length L ≡ length B → (i k : ℕ) → i < k → k < length B → linked S T (get_or B i 0 + get_or B k 0) ≡ true → get_or (join S T B L) i 0 ≡ get_or (join S T B L) k 0
  unfolding join
  in_order L l i k h u =
      pairs_reach (length B) (λ i. i + 1) (join_pair S T B) (λ M. length M ≡ length B) (λ i k M. linked S T (get_or B i 0 + get_or B k 0) ≡ true → get_or M i 0 ≡ get_or M k 0)
      (λ i k M _ _ _ q. pair_long S T B i k M ∙ q)
      (λ i k M b _ c q. pair_joins i k M (omega arith) (omega arith))
      (λ i k x y M b c _ _ q f e. pair_equal i k x y M (omega arith) (omega arith) (f e))
      i k (omega arith) (omega arith) u L l

  -- a joining puts linked indices in one block
  pub join_joined : (L : List ℕ) → length L ≡ length B → Joined S T B (join S T B L)
  join_joined L l = record { at = λ i k hi hk e. go i k hi hk e (ltb i k) refl (ltb k i) refl }
    where
      go : (i k : ℕ) → i < length B → k < length B → linked S T (get_or B i 0 + get_or B k 0) ≡ true → (b : Bool) → ltb i k ≡ b → (d : Bool) → ltb k i ≡ d
          → get_or (join S T B L) i 0 ≡ get_or (join S T B L) k 0
      go i k hi hk e true p d q = in_order L l i k (ltb-true i k p) hk e
      go i k hi hk e false p true q = sym (in_order L l k i (ltb-true k i q) hi (rw (add_comm (get_or B k 0) (get_or B i 0)) e))
      go i k hi hk e false p false q = ap (λ (x : ℕ). get_or (join S T B L) x 0) (omega (arith, ltb-false i k p, ltb-false k i q))
