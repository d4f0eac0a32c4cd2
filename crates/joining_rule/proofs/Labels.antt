-- The block numbers through a merge and through a joining: how many there are, and the number at an index.
use mathlib.Core.Path.{◌≡◌, refl, ◌∙◌}
use mathlib.Core.Logic.{◌⊎◌, inl, inr, ⊎_elim}
use mathlib.Core.Bool.{Bool, true, false, cond}
use mathlib.Core.List.{List, [], ◌∷◌, map}
use Prim.Native.Nat.{ℕ, zero, suc, ◌+◌, ◌<◌, min, max}
use native.Mathlib.Nat.{le_of_suc-le-suc, not-suc-le-zero}
use native.Mathlib.Omega.{arith}
use lib.ListN.{length, get_or, length-map}
use lib.Dec.{eqb}
use borrow.Author.Tests.{eqb-true, eqb-false, ne_eqb}
use Rattle.joining_rule.specs.Join.{linked, renamed, merged, join_pair, join}
use Rattle.joining_rule.proofs.Pairs.{pairs_keep}

map_at : (f : ℕ → ℕ) (l : List ℕ) (x : ℕ) → x < length l → get_or (map f l) x 0 ≡ f (get_or l x 0)
map_at f [] x h = absurd (not-suc-le-zero h)
map_at f (y ∷ ys) zero h = refl
map_at f (y ∷ ys) (suc x) h = map_at f ys x (le_of_suc-le-suc h)

-- block number x where the blocks a and b are made one
abbrev pub in_one : ℕ → ℕ → ℕ → ℕ
in_one a b x = renamed (max a b) (min a b) x

module _ (a b : ℕ) (L : List ℕ) where
  pub merged_long : length (merged a b L) ≡ length L
  unfolding merged
  merged_long = length-map L (in_one a b)

  pub merged_at : (x : ℕ) → x < length L → get_or (merged a b L) x 0 ≡ in_one a b (get_or L x 0)
  unfolding merged
  merged_at x h = map_at (in_one a b) L x h

-- the two take the lower of their numbers, and any other block keeps its own
pub data InOne (a b x : ℕ) : ℕ → Type 0 where
  two : (x ≡ a) ⊎ (x ≡ b) → InOne a b x (min a b)
  other : (x ≡ a → ⊥) → (x ≡ b → ⊥) → InOne a b x x

module _ (a b : ℕ) where
  pub two_low : (x : ℕ) → (x ≡ a) ⊎ (x ≡ b) → in_one a b x ≡ min a b
  two_low x h = go (eqb x (max a b)) refl
    where
      go : (d : Bool) → eqb x (max a b) ≡ d → cond d (min a b) x ≡ min a b
      go true e = refl
      go false e = let n : x ≡ max a b → ⊥ = eqb-false x (max a b) e in ⊎_elim (λ q. omega arith) (λ q. omega arith) h

  pub other_same : (x : ℕ) → (x ≡ a → ⊥) → (x ≡ b → ⊥) → in_one a b x ≡ x
  other_same x p q = rw (ne_eqb x (max a b) (λ e. omega arith))

  pub in_one_lem : (x : ℕ) → InOne a b x (in_one a b x)
  in_one_lem x = go (eqb x a) refl (eqb x b) refl
    where
      go : (c : Bool) → eqb x a ≡ c → (d : Bool) → eqb x b ≡ d → InOne a b x (in_one a b x)
      go true e d f = let h : (x ≡ a) ⊎ (x ≡ b) = inl (eqb-true x a e) in rw (two_low x h) (two h)
      go false e true f = let h : (x ≡ a) ⊎ (x ≡ b) = inr (eqb-true x b f) in rw (two_low x h) (two h)
      go false e false f = rw (other_same x (eqb-false x a e) (eqb-false x b f)) (other (eqb-false x a e) (eqb-false x b f))

module _ (S T B : List ℕ) where
  pub pair_long : (i k : ℕ) (L : List ℕ) → length (join_pair S T B i k L) ≡ length L
  unfolding join_pair
  pair_long i k L = go (linked S T (get_or B i 0 + get_or B k 0))
    where
      go : (b : Bool) → length (cond b (merged (get_or L i 0) (get_or L k 0) L) L) ≡ length L
      go true = merged_long (get_or L i 0) (get_or L k 0) L
      go false = refl

  pub join_long : (L : List ℕ) → length (join S T B L) ≡ length L
  unfolding join
  join_long L = pairs_keep (length B) (λ i. i + 1) (join_pair S T B) (λ M. length M ≡ length L) (λ i k M _ _ _ e. pair_long i k M ∙ e) L refl
